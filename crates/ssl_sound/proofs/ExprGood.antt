-- An expression that is formed well, of counted calls, with a width and no widths that differ, is good once expanded.
use Rattle.std.proofs.Common.{◌≡◌, ℕ, ◌+◌, ◌-◌, ◌*◌, ◌/◌, ◌^◌, ◌&&◌, true, List, [], ◌∷◌, map, length, Option, Some, None, refl, sym, ap, ◌∙◌, subst, arith, inl, inr}
use Rattle.std.proofs.lemmas.Bool.{and_parts, or_cases, eqb-true, leb-true, ltb-true}
use Rattle.std.proofs.lemmas.Option.{none-some, same_Some, cond_some}
use Rattle.std.proofs.lemmas.List.Folds.{list_all-map}
use Rattle.std.specs.Prelude.{option_and_then, is_some, nat_le, nat_lt, nat_eq}
use Rattle.std.specs.List.{list_all}
use Rattle.std.specs.Option.{option_or}
use Rattle.line_reading.proofs.ListReads.{Each}
use Rattle.ssl_syntax.specs.declared.line.SslExpr.{SslExpr}
use Rattle.ssl_syntax.specs.declared.line.SslExpr.TheVariants as X
use Rattle.ssl_syntax.specs.declared.line.SslExpr.TheOpen.{SslExpr-F}
use Rattle.ssl_syntax.specs.Words.{is_load, is_free}
use Rattle.ssl_syntax.specs.Operators.{is_binary}
use Rattle.ssl_syntax.specs.Expressions.{is_formed}
use Rattle.ssl_syntax.proofs.ExprLaws.{formed-Load, formed-Not, formed-Neg, formed-Bin, formed-Bits, formed-Zext, formed-Sext, formed-If, formed-Call}
use Rattle.ssl_syntax.proofs.FoldLaws.{fold-Number, fold-Named, fold-At, fold-AtOp, fold-Load, fold-Not, fold-Neg, fold-Bin, fold-Bits, fold-Zext, fold-Sext, fold-If, fold-Call, fold-Pc, fold-Next}
use Rattle.ssl_syntax.proofs.InductExpr.{induct-SslExpr}
use Rattle.rtl_core.specs.declared.encodings.OperandKind.{OperandKind}
use Rattle.rtl_core.specs.declared.expr.Un.TheVariants as un
use Rattle.rtl_core.specs.Access.{is_size}
use Rattle.ssl_rules.specs.declared.formula.Leaf.TheVariants as leaf
use Rattle.ssl_rules.specs.declared.formula.Formula.{Formula}
use Rattle.ssl_rules.specs.declared.formula.Formula.TheVariants as F
use Rattle.ssl_rules.specs.declared.tables.Function.{Function}
use Rattle.ssl_rules.specs.declared.widths.Measure.{Measure}
use Rattle.ssl_rules.specs.Operators.{operator}
use Rattle.ssl_rules.specs.Names.{Scope, function_named}
use Rattle.ssl_rules.specs.Counted.{is_counted_expr, node_counted, takes}
use Rattle.ssl_rules.specs.Widths.{is_width, measured, node_measured, asked, args_differ, call_differs, called_width}
use Rattle.ssl_rules.specs.Formulas.{expanded, node_expanded, put_in, call_formula}
use Rattle.ssl_checks.proofs.CallLaws.{counted_call, measured_call}
use Rattle.ssl_sound.proofs.Good.{Frame, IsGood, AreGood}
use Rattle.ssl_sound.proofs.GoodForms.{as_good, good-Const, good-Pc, good-Next, good-Load, good-Un, good-Bin, good-Slice, good-Zext, good-Sext, good-If}
use Rattle.ssl_sound.proofs.Measures.{IsFine, none_parts, asked-some, load-parts, bin-parts, slice-parts, extended-parts, choice-parts}
use Rattle.ssl_sound.proofs.Scopes.{IsGoodScope}
use Rattle.ssl_sound.proofs.GoodNames.{lone-good, at-good, at_op-good}

-- ---- loads

abbrev pub IsSized : ℕ → Type 0
IsSized bits = (is_size (bits / 8) ≡ true) × (8 * (bits / 8) ≡ bits)

pub load-sized : (bits : ℕ) → is_load bits ≡ true → IsSized bits
load-sized bits e =
    elim (or_cases (nat_eq bits 8) _ e) [
      | inl h ↦ subst IsSized (sym (eqb-true bits 8 h)) (refl, refl)
      | inr h ↦ elim (or_cases (nat_eq bits 16) _ h) [
        | inl i ↦ subst IsSized (sym (eqb-true bits 16 i)) (refl, refl)
        | inr i ↦ elim (or_cases (nat_eq bits 32) (nat_eq bits 64) i) [
          | inl j ↦ subst IsSized (sym (eqb-true bits 32 j)) (refl, refl)
          | inr j ↦ subst IsSized (sym (eqb-true bits 64 j)) (refl, refl)
        ]
      ]
    ]

-- ---- calls

module _ (E : Frame) (kinds : List OperandKind) (close : Formula → Formula) (s : Scope) (g : IsGoodScope E kinds close s) where
  abbrev IsGoodExpr : SslExpr → Type 0
  IsGoodExpr e = is_formed e ≡ true → is_counted_expr s e ≡ true → (w : ℕ) → IsFine (measured s e) w → IsGood E kinds (close (expanded s e)) w

  args-good : (ps : List ℕ) (es : List SslExpr) → length es ≡ length ps → Each IsGoodExpr es → list_all is_formed es ≡ true → list_all (is_counted_expr s) es ≡ true
      → list_all (λ e. is_some (measured s e).width) es ≡ true → args_differ ps (map (measured s) es) ≡ None → AreGood E kinds (map close (map (expanded s) es)) ps
  args-good [] [] count each formed counted ranged same = tt
  args-good [] (e ∷ es) count each formed counted ranged same = absurd (omega arith)
  args-good (p ∷ ps) [] count each formed counted ranged same = absurd (omega arith)
  args-good (p ∷ ps) (e ∷ es) count each formed counted ranged same =
      let few : length es ≡ length ps = omega arith in
      let f = and_parts (is_formed e) (list_all is_formed es) formed in
      let c = and_parts (is_counted_expr s e) (list_all (is_counted_expr s) es) counted in
      let r = and_parts (is_some (measured s e).width) (list_all (λ x. is_some (measured s x).width) es) ranged in
      let d = none_parts (measured s e).differs (option_or (asked p (measured s e).width) (args_differ ps (map (measured s) es))) same in
      let a = none_parts (asked p (measured s e).width) (args_differ ps (map (measured s) es)) d.1 in
      (each.0 f.0 c.0 p (record { width = asked-some p (measured s e).width r.0 a.0; same = d.0 }), args-good ps es few each.1 f.1 c.1 r.1 a.1)

  call-good : (x : List ℕ) (es : List SslExpr) (o : Option Function) (w : ℕ) → function_named s.tables x ≡ o → Each IsGoodExpr es → list_all is_formed es ≡ true
      → (takes o (length es) && list_all (is_counted_expr s) es) ≡ true → option_and_then (called_width (list_all (λ e. is_some (measured s e).width) es)) o ≡ Some w
      → call_differs o (map (measured s) es) ≡ None → IsGood E kinds (close (call_formula o (map (expanded s) es))) w
  call-good x es None w is each formed counted width same = absurd (none-some w width)
  call-good x es (Some f) w is each formed counted width same =
      let c = and_parts (takes (Some f) (length es)) (list_all (is_counted_expr s) es) counted in
      let r = cond_some (list_all (λ e. is_some (measured s e).width) es) f.width w width in
      let args = args-good f.params es (sym (eqb-true (length f.params) (length es) c.0)) each formed c.1 r.0 same in
      as_good E kinds (put_in (map close (map (expanded s) es)) f.body) (close (put_in (map (expanded s) es) f.body)) f.width w
      ((g.functions x f is).call kinds (map close (map (expanded s) es)) args) r.1 (g.closes.on_call (map (expanded s) es) f.body)

  -- the measure of a node
  at-node : (e : SslExpr) (m : Measure) (w : ℕ) → measured s e ≡ m → IsFine (measured s e) w → IsFine m w
  at-node e m w is fine = subst (λ x. IsFine x w) is fine

  -- ---- all expressions

  pub expr-good : (e : SslExpr) → IsGoodExpr e
  unfolding expanded
  expr-good = induct-SslExpr IsGoodExpr (record {
    on_number = λ v w formed counted u fine.
        let f = at-node (X.Number v w) (node_measured s (SslExpr-F.Number v w)) u (fold-Number (node_measured s) v w) fine in
        let c = cond_some (is_width w && nat_lt v (2 ^ w)) w u f.width in
        let t = and_parts (is_width w) (nat_lt v (2 ^ w)) c.0 in
        let b = and_parts (nat_le 1 w) (nat_le w 64) t.0 in
        as_good E kinds (F.Leaf (leaf.Const w v)) (close (expanded s (X.Number v w))) w u
        (good-Const E kinds w v (leb-true 1 w b.0, leb-true w 64 b.1) (ltb-true v (2 ^ w) t.1)) c.1 (ap close (fold-Number (node_expanded s) v w) ∙ g.closes.on_leaf (leaf.Const w v));
    on_named = λ x formed counted u fine.
        let f = at-node (X.Named x) (node_measured s (SslExpr-F.Named x)) u (fold-Named (node_measured s) x) fine in
        subst (λ y. IsGood E kinds (close y) u) (sym (fold-Named (node_expanded s) x)) (lone-good E kinds close s g x u f.width);
    on_at = λ x i formed counted u fine.
        let f = at-node (X.At x i) (node_measured s (SslExpr-F.At x i)) u (fold-At (node_measured s) x i) fine in
        subst (λ y. IsGood E kinds (close y) u) (sym (fold-At (node_expanded s) x i)) (at-good E kinds close s g x i u f.width);
    on_at_op = λ x op formed counted u fine.
        let f = at-node (X.AtOp x op) (node_measured s (SslExpr-F.AtOp x op)) u (fold-AtOp (node_measured s) x op) fine in
        subst (λ y. IsGood E kinds (close y) u) (sym (fold-AtOp (node_expanded s) x op)) (at_op-good E kinds close s g x op u f.width);
    on_load = λ n a p formed counted u fine.
        let f = at-node (X.Load n a) (node_measured s (SslExpr-F.Load n (measured s a))) u (fold-Load (node_measured s) n a) fine in
        let t = and_parts (is_load n) (is_formed a) (sym (formed-Load n a) ∙ formed) in
        let z = load-sized n t.0 in
        let m = load-parts (measured s a).width (measured s a).differs n u f.width f.same in
        as_good E kinds (F.Load (n / 8) (close (expanded s a))) (close (expanded s (X.Load n a))) (8 * (n / 8)) u
        (good-Load E kinds (n / 8) (close (expanded s a)) (p t.1 (sym (fold-Load (node_counted s) n a) ∙ counted) 32 (record { width = m.0; same = m.1 })) z.0)
        (z.1 ∙ m.2) (ap close (fold-Load (node_expanded s) n a) ∙ g.closes.on_load (n / 8) (expanded s a));
    on_not = λ a p formed counted u fine.
        let f = at-node (X.Not a) (node_measured s (SslExpr-F.Not (measured s a))) u (fold-Not (node_measured s) a) fine in
        as_good E kinds (F.Un un.Not (close (expanded s a))) (close (expanded s (X.Not a))) u u
        (good-Un E kinds un.Not (close (expanded s a)) u (p (sym (formed-Not a) ∙ formed) (sym (fold-Not (node_counted s) a) ∙ counted) u (record { width = f.width; same = f.same })))
        refl (ap close (fold-Not (node_expanded s) a) ∙ g.closes.on_un un.Not (expanded s a));
    on_neg = λ a p formed counted u fine.
        let f = at-node (X.Neg a) (node_measured s (SslExpr-F.Neg (measured s a))) u (fold-Neg (node_measured s) a) fine in
        as_good E kinds (F.Un un.Neg (close (expanded s a))) (close (expanded s (X.Neg a))) u u
        (good-Un E kinds un.Neg (close (expanded s a)) u (p (sym (formed-Neg a) ∙ formed) (sym (fold-Neg (node_counted s) a) ∙ counted) u (record { width = f.width; same = f.same })))
        refl (ap close (fold-Neg (node_expanded s) a) ∙ g.closes.on_un un.Neg (expanded s a));
    on_bin = λ op a b p q formed counted u fine.
        let f = at-node (X.Bin op a b) (node_measured s (SslExpr-F.Bin op (measured s a) (measured s b))) u (fold-Bin (node_measured s) op a b) fine in
        let t = and_parts (is_binary op) (is_formed a && is_formed b) (sym (formed-Bin op a b) ∙ formed) in
        let fs = and_parts (is_formed a) (is_formed b) t.1 in
        let cs = and_parts (is_counted_expr s a) (is_counted_expr s b) (sym (fold-Bin (node_counted s) op a b) ∙ counted) in
        let m = bin-parts (operator op) (measured s a).width (measured s b).width (measured s a).differs (measured s b).differs u f.width f.same in
        as_good E kinds (F.Bin (operator op) (close (expanded s a)) (close (expanded s b))) (close (expanded s (X.Bin op a b))) _ u
        (good-Bin E kinds (operator op) (close (expanded s a)) (close (expanded s b)) m.side
        (p fs.0 cs.0 m.side (record { width = m.left; same = m.left_same })) (q fs.1 cs.1 m.side (record { width = m.right; same = m.right_same })))
        m.width (ap close (fold-Bin (node_expanded s) op a b) ∙ g.closes.on_bin (operator op) (expanded s a) (expanded s b));
    on_bits = λ a lo hi p formed counted u fine.
        let f = at-node (X.Bits a lo hi) (node_measured s (SslExpr-F.Bits (measured s a) lo hi)) u (fold-Bits (node_measured s) a lo hi) fine in
        let m = slice-parts (measured s a).width lo hi u f.width in
        as_good E kinds (F.Slice (close (expanded s a)) lo hi) (close (expanded s (X.Bits a lo hi))) (hi + 1 - lo) u
        (good-Slice E kinds (close (expanded s a)) lo hi m.whole
        (p (sym (formed-Bits a lo hi) ∙ formed) (sym (fold-Bits (node_counted s) a lo hi) ∙ counted) m.whole (record { width = m.is; same = f.same })) m.ordered m.below)
        m.width (ap close (fold-Bits (node_expanded s) a lo hi) ∙ g.closes.on_slice (expanded s a) lo hi);
    on_zext = λ w a p formed counted u fine.
        let f = at-node (X.Zext w a) (node_measured s (SslExpr-F.Zext w (measured s a))) u (fold-Zext (node_measured s) w a) fine in
        let m = extended-parts (measured s a).width w u f.width in
        as_good E kinds (F.Zext w (close (expanded s a))) (close (expanded s (X.Zext w a))) w u
        (good-Zext E kinds w m.narrow (close (expanded s a))
        (p (sym (formed-Zext w a) ∙ formed) (sym (fold-Zext (node_counted s) w a) ∙ counted) m.narrow (record { width = m.is; same = f.same })) m.wider m.few)
        m.width (ap close (fold-Zext (node_expanded s) w a) ∙ g.closes.on_zext w (expanded s a));
    on_sext = λ w a p formed counted u fine.
        let f = at-node (X.Sext w a) (node_measured s (SslExpr-F.Sext w (measured s a))) u (fold-Sext (node_measured s) w a) fine in
        let m = extended-parts (measured s a).width w u f.width in
        as_good E kinds (F.Sext w (close (expanded s a))) (close (expanded s (X.Sext w a))) w u
        (good-Sext E kinds w m.narrow (close (expanded s a))
        (p (sym (formed-Sext w a) ∙ formed) (sym (fold-Sext (node_counted s) w a) ∙ counted) m.narrow (record { width = m.is; same = f.same })) m.wider m.few)
        m.width (ap close (fold-Sext (node_expanded s) w a) ∙ g.closes.on_sext w (expanded s a));
    on_if = λ c a b p q r formed counted u fine.
        let f = at-node (X.If c a b) (node_measured s (SslExpr-F.If (measured s c) (measured s a) (measured s b))) u (fold-If (node_measured s) c a b) fine in
        let ft = and_parts (is_formed c) (is_formed a && is_formed b) (sym (formed-If c a b) ∙ formed) in
        let fs = and_parts (is_formed a) (is_formed b) ft.1 in
        let ct = and_parts (is_counted_expr s c) (is_counted_expr s a && is_counted_expr s b) (sym (fold-If (node_counted s) c a b) ∙ counted) in
        let cs = and_parts (is_counted_expr s a) (is_counted_expr s b) ct.1 in
        let m = choice-parts (measured s c).width (measured s a).width (measured s b).width (measured s c).differs (measured s a).differs (measured s b).differs u f.width f.same in
        as_good E kinds (F.If (close (expanded s c)) (close (expanded s a)) (close (expanded s b))) (close (expanded s (X.If c a b))) u u
        (good-If E kinds (close (expanded s c)) (close (expanded s a)) (close (expanded s b)) u
        (p ft.0 ct.0 1 (record { width = m.test; same = m.test_same })) (q fs.0 cs.0 u (record { width = m.left; same = m.left_same }))
        (r fs.1 cs.1 u (record { width = m.right; same = m.right_same })))
        refl (ap close (fold-If (node_expanded s) c a b) ∙ g.closes.on_if (expanded s c) (expanded s a) (expanded s b));
    on_call = λ x es each formed counted u fine.
        let f = subst (λ m. IsFine m u) (measured_call s x es) fine in
        let t = and_parts (is_free x) (list_all (λ b. b) (map is_formed es)) (sym (formed-Call x es) ∙ formed) in
        subst (λ y. IsGood E kinds (close y) u) (sym (fold-Call (node_expanded s) x es))
        (call-good x es (function_named s.tables x) u refl each (sym (list_all-map (λ b. b) is_formed es) ∙ t.1) (sym (counted_call s x es) ∙ counted) f.width f.same);
    on_pc = λ formed counted u fine.
        let f = at-node X.Pc (node_measured s SslExpr-F.Pc) u (fold-Pc (node_measured s)) fine in
        as_good E kinds (F.Leaf leaf.Pc) (close (expanded s X.Pc)) 32 u (good-Pc E kinds) (same_Some 32 u f.width) (ap close (fold-Pc (node_expanded s)) ∙ g.closes.on_leaf leaf.Pc);
    on_next = λ formed counted u fine.
        let f = at-node X.Next (node_measured s SslExpr-F.Next) u (fold-Next (node_measured s)) fine in
        as_good E kinds (F.Leaf leaf.Next) (close (expanded s X.Next)) 32 u (good-Next E kinds) (same_Some 32 u f.width) (ap close (fold-Next (node_expanded s)) ∙ g.closes.on_leaf leaf.Next);
  })
