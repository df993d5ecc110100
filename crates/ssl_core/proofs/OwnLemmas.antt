-- The own names of a line.
use Rattle.std.proofs.Common.{◌≡◌, ℕ, zero, suc, ◌+◌, ◌<◌, ◌≤◌, true, false, cond, not, ◌&&◌, List, [], ◌∷◌, ◌++◌, length, get_or, drop, map, min, Some, None, nat_eq, refl, sym, ap, ◌∙◌, ◌⊎◌, inl, inr, arith}
use Rattle.std.specs.Option.{option_or}
use Rattle.std.specs.List.{list_any}
use Rattle.std.specs.Cmp.Lexicographic.{pointwise}
use Rattle.std.proofs.Math.ListN.{drop_of_length-le}
use Rattle.std.proofs.lemmas.List.{append-nil, drop_more}
use Rattle.ssl_syntax.specs.declared.line.Param.{Param as ParamLine}
use Rattle.ssl_syntax.specs.declared.line.SslBody.{SslBody}
use Rattle.ssl_syntax.specs.declared.line.SslBody.TheVariants as body
use Rattle.rtl_core.specs.declared.encodings.OperandKind.{OperandKind}
use Rattle.rtl_core.specs.declared.encodings.OperandKind.TheVariants as kind
use Rattle.rtl_core.specs.declared.encodings.Encodings.{Encodings}
use Rattle.ssl_rules.specs.declared.tables.Own.{Own}
use Rattle.ssl_rules.specs.declared.tables.Own.TheVariants.{Field, Typed, Param}
use Rattle.ssl_rules.specs.Lookup.{named, is_among}
use Rattle.ssl_rules.specs.Given.{Given, kinds_of, named_constructor, has_template, own_operand, own_operands, own_params, stands_for}
use Rattle.ssl_rules.specs.Checks.{are_new, is_new, is_once}
use Rattle.ssl_core.specs.Kept.{with_new, kept}
use Rattle.ssl_core.specs.OwnNames.{own_of}
use Rattle.ssl_core.proofs.Basics.{and_true, not_true, or_false}
use Rattle.ssl_core.proofs.KeptLemmas.{named-append, kept-append, entry_kept}

-- ---- reading them

-- k operands are read
pub record AreReadTo (enc : Encodings) (g : Given) (ops : List (List ℕ)) (kinds : List OperandKind) (k : ℕ) (own : List (List ℕ × Own)) : Type 0 where
  pub rest : kept own (own_operands g enc k (drop k ops) (drop k kinds)) ≡ kept [] (own_operands g enc 0 ops kinds)

pub own_more : (enc : Encodings) (g : Given) (ops : List (List ℕ)) (kinds : List OperandKind) (k : ℕ) (own next : List (List ℕ × Own)) (op : List ℕ) (is : OperandKind)
    → k < length ops → k < length kinds → op ≡ get_or ops k op → is ≡ get_or kinds k is → AreReadTo enc g ops kinds k own
    → next ≡ kept own (own_operand g enc k op is) → AreReadTo enc g ops kinds (k + 1) next
own_more enc g ops kinds k own next op is h i e f inv step =
    let d : drop k ops ≡ op ∷ drop (k + 1) ops = drop_more ops k op h ∙ ap (λ y. y ∷ drop (k + 1) ops) (sym e) in
    let b : drop k kinds ≡ is ∷ drop (k + 1) kinds = drop_more kinds k is i ∙ ap (λ y. y ∷ drop (k + 1) kinds) (sym f) in
    let rest : List (List ℕ × Own) = own_operands g enc (k + 1) (drop (k + 1) ops) (drop (k + 1) kinds) in
    record {
      rest = ap (λ t. kept t rest) step ∙ sym (kept-append own (own_operand g enc k op is) rest)
          ∙ ap (λ l. kept own (own_operands g enc k l (is ∷ drop (k + 1) kinds))) (sym d) ∙ ap (λ l. kept own (own_operands g enc k (drop k ops) l)) (sym b) ∙ inv.rest;
    }

no_kinds : (enc : Encodings) (g : Given) (k : ℕ) (ops : List (List ℕ)) → own_operands g enc k ops [] ≡ []
no_kinds enc g k [] = refl
no_kinds enc g k (op ∷ ops) = refl

ended : (a b k : ℕ) → min a b ≤ k → (a ≤ k) ⊎ (b ≤ k)
ended a b k h = grind arith

pub own_done : (enc : Encodings) (g : Given) (ops : List (List ℕ)) (kinds : List OperandKind) (k : ℕ) (own : List (List ℕ × Own)) → min (length ops) (length kinds) ≤ k
    → AreReadTo enc g ops kinds k own → own ≡ kept [] (own_operands g enc 0 ops kinds)
own_done enc g ops kinds k own h inv = by (ended (length ops) (length kinds) k h)
  where
    by : (length ops ≤ k) ⊎ (length kinds ≤ k) → own ≡ kept [] (own_operands g enc 0 ops kinds)
    by (inl o) = ap (λ l. kept own (own_operands g enc k l (drop k kinds))) (sym (drop_of_length-le ops o)) ∙ inv.rest
    by (inr o) =
        sym (ap (kept own) (ap (own_operands g enc k (drop k ops)) (drop_of_length-le kinds o) ∙ no_kinds enc g k (drop k ops))) ∙ inv.rest

-- k parameters are read
pub record AreParamsTo (ps : List ParamLine) (k : ℕ) (own : List (List ℕ × Own)) : Type 0 where
  pub rest : kept own (own_params k (drop k ps)) ≡ kept [] (own_params 0 ps)

pub params_more : (ps : List ParamLine) (k : ℕ) (own next : List (List ℕ × Own)) (p : ParamLine) (name : List ℕ) → k < length ps → p ≡ get_or ps k p → name ≡ p.name
    → AreParamsTo ps k own → next ≡ with_new own name (Param k p.width) → AreParamsTo ps (k + 1) next
params_more ps k own next p name h is n inv step =
    let d : drop k ps ≡ p ∷ drop (k + 1) ps = drop_more ps k p h ∙ ap (λ y. y ∷ drop (k + 1) ps) (sym is) in
    record {
      rest = ap (λ t. kept t (own_params (k + 1) (drop (k + 1) ps))) (step ∙ ap (λ n. with_new own n (Param k p.width)) n)
          ∙ ap (λ l. kept own (own_params k l)) (sym d) ∙ inv.rest;
    }

pub params_done : (ps : List ParamLine) (k : ℕ) (own : List (List ℕ × Own)) → length ps ≤ k → AreParamsTo ps k own → own ≡ kept [] (own_params 0 ps)
params_done ps k own h inv = ap (λ l. kept own (own_params k l)) (sym (drop_of_length-le ps h)) ∙ inv.rest

-- ---- different names

-- a table has no name but these
pub record IsUnder (t : List (List ℕ × Own)) (before : List (List ℕ)) : Type 0 where
  pub absent : (name : List ℕ) → list_any (pointwise nat_eq name) before ≡ false → named t name ≡ None

under_none : IsUnder [] []
under_none = record { absent = λ name h. refl }

under_skip : (t : List (List ℕ × Own)) (before : List (List ℕ)) (name : List ℕ) → IsUnder t before → IsUnder t (name ∷ before)
under_skip t before name u =
    record { absent = λ asked h. u.absent asked (or_false (pointwise nat_eq asked name) (list_any (pointwise nat_eq asked) before) h).1 }

under_more : (t : List (List ℕ × Own)) (before : List (List ℕ)) (name : List ℕ) (x : Own) → IsUnder t before → IsUnder (t ++ (name, x) ∷ []) (name ∷ before)
under_more t before name x u = record { absent = λ asked h. by asked (or_false (pointwise nat_eq asked name) (list_any (pointwise nat_eq asked) before) h) }
  where
    by : (asked : List ℕ) → (pointwise nat_eq asked name ≡ false) × (list_any (pointwise nat_eq asked) before ≡ false) → named (t ++ (name, x) ∷ []) asked ≡ None
    by asked h =
        named-append t ((name, x) ∷ []) asked ∙ ap (λ o. option_or o (named ((name, x) ∷ []) asked)) (u.absent asked h.1) ∙ ap (λ b. cond b (Some x) None) h.0

-- the first of new names, and the others
record IsNewFirst (enc : Encodings) (g : Given) (before : List (List ℕ)) (name : List ℕ) (names : List (List ℕ)) : Type 0 where
  unseen : list_any (pointwise nat_eq name) before ≡ false
  others : are_new enc g (name ∷ before) names ≡ true

new_first : (enc : Encodings) (g : Given) (before : List (List ℕ)) (name : List ℕ) (names : List (List ℕ)) → are_new enc g before (name ∷ names) ≡ true
    → IsNewFirst enc g before name names
new_first enc g before name names h =
    let both = and_true (is_new enc g name && not (is_among name before)) (are_new enc g (name ∷ before) names) h in
    let first = and_true (is_new enc g name) (not (is_among name before)) both.0 in
    record { unseen = not_true (list_any (pointwise nat_eq name) before) first.1; others = both.1 }

operands_kept : (enc : Encodings) (g : Given) (k : ℕ) (ops : List (List ℕ)) (kinds : List OperandKind) (before : List (List ℕ)) (t : List (List ℕ × Own))
    → are_new enc g before ops ≡ true → IsUnder t before → kept t (own_operands g enc k ops kinds) ≡ t ++ own_operands g enc k ops kinds
operands_kept enc g k [] kinds before t new u = sym (append-nil t)
operands_kept enc g k (op ∷ ops) [] before t new u = sym (append-nil t)
operands_kept enc g k (op ∷ ops) (kind.Field w ∷ kinds) before t new u =
    let n = new_first enc g before op ops new in
    entry_kept t op (Field k w) (own_operands g enc (k + 1) ops kinds) (u.absent op n.unseen)
    (operands_kept enc g (k + 1) ops kinds (op ∷ before) (t ++ (op, Field k w) ∷ []) n.others (under_more t before op (Field k w) u))
operands_kept enc g k (op ∷ ops) (kind.Typed zero ∷ kinds) before t new u =
    let n = new_first enc g before op ops new in
    operands_kept enc g (k + 1) ops kinds (op ∷ before) t n.others (under_skip t before op u)
operands_kept enc g k (op ∷ ops) (kind.Typed (suc c) ∷ kinds) before t new u =
    let n = new_first enc g before op ops new in
    let x : Own = Typed k (stands_for g enc (suc c)) in
    entry_kept t op x (own_operands g enc (k + 1) ops kinds) (u.absent op n.unseen)
    (operands_kept enc g (k + 1) ops kinds (op ∷ before) (t ++ (op, x) ∷ []) n.others (under_more t before op x u))

params_kept : (enc : Encodings) (g : Given) (k : ℕ) (ps : List ParamLine) (before : List (List ℕ)) (t : List (List ℕ × Own))
    → are_new enc g before (map (λ p. p.name) ps) ≡ true → IsUnder t before → kept t (own_params k ps) ≡ t ++ own_params k ps
params_kept enc g k [] before t new u = sym (append-nil t)
params_kept enc g k (p ∷ ps) before t new u =
    let n = new_first enc g before p.name (map (λ p. p.name) ps) new in
    entry_kept t p.name (Param k p.width) (own_params (k + 1) ps) (u.absent p.name n.unseen)
    (params_kept enc g (k + 1) ps (p.name ∷ before) (t ++ (p.name, Param k p.width) ∷ []) n.others (under_more t before p.name (Param k p.width) u))

operands_once : (enc : Encodings) (g : Given) (name : List ℕ) (ops : List (List ℕ)) (kinds : List OperandKind)
    → (not (has_template g (named_constructor enc name)) && are_new enc g [] ops) ≡ true → kept [] (own_operands g enc 0 ops kinds) ≡ own_operands g enc 0 ops kinds
operands_once enc g name ops kinds h =
    operands_kept enc g 0 ops kinds [] [] (and_true (not (has_template g (named_constructor enc name))) (are_new enc g [] ops) h).1 under_none

-- a line that gives nothing twice lists different names
pub once_own : (enc : Encodings) (g : Given) (b : SslBody) → is_once enc g b ≡ true → kept [] (own_of enc g b) ≡ own_of enc g b
once_own enc g (body.Function name ps e) h =
    let n = new_first enc g [] name (map (λ p. p.name) ps) h in
    params_kept enc g 0 ps (name ∷ []) [] n.others (under_skip [] [] name under_none)
once_own enc g (body.Operand name ops e) h = operands_once enc g name ops (kinds_of enc (named_constructor enc name)) h
once_own enc g (body.Instruction name ops ts) h = operands_once enc g name ops (kinds_of enc (named_constructor enc name)) h
once_own enc g (body.Align y) h = refl
once_own enc g (body.Delay n) h = refl
once_own enc g (body.Cell name w) h = refl
once_own enc g (body.Cells name n w) h = refl
once_own enc g (body.View name n w parts) h = refl
once_own enc g (body.Zero cell) h = refl
once_own enc g (body.Windows o l i n) h = refl
