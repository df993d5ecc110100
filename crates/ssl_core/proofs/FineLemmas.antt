-- What the checks of a line without a fault say.
use Rattle.std.proofs.Common.{◌≡◌, ℕ, ◌<◌, Bool, true, false, cond, not, ◌&&◌, List, [], ◌∷◌, length, map, Option, Some, None, is_some, eqb, ltb, take, nat_eq, refl, sym, subst, ◌∙◌, arith, unwrap_or}
use Rattle.std.specs.List.{list_all, position_or_len}
use Rattle.std.specs.Cmp.Lexicographic.{pointwise}
use Rattle.std.proofs.lemmas.Bool.Decides.{nat_tests}
use Rattle.ssl_syntax.specs.declared.line.Param.{Param as ParamLine}
use Rattle.ssl_syntax.specs.declared.line.SslExpr.{SslExpr}
use Rattle.ssl_syntax.specs.declared.line.SslTransfer.{SslTransfer}
use Rattle.ssl_syntax.specs.declared.line.SslBody.TheVariants as body
use Rattle.rtl_core.specs.declared.encodings.Encodings.{Encodings}
use Rattle.ssl_rules.specs.declared.tables.Own.{Own}
use Rattle.ssl_rules.specs.Counted.{is_counted_expr, is_counted_transfer}
use Rattle.ssl_rules.specs.Known.{is_known_expr, is_known_transfer}
use Rattle.ssl_rules.specs.Widths.{is_width, measured}
use Rattle.ssl_rules.specs.Given.{Given, constructor_named, named_constructor, kinds_of, has_template, own_operands, own_params, template_for, function_scope}
use Rattle.ssl_rules.specs.Checks.{is_constructor, is_known_head, is_known_kind, kinds_named, scope_of, surplus_of, are_new, is_new}
use Rattle.ssl_rules.specs.Lookup.{is_among}
use Rattle.ssl_rules.specs.Faults.{IsFine}
use Rattle.ssl_core.specs.declared.given.Given.{Given as State}
use Rattle.ssl_core.specs.State.{shown}
use Rattle.ssl_core.specs.Heads.{is_constructor_at}
use Rattle.ssl_core.specs.Fine.{IsFineFunction, IsFineOperand, IsFineInstruction}
use Rattle.ssl_core.proofs.Basics.{and_true, not_some}

-- ---- functions

pub fine_function : (enc : Encodings) (g : State) (own : List (List ℕ × Own)) (name : List ℕ) (ps : List ParamLine) (e : SslExpr) → own ≡ own_params 0 ps
    → IsFine enc (shown g) (body.Function name ps e) → IsFineFunction g.tables own name ps e
fine_function enc g own name ps e o f =
    let new = and_true (is_new enc (shown g) name && not (is_among name [])) (are_new enc (shown g) (name ∷ []) (map (λ p. p.name) ps)) f.once in
    let ranged = and_true (list_all (λ p. is_width p.width) ps) (is_some (measured (function_scope (shown g) ps) e).width) f.ranged in
    subst (λ own. IsFineFunction g.tables own name ps e) (sym o) (record {
      fresh = (and_true (is_new enc (shown g) name) (not (is_among name [])) new.0).0;
      place = f.few;
      counted = f.counted;
      ranged = ranged.1;
      widths = ranged.0;
    })

-- ---- templates

within_list : (p n : ℕ) (b : Bool) → ltb p n ≡ b → is_some (cond b (Some p) None) ≡ true → unwrap_or (cond b (Some p) None) 0 < n
within_list p n true e h = grind (arith, nat_tests)
within_list p n false e h = absurd (cc)

-- a constructor that is named is there
pub named-within : (enc : Encodings) (name : List ℕ) → is_some (constructor_named enc name) ≡ true → named_constructor enc name < length enc.constructors
named-within enc name h =
    let p : ℕ = position_or_len (λ k. pointwise nat_eq name k.name) enc.constructors in
    within_list p (length enc.constructors) (ltb p (length enc.constructors)) refl h

pub constructor-at : (enc : Encodings) (g : Given) (instruction : Bool) (name : List ℕ) → is_constructor enc g instruction name ≡ is_constructor_at enc instruction (constructor_named enc name)
constructor-at enc g instruction name = by (constructor_named enc name) refl
  where
    by : (o : Option ℕ) → constructor_named enc name ≡ o → is_constructor enc g instruction name ≡ is_constructor_at enc instruction o
    by None e = rw e refl
    by (Some c) e = rw e refl

there_some : (enc : Encodings) (instruction : Bool) (o : Option ℕ) → is_constructor_at enc instruction o ≡ true → is_some o ≡ true
there_some enc instruction None h = cc
there_some enc instruction (Some c) h = refl

head_within : (enc : Encodings) (g : Given) (instruction : Bool) (name : List ℕ) (ops : List (List ℕ)) → is_known_head enc g instruction name ops ≡ true
    → named_constructor enc name < length enc.constructors
head_within enc g instruction name ops h =
    let first = (and_true (is_constructor enc g instruction name) (list_all (is_known_kind enc g) (take (length ops) (kinds_named enc g name))) h).0 in
    named-within enc name (there_some enc instruction (constructor_named enc name) (sym (constructor-at enc g instruction name) ∙ first))

no_template : (enc : Encodings) (g : Given) (name : List ℕ) (ops : List (List ℕ)) → (not (has_template g (named_constructor enc name)) && are_new enc g [] ops) ≡ true
    → template_for g (named_constructor enc name) ≡ None
no_template enc g name ops h =
    not_some (template_for g (named_constructor enc name)) (and_true (not (has_template g (named_constructor enc name))) (are_new enc g [] ops) h).0

abbrev pub own_named : Encodings → Given → List ℕ → List (List ℕ) → List (List ℕ × Own)
own_named enc g name ops = own_operands g enc 0 ops (kinds_of enc (named_constructor enc name))

pub fine_operand : (enc : Encodings) (g : State) (c : ℕ) (own : List (List ℕ × Own)) (name : List ℕ) (ops : List (List ℕ)) (e : SslExpr) → c ≡ named_constructor enc name
    → own ≡ own_named enc (shown g) name ops → IsFine enc (shown g) (body.Operand name ops e) → IsFineOperand enc g c own e
fine_operand enc g c own name ops e n o f =
    let known = and_true (is_known_head enc (shown g) false name ops) (is_known_expr (surplus_of enc (shown g) name ops) (scope_of enc (shown g) name ops) e) f.known in
    let counted = and_true (eqb (length ops) (length (kinds_named enc (shown g) name))) (is_counted_expr (scope_of enc (shown g) name ops) e) f.counted in
    let fine : IsFineOperand enc g (named_constructor enc name) (own_named enc (shown g) name ops) e = record {
      there = head_within enc (shown g) false name ops known.0;
      first = no_template enc (shown g) name ops f.once;
      counted = counted.1;
      ranged = f.ranged;
      small = f.small;
    } in
    subst (λ c. IsFineOperand enc g c own e) (sym n) (subst (λ own. IsFineOperand enc g (named_constructor enc name) own e) (sym o) fine)

pub fine_instruction : (enc : Encodings) (g : State) (c : ℕ) (own : List (List ℕ × Own)) (name : List ℕ) (ops : List (List ℕ)) (ts : List SslTransfer) → c ≡ named_constructor enc name
    → own ≡ own_named enc (shown g) name ops → IsFine enc (shown g) (body.Instruction name ops ts) → IsFineInstruction enc g c own ts
fine_instruction enc g c own name ops ts n o f =
    let known = and_true (is_known_head enc (shown g) true name ops) (list_all (is_known_transfer (surplus_of enc (shown g) name ops) (scope_of enc (shown g) name ops) (is_some g.windows)) ts) f.known in
    let counted = and_true (eqb (length ops) (length (kinds_named enc (shown g) name))) (list_all (is_counted_transfer (scope_of enc (shown g) name ops)) ts) f.counted in
    let fine : IsFineInstruction enc g (named_constructor enc name) (own_named enc (shown g) name ops) ts = record {
      there = head_within enc (shown g) true name ops known.0;
      first = no_template enc (shown g) name ops f.once;
      counted = counted.1;
      ranged = f.ranged;
      places = f.places;
      small = f.small;
    } in
    subst (λ c. IsFineInstruction enc g c own ts) (sym n) (subst (λ own. IsFineInstruction enc g (named_constructor enc name) own ts) (sym o) fine)
