-- One line of a form, against its definition.
use Rattle.std.proofs.Common.{◌≡◌, ℕ, Bool, true, false, not, ◌&&◌, List, [], ◌∷◌, length, map, take, Option, Some, None, is_some, refl, sym, ap, subst, ◌∙◌, unwrap_or}
use Rattle.std.specs.Option.{option_or}
use Rattle.std.specs.List.{list_all}
use Rattle.ssl_syntax.specs.declared.line.SslExpr.{SslExpr}
use Rattle.ssl_syntax.specs.declared.line.SslTransfer.{SslTransfer}
use Rattle.ssl_syntax.specs.declared.line.Param.{Param as ParamLine}
use Rattle.ssl_syntax.specs.declared.line.SslBody.{SslBody}
use Rattle.ssl_syntax.specs.declared.line.SslBody.TheVariants as body
use Rattle.rtl_core.specs.declared.encodings.Encodings.{Encodings}
use Rattle.ssl_rules.specs.declared.tables.Own.{Own}
use Rattle.ssl_rules.specs.declared.widths.Mismatch.{Mismatch}
use Rattle.ssl_rules.specs.Known.{is_known_expr, is_known_transfer}
use Rattle.ssl_rules.specs.Widths.{measured}
use Rattle.ssl_rules.specs.Given.{Given, constructor_named, has_template, kinds_of, named_constructor, own_operands, own_params, type_of, type_width}
use Rattle.ssl_rules.specs.Checks.{differing, is_known, is_known_kind, is_once, kinds_named, scope_of, surplus_of, template_differs}
use Rattle.ssl_core.specs.Fresh.{are_fresh}
use Rattle.ssl_core.specs.Heads.{is_head, surplus_at}
use Rattle.ssl_core.specs.MoreTemplates.{scope_with}
use Rattle.ssl_core.specs.OwnNames.{FindSame, constructor_of, own_of}
use Rattle.ssl_core.specs.TypeWidths.{against}
use Rattle.ssl_core.proofs.FineLemmas.{constructor-at}
use Rattle.ssl_core.proofs.FreshLemmas.{are_new-fresh}
use Rattle.ssl_core.proofs.KnownSame.{expr_same, transfers_same}

-- ---- widths

abbrev pub differs_by : Encodings → Given → Option ℕ → List (List ℕ × Own) → SslExpr → Option Mismatch
differs_by enc g o own e =
    option_or (measured (scope_with g.tables own) e).differs (against (type_width g enc (type_of enc (unwrap_or o 0))) (measured (scope_with g.tables own) e))

operand_differs : (enc : Encodings) (g : Given) (name : List ℕ) (ops : List (List ℕ)) (e : SslExpr)
    → differs_by enc g (constructor_named enc name) (own_operands g enc 0 ops (kinds_of enc (named_constructor enc name))) e ≡ template_differs enc g name ops e
operand_differs enc g name ops e = by (type_width g enc (type_of enc (named_constructor enc name))) refl
  where
    by : (w : Option ℕ) → type_width g enc (type_of enc (named_constructor enc name)) ≡ w
        → differs_by enc g (constructor_named enc name) (own_operands g enc 0 ops (kinds_of enc (named_constructor enc name))) e ≡ template_differs enc g name ops e
    by None h = rw h refl
    by (Some w) h = rw h refl

pub line_differs : (enc : Encodings) (g : Given) (b : SslBody) (name : List ℕ) (ops : List (List ℕ)) (e : SslExpr) (o : Option ℕ) (own : List (List ℕ × Own)) → b ≡ body.Operand name ops e
    → o ≡ constructor_of enc b → own ≡ own_of enc g b → differs_by enc g o own e ≡ differing enc g b
line_differs enc g b name ops e o own is h n =
    ap (λ o. differs_by enc g o own e) (h ∙ ap (constructor_of enc) is)
    ∙ ap (λ own. differs_by enc g (constructor_named enc name) own e) (n ∙ ap (own_of enc g) is) ∙ operand_differs enc g name ops e ∙ ap (differing enc g) (sym is)

-- ---- names

-- names that are known by a table that finds the same
pub function_known : (enc : Encodings) (g : Given) (b : SslBody) (name : List ℕ) (ps : List ParamLine) (e : SslExpr) (o : Option ℕ) (own : List (List ℕ × Own)) (surplus : List (List ℕ))
    → b ≡ body.Function name ps e → surplus ≡ surplus_at enc o b → FindSame own (own_of enc g b) → is_known_expr surplus (scope_with g.tables own) e ≡ is_known enc g b
function_known enc g b name ps e o own surplus is behind same =
    ap (λ u. is_known_expr u (scope_with g.tables own) e) (behind ∙ ap (surplus_at enc o) is)
    ∙ expr_same [] g.tables own (own_params 0 ps) (subst (λ b. FindSame own (own_of enc g b)) is same) e ∙ ap (is_known enc g) (sym is)

head_at : (enc : Encodings) (g : Given) (instruction : Bool) (name : List ℕ) (o : Option ℕ) (count : ℕ) → o ≡ constructor_named enc name
    → is_head enc g instruction o count ≡ is_head enc g instruction (constructor_named enc name) count
head_at enc g instruction name o count h = ap (λ o. is_head enc g instruction o count) h

pub operand_known : (enc : Encodings) (g : Given) (b : SslBody) (name : List ℕ) (ops : List (List ℕ)) (e : SslExpr) (o : Option ℕ) (own : List (List ℕ × Own)) (surplus : List (List ℕ))
    → b ≡ body.Operand name ops e → o ≡ constructor_of enc b → surplus ≡ surplus_at enc o b → FindSame own (own_of enc g b)
    → (is_head enc g false o (length ops) && is_known_expr surplus (scope_with g.tables own) e) ≡ is_known enc g b
operand_known enc g b name ops e o own surplus is h behind same =
    let named_own : List (List ℕ × Own) = own_operands g enc 0 ops (kinds_of enc (named_constructor enc name)) in
    let rest : Bool = list_all (is_known_kind enc g) (take (length ops) (kinds_named enc g name)) in
    ap (λ u. is_head enc g false o (length ops) && is_known_expr u (scope_with g.tables own) e) (behind ∙ ap (surplus_at enc o) is)
    ∙ ap (λ o. is_head enc g false o (length ops) && is_known_expr (surplus_at enc o (body.Operand name ops e)) (scope_with g.tables own) e) (h ∙ ap (constructor_of enc) is)
    ∙ ap (λ k. is_head enc g false (constructor_named enc name) (length ops) && k)
    (expr_same (surplus_of enc g name ops) g.tables own named_own (subst (λ b. FindSame own (own_of enc g b)) is same) e)
    ∙ ap (λ k. (k && rest) && is_known_expr (surplus_of enc g name ops) (scope_of enc g name ops) e) (sym (constructor-at enc g false name)) ∙ ap (is_known enc g) (sym is)

pub instruction_known : (enc : Encodings) (g : Given) (b : SslBody) (name : List ℕ) (ops : List (List ℕ)) (ts : List SslTransfer) (o : Option ℕ) (own : List (List ℕ × Own)) (surplus : List (List ℕ))
    → b ≡ body.Instruction name ops ts → o ≡ constructor_of enc b → surplus ≡ surplus_at enc o b → FindSame own (own_of enc g b)
    → (is_head enc g true o (length ops) && list_all (is_known_transfer surplus (scope_with g.tables own) (is_some g.windows)) ts) ≡ is_known enc g b
instruction_known enc g b name ops ts o own surplus is h behind same =
    let named_own : List (List ℕ × Own) = own_operands g enc 0 ops (kinds_of enc (named_constructor enc name)) in
    let rest : Bool = list_all (is_known_kind enc g) (take (length ops) (kinds_named enc g name)) in
    let w : Bool = is_some g.windows in
    ap (λ u. is_head enc g true o (length ops) && list_all (is_known_transfer u (scope_with g.tables own) w) ts) (behind ∙ ap (surplus_at enc o) is)
    ∙ ap (λ o. is_head enc g true o (length ops) && list_all (is_known_transfer (surplus_at enc o (body.Instruction name ops ts)) (scope_with g.tables own) w) ts) (h ∙ ap (constructor_of enc) is)
    ∙ ap (λ k. is_head enc g true (constructor_named enc name) (length ops) && k)
    (transfers_same (surplus_of enc g name ops) g.tables own named_own (subst (λ b. FindSame own (own_of enc g b)) is same) w ts)
    ∙ ap (λ k. (k && rest) && list_all (is_known_transfer (surplus_of enc g name ops) (scope_of enc g name ops) w) ts) (sym (constructor-at enc g true name)) ∙ ap (is_known enc g) (sym is)

-- ---- what may stand once

pub function_once : (enc : Encodings) (g : Given) (b : SslBody) (name : List ℕ) (ps : List ParamLine) (e : SslExpr) → b ≡ body.Function name ps e
    → are_fresh g.tables.names [] (name ∷ map (λ p. p.name) ps) ≡ is_once enc g b
function_once enc g b name ps e is = sym (are_new-fresh enc g [] (name ∷ map (λ p. p.name) ps)) ∙ ap (is_once enc g) (sym is)

pub operand_once : (enc : Encodings) (g : Given) (b : SslBody) (name : List ℕ) (ops : List (List ℕ)) (e : SslExpr) (o : Option ℕ) → b ≡ body.Operand name ops e → o ≡ constructor_of enc b
    → (not (has_template g (unwrap_or o 0)) && are_fresh g.tables.names [] ops) ≡ is_once enc g b
operand_once enc g b name ops e o is h =
    ap (λ o. not (has_template g (unwrap_or o 0)) && are_fresh g.tables.names [] ops) (h ∙ ap (constructor_of enc) is)
    ∙ ap (λ k. not (has_template g (named_constructor enc name)) && k) (sym (are_new-fresh enc g [] ops)) ∙ ap (is_once enc g) (sym is)

pub instruction_once : (enc : Encodings) (g : Given) (b : SslBody) (name : List ℕ) (ops : List (List ℕ)) (ts : List SslTransfer) (o : Option ℕ) → b ≡ body.Instruction name ops ts
    → o ≡ constructor_of enc b → (not (has_template g (unwrap_or o 0)) && are_fresh g.tables.names [] ops) ≡ is_once enc g b
instruction_once enc g b name ops ts o is h =
    ap (λ o. not (has_template g (unwrap_or o 0)) && are_fresh g.tables.names [] ops) (h ∙ ap (constructor_of enc) is)
    ∙ ap (λ k. not (has_template g (named_constructor enc name)) && k) (sym (are_new-fresh enc g [] ops)) ∙ ap (is_once enc g) (sym is)
