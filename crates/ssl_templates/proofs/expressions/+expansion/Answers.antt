use Rattle.std.proofs.Common.{◌≡◌, ◌+◌, Some, true, map, sym, ap, subst, ◌∙◌}
use Rattle.std.specs.Option.{option_copied}
use Rattle.std.specs.List.{list_all}
use Rattle.std.proofs.lemmas.Bool.{and_parts}
use Rattle.std.proofs.lemmas.Result.{IfOk-weaker}
use Rattle.ssl_rules.specs.declared.formula.Formula.{Formula}
use Rattle.ssl_rules.specs.declared.formula.Formula.TheVariants as F
use Rattle.ssl_rules.specs.LineScope.{scope}
use Rattle.ssl_rules.specs.Names.{Scope, function_named}
use Rattle.ssl_rules.specs.Widths.{is_width}
use Rattle.ssl_rules.specs.Formulas.{expanded, node_expanded, put_in}
use Rattle.ssl_syntax.proofs.FoldLaws.{fold-Zext, fold-Sext}
use Rattle.ssl_templates.specs.Ranged.{is_ranged}
use Rattle.ssl_templates.specs.Params.{has_param}
use Rattle.ssl_templates.proofs.RangedLaws.{ranged-Zext, ranged-Sext, ranged-known_call}
use Rattle.ssl_templates.proofs.ExpandLaws.{expanded-known_call, expanded-unknown_call}
use Rattle.ssl_templates.proofs.ArgumentLemmas.{ArePut, ArePut-more}
use Rattle.ssl_templates.proofs.expressions.+expansion.Goals as goal

pub call-loop-e-preserved : goal.call-loop-e-preserved
call-loop-e-preserved t c =
    let s : Scope = scope c.args.names.now in
    let body : Formula = c.args.function.now.body in
    subst (ArePut s body c.args.args.now (c.loop-e.e-index + 1)) (sym c.in_ok-push.ensures.ok)
    (ArePut-more s body c.args.args.now c.loop-e.e-index c.loop-e.put c.e-item.result c.in_ok-argument.field-0 c.loop-e-test.true c.e-item.is
    (λ ranged has. c.in_ok-argument.ensures ranged (ap (λ k. has_param k body) c.len-place.ensures ∙ has)) c.loop-e.invariant)

pub expansion-returns-in_ok-boxed-in-Zext : goal.expansion-returns-in_ok-boxed-in-Zext
unfolding expanded
expansion-returns-in_ok-boxed-in-Zext t c = λ ranged.
    let s : Scope = scope c.args.names.now in
    let parts : (is_ranged s c.in-Zext.a ≡ true) × (is_width c.in-Zext.width ≡ true) =
    and_parts (is_ranged s c.in-Zext.a) (is_width c.in-Zext.width) (ranged-Zext s c.in-Zext.width c.in-Zext.a (ap (is_ranged s) (sym c.in-Zext.is) ∙ ranged)) in
    ap (λ w. F.Zext w c.in_ok-boxed-in-Zext.field-0) (c.width_of-in-Zext.ensures parts.1)
    ∙ ap (F.Zext c.in-Zext.width) (c.in_ok-boxed-in-Zext.ensures parts.0)
    ∙ sym (fold-Zext (node_expanded s) c.in-Zext.width c.in-Zext.a) ∙ ap (expanded s) (sym c.in-Zext.is)

pub expansion-returns-in_ok-boxed-in-Sext : goal.expansion-returns-in_ok-boxed-in-Sext
unfolding expanded
expansion-returns-in_ok-boxed-in-Sext t c = λ ranged.
    let s : Scope = scope c.args.names.now in
    let parts : (is_ranged s c.in-Sext.a ≡ true) × (is_width c.in-Sext.width ≡ true) =
    and_parts (is_ranged s c.in-Sext.a) (is_width c.in-Sext.width) (ranged-Sext s c.in-Sext.width c.in-Sext.a (ap (is_ranged s) (sym c.in-Sext.is) ∙ ranged)) in
    ap (λ w. F.Sext w c.in_ok-boxed-in-Sext.field-0) (c.width_of-in-Sext.ensures parts.1)
    ∙ ap (F.Sext c.in-Sext.width) (c.in_ok-boxed-in-Sext.ensures parts.0)
    ∙ sym (fold-Sext (node_expanded s) c.in-Sext.width c.in-Sext.a) ∙ ap (expanded s) (sym c.in-Sext.is)

pub expansion-returns-in-None : goal.expansion-returns-in-None
expansion-returns-in-None t c = λ _.
    let s : Scope = scope c.args.names.now in
    c.nothing.ensures
    ∙ expanded-unknown_call s c.in-Call.name c.in-Call.args
    (ap (function_named c.args.names.now.tables.now) (sym c.as_slice-in-Call.ensures) ∙ sym c.function.ensures ∙ ap option_copied c.in-None.is)
    ∙ ap (expanded s) (sym c.in-Call.is)

pub expansion-returns-in-Some : goal.expansion-returns-in-Some
expansion-returns-in-Some t c =
    let s : Scope = scope c.args.names.now in
    let body : Formula = c.in-Some.function.now.body in
    let known : function_named s.tables c.in-Call.name ≡ Some c.in-Some.function.now =
    ap (function_named c.args.names.now.tables.now) (sym c.as_slice-in-Call.ensures) ∙ sym c.function.ensures ∙ ap option_copied c.in-Some.is in
    IfOk-weaker c.call.result _ (λ f. is_ranged s c.args.e.now ≡ true → f ≡ expanded s c.args.e.now) (λ f exact ranged.
    exact (ap (list_all (is_ranged s)) c.as_slice-in-Some.ensures ∙ sym (ranged-known_call s c.in-Call.name c.in-Call.args c.in-Some.function.now known) ∙ ap (is_ranged s) (sym c.in-Call.is) ∙ ranged)
    ∙ ap (λ l. put_in (map (expanded s) l) body) c.as_slice-in-Some.ensures
    ∙ expanded-known_call s c.in-Call.name c.in-Call.args c.in-Some.function.now known ∙ ap (expanded s) (sym c.in-Call.is)) c.call.ensures
