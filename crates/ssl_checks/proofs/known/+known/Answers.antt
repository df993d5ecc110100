use Rattle.std.proofs.Common.{◌&&◌, sym, ap, ◌∙◌}
use Rattle.std.specs.Prelude.{is_some}
use Rattle.std.specs.List.{list_all}
use Rattle.ssl_rules.specs.LineScope.{scope}
use Rattle.ssl_rules.specs.Names.{function_named}
use Rattle.ssl_rules.specs.Known.{is_known_expr}
use Rattle.ssl_checks.proofs.CallLaws.{known_call}
use Rattle.ssl_checks.proofs.known.+known.Goals as goal

pub is_known_expr-returns-then-is_function : goal.is_known_expr-returns-then-is_function
is_known_expr-returns-then-is_function t c =
    let surplus = c.args.names.now.surplus.now in
    let s = scope c.args.names.now.line in
    c.are_known.ensures ∙ ap (list_all (is_known_expr surplus s)) c.as_slice-then-is_function.ensures
    ∙ ap (λ b. b && list_all (is_known_expr surplus s) c.in-Call.args)
    (sym c.if-is_function.true ∙ c.is_function.ensures ∙ ap (λ x. is_some (function_named s.tables x)) c.as_slice-in-Call.ensures)
    ∙ sym (known_call surplus s c.in-Call.name c.in-Call.args) ∙ ap (is_known_expr surplus s) (sym c.in-Call.is)
