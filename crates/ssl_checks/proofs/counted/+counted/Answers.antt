use Rattle.std.proofs.Common.{◌&&◌, sym, ap, ◌∙◌}
use Rattle.std.specs.List.{list_all}
use Rattle.ssl_rules.specs.LineScope.{scope}
use Rattle.ssl_rules.specs.Names.{function_named}
use Rattle.ssl_rules.specs.Counted.{takes, is_counted_expr}
use Rattle.ssl_checks.proofs.CallLaws.{counted_call}
use Rattle.ssl_checks.proofs.counted.+counted.Goals as goal

pub is_counted_expr-returns-then-takes : goal.is_counted_expr-returns-then-takes
is_counted_expr-returns-then-takes t c =
    let s = scope c.args.names.now in
    c.are_counted.ensures ∙ ap (list_all (is_counted_expr s)) c.as_slice-then-takes.ensures
    ∙ ap (λ b. b && list_all (is_counted_expr s) c.in-Call.args)
    (sym c.if-takes.true ∙ c.takes.ensures ∙ ap (λ x. takes (function_named s.tables x) c.len.result) c.as_slice.ensures
    ∙ ap (takes (function_named s.tables c.in-Call.name)) c.len.ensures)
    ∙ sym (counted_call s c.in-Call.name c.in-Call.args) ∙ ap (is_counted_expr s) (sym c.in-Call.is)

pub is_counted_expr-returns-else-takes : goal.is_counted_expr-returns-else-takes
is_counted_expr-returns-else-takes t c =
    let s = scope c.args.names.now in
    c.if-takes.false ∙ ap (λ b. b && list_all (is_counted_expr s) c.in-Call.args)
    (sym c.if-takes.false ∙ c.takes.ensures ∙ ap (λ x. takes (function_named s.tables x) c.len.result) c.as_slice.ensures
    ∙ ap (takes (function_named s.tables c.in-Call.name)) c.len.ensures)
    ∙ sym (counted_call s c.in-Call.name c.in-Call.args) ∙ ap (is_counted_expr s) (sym c.in-Call.is)
