use Rattle.std.proofs.Common.{map, sym, ap, ◌∙◌}
use Rattle.std.specs.Prelude.{is_some}
use Rattle.std.specs.Option.{option_copied}
use Rattle.std.specs.List.{list_all}
use Rattle.ssl_rules.specs.LineScope.{scope}
use Rattle.ssl_rules.specs.Names.{function_named}
use Rattle.ssl_rules.specs.Widths.{measured, called_width, args_differ}
use Rattle.ssl_checks.proofs.ArgumentLemmas.{AreRead-all}
use Rattle.ssl_checks.proofs.CallLaws.{measured_known}
use Rattle.ssl_checks.proofs.measures.+measure.Goals as goal

pub call-returns-clause-differs : goal.call-returns-clause-differs
call-returns-clause-differs t c =
    ap (λ m. m.differs) c.call_measure.ensures
    ∙ AreRead-all (measured (scope c.args.names.now)) c.args.function.now.params c.args.args.now c.loop-e.e-index c.loop-e.params.now c.loop-e.ranged c.loop-e.differs c.loop-e-test.false c.loop-e.invariant

pub measure-returns-in-Some : goal.measure-returns-in-Some
measure-returns-in-Some t c =
    measured_known (scope c.args.names.now) c.in-Call.name c.in-Call.args c.in-Some.function.now c.call.result
    (ap (function_named c.args.names.now.tables.now) (sym c.as_slice-in-Call.ensures) ∙ sym c.function.ensures ∙ ap option_copied c.in-Some.is)
    (c.call.ensures.width ∙ ap (λ l. called_width (list_all (λ e. is_some (measured (scope c.args.names.now) e).width) l) c.in-Some.function.now) c.as_slice-in-Some.ensures)
    (c.call.ensures.differs ∙ ap (λ l. args_differ c.in-Some.function.now.params (map (measured (scope c.args.names.now)) l)) c.as_slice-in-Some.ensures)
    ∙ ap (measured (scope c.args.names.now)) (sym c.in-Call.is)
