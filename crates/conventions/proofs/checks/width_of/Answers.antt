use Rattle.std.proofs.Common.{ap, ◌∙◌}
use Rattle.std.specs.Prelude.{unwrap_or}
use Rattle.std.proofs.lemmas.Option.{unwrap_or-slice_get}
use Rattle.conventions.proofs.checks.width_of.Goals as goal

pub returns-in-None : goal.returns-in-None
returns-in-None c = ap (λ o. unwrap_or o 0) c.in-None.ensures.value ∙ unwrap_or-slice_get c.args.machine.now.widths c.args.cell 0

pub returns-in-Some : goal.returns-in-Some
returns-in-Some c = c.bits.ensures.value ∙ ap (λ o. unwrap_or o 0) c.in-Some.ensures.value ∙ unwrap_or-slice_get c.args.machine.now.widths c.args.cell 0
