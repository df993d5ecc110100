use Rattle.std.proofs.Common.{◌∙◌, ap}
use Rattle.std.specs.Prelude.{nat_eq}
use Rattle.std.specs.List.{list_any}
use Rattle.params.specs.Parts.{has_no_targets}
use Rattle.params.proofs.Choosing.{same-openers}
use Rattle.params.proofs.parts.openers.Goals as goal

pub returns : goal.returns
returns c =
    c.in_ok-found.ensures
    ∙ same-openers c.args.machine.now c.args.graph.now (λ a. list_any (nat_eq a) c.in_ok-empty.empty.keys) (has_no_targets c.args.graph.now.tables) (λ a. c.in_ok-empty.ensures a ∙ ap (λ l. has_no_targets l a) c.as_slice.ensures)
