use Rattle.std.proofs.Common.{[], ◌∷◌, sym, subst}
use Rattle.std.specs.Prelude.{All, IfSome}
use Rattle.rtl_core.specs.declared.machine.Machine.{Machine}
use Rattle.rtl_core.specs.SoundTerms.{IsSoundTransfer}
use Rattle.rtl_meaning.specs.Saved.{Fits}
use Rattle.worked_values.specs.TestMachine.{IsSmall}
use Rattle.worked_values.proofs.SmallMachine.{first_fits}
use Rattle.worked_values.proofs.act_tests.perform.Goals as goal

pub run_acts-requires-clause-fits : goal.run_acts-requires-clause-fits
run_acts-requires-clause-fits c =
    let m = c.in_ok-machine.machine in
    subst (λ cells. Fits m cells c.in_ok-windows.windows) (sym c.in_ok-cells.ensures)
    (subst (λ saved. Fits m (0 ∷ 11 ∷ 12 ∷ 13 ∷ 14 ∷ []) saved) (sym c.in_ok-windows.ensures.none) (first_fits m c.in_ok-machine.ensures))

pub run_acts-requires-clause-sound : goal.run_acts-requires-clause-sound
run_acts-requires-clause-sound c =
    let h = subst (λ o. IfSome o (λ inst. (m : Machine) → IsSmall m → All (IsSoundTransfer m) inst.transfers)) c.in-Some.is c.in_ok-inst.ensures in
    h c.in_ok-machine.machine c.in_ok-machine.ensures
