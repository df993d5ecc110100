use Rattle.std.specs.Prelude.{All}
use Rattle.rtl_core.specs.declared.machine.Machine.{Machine}
use Rattle.rtl_core.specs.SoundTerms.{IsSoundTransfer}
use Rattle.worked_values.specs.TestMachine.{IsSmall}
use Rattle.worked_values.proofs.act_tests.instruction.Given as goal

abbrev pub invariant-loop-guard : goal.invariant-loop-guard
invariant-loop-guard l = (m : Machine) → IsSmall m → All (IsSoundTransfer m) l.transfers
