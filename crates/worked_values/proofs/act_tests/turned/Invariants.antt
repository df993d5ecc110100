use Rattle.rtl_core.specs.declared.machine.Machine.{Machine}
use Rattle.rtl_core.specs.SoundTerms.{HasWidth}
use Rattle.worked_values.specs.TestMachine.{IsSmall}
use Rattle.worked_values.proofs.act_tests.turned.Given as goal

abbrev pub invariant-loop-i : goal.invariant-loop-i
invariant-loop-i l = (m : Machine) → IsSmall m → HasWidth m.widths l.e 64
