use Rattle.std.proofs.Common.{◌≡◌, ◌≤◌, ◌+◌, ◌*◌, ◌++◌, length, drop, map, option_map}
use Rattle.rtl_core.specs.Grounding.{chosen_read, operands_read}
use Rattle.rtl_core.specs.GroundData.{argument_of}
use Rattle.rtl_core.proofs.grounding.+reading.Given as goal

abbrev pub decreases-read_operands : goal.decreases-read_operands
decreases-read_operands l = 3 * l.deep + 2

abbrev pub decreases-read_operand : goal.decreases-read_operand
decreases-read_operand l = 3 * l.deep + 1

abbrev pub decreases-read_chosen : goal.decreases-read_chosen
decreases-read_chosen l = 3 * l.deep

abbrev pub invariant-read_operands-loop-kind : goal.invariant-read_operands-loop-kind
invariant-read_operands-loop-kind l =
    (option_map (λ s. (map argument_of l.arguments ++ s.0, s.1))
    (operands_read (chosen_read l.deep l.machine l.pc l.next) l.machine (drop l.kind-index l.kinds) (drop l.used l.leaves))
    ≡ operands_read (chosen_read l.deep l.machine l.pc l.next) l.machine l.kinds l.leaves)
    × (l.used ≤ length l.leaves)
