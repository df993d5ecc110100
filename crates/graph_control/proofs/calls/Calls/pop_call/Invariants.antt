use Rattle.std.proofs.Common.{◌≡◌, length}
use Rattle.graph_control.specs.OpenCalls.{open_call}
use Rattle.graph_control.proofs.calls.Calls.pop_call.Given as goal

abbrev pub invariant-loop-member : goal.invariant-loop-member
invariant-loop-member l = open_call l.self ≡ open_call l.fn.self

abbrev pub decreases-loop-member : goal.decreases-loop-member
decreases-loop-member l = length l.self
