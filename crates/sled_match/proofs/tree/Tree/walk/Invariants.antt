use Rattle.std.proofs.Common.{◌≡◌}
use Rattle.sled_match.specs.Tree.{listed}
use Rattle.sled_match.specs.declared.tree.TheConstants.{LEVELS}
use Rattle.sled_match.proofs.tree.Tree.walk.Given as goal

abbrev pub invariant-loop-levels : goal.invariant-loop-levels
invariant-loop-levels l = listed l.levels l.self.nodes l.at l.bytes ≡ listed LEVELS l.self.nodes l.self.root l.bytes

abbrev pub decreases-loop-levels : goal.decreases-loop-levels
decreases-loop-levels l = l.levels
