use Rattle.std.proofs.Common.{◌≡◌, take, map, get_or}
use Rattle.sled_match.proofs.grow.branches_of.Given as goal

abbrev pub invariant-loop-at : goal.invariant-loop-at
invariant-loop-at l = l.branches ≡ map (λ at. get_or l.children at 0) (take l.at-index l.index)
