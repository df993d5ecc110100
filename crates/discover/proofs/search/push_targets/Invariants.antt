use Rattle.std.proofs.Common.{◌≡◌, ◌++◌, map, take}
use Rattle.discover.specs.Places.{place_at}
use Rattle.discover.proofs.search.push_targets.Given as goal

abbrev pub invariant-loop-target : goal.invariant-loop-target
invariant-loop-target l = l.into.items ≡ l.initial.into.items ++ map (place_at l.entry) (take l.target-index l.targets)
