use Rattle.std.proofs.Common.{◌≡◌, ◌++◌, take}
use Rattle.std.specs.List.{flat_map}
use Rattle.discover.specs.Parts.{backs_in}
use Rattle.discover.proofs.nodes.push_returns.Given as goal

abbrev pub invariant-loop-next : goal.invariant-loop-next
invariant-loop-next l = l.into.items ≡ l.initial.into.items ++ flat_map backs_in (take l.next-index l.nexts)
