use Rattle.std.proofs.Common.{◌≡◌, map}
use Rattle.std.specs.List.{range_with_len}
use Rattle.sled_match.specs.Allows.{coded_allows as coded_allows_of}
use Rattle.sled_match.proofs.pruning.keys.Given as goal

abbrev pub invariant-loop-key : goal.invariant-loop-key
invariant-loop-key l = l.out ≡ map (coded_allows_of l.order l.coded l.place) (range_with_len 0 l.key)
