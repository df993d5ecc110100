use Rattle.std.proofs.Common.{◌≡◌, map}
use Rattle.std.specs.List.{range_with_len}
use Rattle.sled_match.specs.Allows.{keys_of}
use Rattle.sled_match.proofs.pruning.places.Given as goal

abbrev pub invariant-loop-place : goal.invariant-loop-place
invariant-loop-place l = l.out ≡ map (keys_of l.order l.coded) (range_with_len 0 l.place)
