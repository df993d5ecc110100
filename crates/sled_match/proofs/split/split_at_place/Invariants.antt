use Rattle.std.proofs.Common.{◌≡◌, length, sum_by}
use Rattle.sled_match.specs.Pruned.{allowed_in}
use Rattle.sled_match.specs.Split.{IsSplit, IsSmallSplit}
use Rattle.sled_match.proofs.split.split_at_place.Given as goal

abbrev pub invariant-loop-key : goal.invariant-loop-key
invariant-loop-key l =
    IsSplit (allowed_in l.table.rows) l.place l.constructors l.lists l.index l.key
    × (IsSmallSplit (length l.constructors) l.lists × (l.held ≡ sum_by length l.lists))
