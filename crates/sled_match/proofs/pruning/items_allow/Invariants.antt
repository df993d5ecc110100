use Rattle.std.proofs.Common.{◌≡◌, drop}
use Rattle.sled_match.specs.Allows.{items_allow as items_allow_of}
use Rattle.sled_match.proofs.pruning.items_allow.Given as goal

abbrev pub invariant-loop-item : goal.invariant-loop-item
invariant-loop-item l = items_allow_of l.order (drop l.item-index l.items) l.place l.key ≡ items_allow_of l.order l.items l.fn.place l.key
