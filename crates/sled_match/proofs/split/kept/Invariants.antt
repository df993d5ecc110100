use Rattle.std.proofs.Common.{◌≡◌, take}
use Rattle.sled_match.specs.Pruned.{allowed_in, kept as kept_of}
use Rattle.sled_match.proofs.split.kept.Given as goal

abbrev pub invariant-loop-constructor : goal.invariant-loop-constructor
invariant-loop-constructor l = l.left ≡ kept_of (allowed_in l.table.rows) l.place l.key (take l.constructor-index l.constructors)
