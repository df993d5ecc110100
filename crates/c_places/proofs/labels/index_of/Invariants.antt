use Rattle.std.proofs.Common.{◌≡◌, ◌+◌, drop}
use Rattle.c_places.specs.Labels.{index_from}
use Rattle.c_places.proofs.labels.index_of.Given as goal

-- none so far
abbrev pub invariant-loop-i : goal.invariant-loop-i
invariant-loop-i l = index_from (l.start + l.i) (drop l.i l.blocks) l.to ≡ index_from l.start l.blocks l.to
