use Rattle.std.proofs.Common.{◌≡◌, drop}
use Rattle.std.specs.Prelude.{vec_capacity}
use Rattle.paged_space.specs.LaidOut.{Laid}
use Rattle.paged_space.proofs.laying.lay.Given as goal
use Rattle.paged_space.specs.Sorting.{values}

abbrev pub invariant-loop-range : goal.invariant-loop-range
invariant-loop-range l = record {
  laid : Laid (values l.order) (drop l.range-index (values l.order)) l.extents.items l.frames.items l.writes.items l.fn.pool l.pool;
  extents : vec_capacity l.extents ≡ vec_capacity l.fn.extents;
  frames : vec_capacity l.frames ≡ vec_capacity l.fn.frames;
  writes : vec_capacity l.writes ≡ vec_capacity l.fn.writes;
}
