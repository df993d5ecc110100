use Rattle.std.proofs.Common.{◌≡◌}
use Rattle.std.specs.Prelude.{vec_capacity}
use Rattle.paged_space.specs.LaidOut.{HasGrown}
use Rattle.paged_space.proofs.laying.take_pages.Given as goal

abbrev pub invariant-loop-j : goal.invariant-loop-j
invariant-loop-j l = record {
  grown : HasGrown l.range l.j l.fn.frames.items l.frames.items l.fn.pool l.pool;
  capacity : vec_capacity l.frames ≡ vec_capacity l.fn.frames;
}
