use Rattle.std.proofs.Common.{◌≡◌, take}
use Rattle.std.specs.Prelude.{vec_capacity}
use Rattle.paged_space.specs.Sharing.{IsShared}
use Rattle.paged_space.proofs.sharing.share_all.Given as goal

abbrev pub invariant-loop-frame : goal.invariant-loop-frame
invariant-loop-frame l = record {
  same : l.out.items ≡ take l.frame-index l.frames;
  shared : IsShared (take l.frame-index l.frames) l.fn.pool l.pool;
  capacity : vec_capacity l.out ≡ vec_capacity l.fn.out;
}
