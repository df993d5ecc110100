use Rattle.std.proofs.Common.{◌≡◌, ◌≤◌, ◌*◌, ◌^◌, take}
use Rattle.paged_space.proofs.range.frames_of.Given as goal
use Rattle.paged_space.specs.Built.{frames_of}

abbrev pub invariant-loop-range : goal.invariant-loop-range
invariant-loop-range l = record {
  sum : l.sum ≡ frames_of (take l.range-index l.ranges);
  few : l.sum ≤ 2 ^ 21 * l.range-index;
}
