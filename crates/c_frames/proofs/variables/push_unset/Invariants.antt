use Rattle.std.proofs.Common.{◌≡◌, ◌++◌, None, replicate}
use Rattle.std.specs.Prelude.{vec_capacity}
use Rattle.c_frames.proofs.variables.push_unset.Given as goal

-- so many slots were put
abbrev pub invariant-loop-i : goal.invariant-loop-i
invariant-loop-i l = record {
  items : l.slots.items ≡ l.fn.slots.items ++ replicate l.i None;
  capacity : vec_capacity l.slots ≡ vec_capacity l.fn.slots;
}
