use Rattle.std.proofs.Common.{◌≡◌, ◌+◌, ◌-◌, ◌≤◌, ◌<◌, ◌^◌}
use Rattle.rtl_core.specs.Contents.{first_fault, is_writable}
use Rattle.rtl_core.proofs.bytes.first_unwritable.Given as goal

abbrev pub invariant-loop-i : goal.invariant-loop-i
invariant-loop-i g l =
    let m = g.M.Memory.contents l.mem in
    record {
      same : first_fault is_writable m l.a l.count ≡ first_fault is_writable m (l.a + l.i) (l.count - l.i);
      below : 0 < l.i → l.a + l.i ≤ 2 ^ 32;
    }
