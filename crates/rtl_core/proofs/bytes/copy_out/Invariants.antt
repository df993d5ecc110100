use Rattle.std.proofs.Common.{◌≡◌, ◌+◌, ◌-◌, ◌++◌, take}
use Rattle.rtl_core.specs.Contents.{bytes_from}
use Rattle.rtl_core.proofs.bytes.copy_out.Given as goal

abbrev pub invariant-loop-i : goal.invariant-loop-i
invariant-loop-i g l =
    let m = g.M.Memory.contents l.mem in
    take l.i l.into ++ bytes_from m (l.a + l.i) (l.count - l.i) ≡ bytes_from m l.a l.count
