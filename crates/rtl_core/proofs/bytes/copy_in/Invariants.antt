use Rattle.std.proofs.Common.{◌≡◌, ◌+◌, drop}
use Rattle.rtl_core.specs.Contents.{put_all}
use Rattle.rtl_core.proofs.bytes.copy_in.Given as goal

abbrev pub invariant-loop-i : goal.invariant-loop-i
invariant-loop-i g l =
    let m = g.M.Memory.contents l.mem in
    record {
      contents : put_all m (l.a + l.i) (drop l.i l.bytes) ≡ put_all (g.M.Memory.contents l.fn.mem) l.a l.bytes;
      whole : g.M.Memory.whole l.mem;
      ready : g.M.Memory.ready l.mem;
      follows : g.M.Memory.follows l.fn.mem l.mem;
    }
