use Rattle.std.proofs.Common.{◌≡◌, ◌+◌, ◌-◌, ◌++◌, length, take}
use Rattle.rtl_core.specs.Contents.{bytes_from, first_fault, is_mapped}
use Rattle.paged_space.specs.PageTable.{contents_of}
use Rattle.paged_space.proofs.space.Space.bytes_at.Given as goal

abbrev pub invariant-loop-i : goal.invariant-loop-i
invariant-loop-i l =
    let m = contents_of l.self l.pool in
    record {
      long : length l.into ≡ l.count;
      fault : first_fault is_mapped m l.a l.count ≡ first_fault is_mapped m (l.a + l.i) (l.count - l.i);
      bytes : take l.i l.into ++ bytes_from m (l.a + l.i) (l.count - l.i) ≡ bytes_from m l.a l.count;
    }
