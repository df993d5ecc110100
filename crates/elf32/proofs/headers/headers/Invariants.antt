use Rattle.std.proofs.Common.{◌≡◌, map}
use Rattle.std.specs.List.{range_with_len}
use Rattle.elf32.specs.Headers.{header_of}
use Rattle.elf32.proofs.headers.headers.Given as goal

abbrev pub invariant-loop-i : goal.invariant-loop-i
invariant-loop-i l = l.found.items ≡ map (header_of l.order l.file) (range_with_len 0 l.i)
