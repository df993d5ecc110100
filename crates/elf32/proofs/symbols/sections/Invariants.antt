use Rattle.std.proofs.Common.{◌≡◌, ◌+◌, ◌*◌, map}
use Rattle.std.specs.List.{range_with_len}
use Rattle.elf32.specs.Symbols.{section_from}
use Rattle.elf32.proofs.symbols.sections.Given as goal

abbrev pub invariant-loop-i : goal.invariant-loop-i
invariant-loop-i l = l.found.items ≡ map (λ i. section_from l.order l.file (l.start + 40 * i)) (range_with_len 0 l.i)
