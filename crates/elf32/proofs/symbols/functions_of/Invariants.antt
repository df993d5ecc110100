use Rattle.std.proofs.Common.{◌≡◌, ◌+◌, ◌*◌, map, filter}
use Rattle.std.specs.List.{range_with_len}
use Rattle.elf32.specs.Symbols.{symbol_from, is_function}
use Rattle.elf32.proofs.symbols.functions_of.Given as goal

abbrev pub invariant-loop-i : goal.invariant-loop-i
invariant-loop-i l = l.found.items ≡ map (λ s. s.value) (filter is_function (map (λ i. symbol_from l.order l.file (l.start + 16 * i)) (range_with_len 0 l.i)))
