use Rattle.std.proofs.Common.{◌≡◌, ◌++◌, take}
use Rattle.line_reading.specs.Signs.{bar}
use Rattle.line_reading.specs.Spelling.{each_behind}
use Rattle.sled_syntax.specs.Lines.{sequence_toks}
use Rattle.sled_syntax.proofs.spelling.put_alternatives.Given as goal

abbrev pub invariant-loop-items : goal.invariant-loop-items
invariant-loop-items l = l.out ≡ l.initial.out ++ each_behind bar sequence_toks (take l.items-index l.rest)
