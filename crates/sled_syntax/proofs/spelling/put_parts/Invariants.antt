use Rattle.std.proofs.Common.{◌≡◌, ◌++◌, take}
use Rattle.line_reading.specs.Signs.{ampersand}
use Rattle.line_reading.specs.Spelling.{each_behind}
use Rattle.sled_syntax.specs.Lines.{part_toks}
use Rattle.sled_syntax.proofs.spelling.put_parts.Given as goal

abbrev pub invariant-loop-part : goal.invariant-loop-part
invariant-loop-part l = l.out ≡ l.initial.out ++ each_behind ampersand part_toks (take l.part-index l.rest)
