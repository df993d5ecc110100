use Rattle.std.proofs.Common.{◌≡◌, ◌++◌, take}
use Rattle.line_reading.specs.Signs.{comma}
use Rattle.line_reading.specs.Spelling.{each_behind}
use Rattle.ssl_syntax.specs.Lines.{part_toks}
use Rattle.ssl_syntax.proofs.spelled_lines.put_parts.Given as goal

abbrev pub invariant-loop-part : goal.invariant-loop-part
invariant-loop-part l = l.out ≡ l.initial.out ++ each_behind comma part_toks (take l.part-index l.rest)
