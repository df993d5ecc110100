use Rattle.std.proofs.Common.{◌≡◌, ◌++◌, take}
use Rattle.line_reading.specs.Signs.{semicolon}
use Rattle.line_reading.specs.Spelling.{each_behind}
use Rattle.sled_syntax.specs.Lines.{item_toks}
use Rattle.sled_syntax.proofs.spelling.put_sequence.Given as goal

abbrev pub invariant-loop-item : goal.invariant-loop-item
invariant-loop-item l = l.out ≡ l.initial.out ++ each_behind semicolon item_toks (take l.item-index l.rest)
