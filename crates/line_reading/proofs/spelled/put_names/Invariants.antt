use Rattle.std.proofs.Common.{◌≡◌, ◌++◌, take}
use Rattle.line_reading.specs.Signs.{comma}
use Rattle.line_reading.specs.Spelling.{each_behind, name_toks}
use Rattle.line_reading.proofs.spelled.put_names.Given as goal

abbrev pub invariant-loop-name : goal.invariant-loop-name
invariant-loop-name l = l.out ≡ l.initial.out ++ each_behind comma name_toks (take l.name-index l.rest)
