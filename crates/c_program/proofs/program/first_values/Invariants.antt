use Rattle.std.proofs.Common.{◌≡◌, ◌++◌, drop}
use Rattle.c_program.specs.Whole.{first_of}
use Rattle.c_program.proofs.program.first_values.Given as goal

-- with the values to come they are those of all cells
abbrev pub invariant-loop-c : goal.invariant-loop-c
invariant-loop-c l = l.out ++ first_of l.machine l.conv (drop l.c-index l.cells) ≡ first_of l.machine l.conv l.cells
