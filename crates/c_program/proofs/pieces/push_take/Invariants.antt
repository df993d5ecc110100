use Rattle.std.proofs.Common.{◌≡◌, [], ◌++◌, drop}
use Rattle.c_control.specs.Pieces.{take_c}
use Rattle.c_program.proofs.pieces.push_take.Given as goal

-- with the cells to come they are all taken
abbrev pub invariant-loop-c : goal.invariant-loop-c
invariant-loop-c l = l.out ++ take_c (drop l.c-index l.cells) [] ≡ l.initial.out ++ take_c l.cells []
