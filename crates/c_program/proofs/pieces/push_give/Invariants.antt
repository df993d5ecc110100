use Rattle.std.proofs.Common.{◌≡◌, [], ◌++◌, drop}
use Rattle.c_control.specs.Pieces.{give_c}
use Rattle.c_program.proofs.pieces.push_give.Given as goal

-- with the cells to come they are all handed back
abbrev pub invariant-loop-c : goal.invariant-loop-c
invariant-loop-c l = l.out ++ give_c (drop l.c-index l.cells) [] ≡ l.initial.out ++ give_c l.cells []
