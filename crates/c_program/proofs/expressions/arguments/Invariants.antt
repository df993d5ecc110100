use Rattle.std.proofs.Common.{◌≡◌, ◌∷◌, ◌++◌, drop}
use Rattle.c_control.specs.Pieces.{arguments_c}
use Rattle.c_program.proofs.expressions.arguments.Given as goal

-- with the cells to come they are all arguments
abbrev pub invariant-loop-c : goal.invariant-loop-c
invariant-loop-c l = l.out ++ arguments_c (drop l.c-index l.cells) ≡ l.fn.ra ∷ arguments_c l.cells
