use Rattle.std.proofs.Common.{◌≡◌, [], ◌++◌, drop}
use Rattle.c_control.specs.Pieces.{give_c, without}
use Rattle.c_program.proofs.pieces.push_give_without.Given as goal

-- with the cells to come all that are not in the list are handed back
abbrev pub invariant-loop-c : goal.invariant-loop-c
invariant-loop-c l = l.out ++ give_c (without (drop l.c-index l.cells) l.but) [] ≡ l.initial.out ++ give_c (without l.cells l.but) []
