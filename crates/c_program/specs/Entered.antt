-- What is pushed to enter a procedure, from its summary.
use Rattle.std.specs.Prelude.{◌≡◌, ℕ, List, [], ◌∷◌}
use Rattle.points.specs.declared.graph.Summary.{Summary}
use Rattle.c_lang.specs.declared.tree.CExpr.{CExpr}
use Rattle.c_lang.specs.declared.tree.CExpr.TheVariants.{Num, Of}
use Rattle.c_lang.specs.declared.tree.Stmt.{Stmt}
use Rattle.c_lang.specs.declared.tree.Stmt.TheVariants.{Call as CallOf}
use Rattle.c_lang.specs.declared.tree.Var.TheVariants.{Ra}
use Rattle.c_control.specs.Pieces.{deeper_c, shallower_c, take_c, give_c, arguments_c, without}
use Rattle.c_program.specs.declared.entering.Manner.{Manner}
use Rattle.c_program.specs.declared.entering.Manner.TheVariants.{Call, Jump}

-- what `ra` is for the procedure that is entered
abbrev pub passed_c : Manner → CExpr
passed_c (Call ra) = Num ra
passed_c (Jump mods) = Of Ra

-- what is done with the cells that it handed back
abbrev pub given_c : Manner → List ℕ → List Stmt → List Stmt
given_c (Call ra) cells rest = take_c cells rest
given_c (Jump mods) cells rest = give_c (without mods.now cells) rest

-- the procedure of a summary is entered
abbrev pub entered_c : Manner → Summary → List Stmt → List Stmt
entered_c manner s rest = deeper_c (CallOf s.entry (passed_c manner ∷ arguments_c s.refs) ∷ shallower_c (given_c manner s.mods rest))

-- this is the code that enters the procedure of a summary
pub record IsEntered (code : ℕ → List Stmt → List Stmt) (manner : Manner) (s : Summary) : Type 0 where
  pub is : code s.entry [] ≡ entered_c manner s []
