-- Steps from a state whose place is known.
use Rattle.std.proofs.Common.{◌≡◌, ℕ, Some, List, [], ◌∷◌, ◌++◌, true}
use Rattle.std.specs.Prelude.{slice_get, ◌%◌, ◌^◌}
use Rattle.lockstep.specs.Runs.{Goes}
use Rattle.rtl_core.specs.declared.point.Point.{Point}
use Rattle.rtl_core.specs.declared.stop.Stop.{Stop}
use Rattle.rtl_core.specs.Value.{choice}
use Rattle.c_lang.specs.declared.tree.CBlock.{CBlock}
use Rattle.c_lang.specs.declared.tree.CExpr.{CExpr}
use Rattle.c_lang.specs.declared.tree.End.{End}
use Rattle.c_lang.specs.declared.tree.End.TheVariants.{Goto, Finish}
use Rattle.c_lang.specs.declared.tree.Program.{Program}
use Rattle.c_lang.specs.declared.tree.Stmt.{Stmt}
use Rattle.c_lang.specs.declared.tree.Stmt.TheVariants.{Set, Serve, If, Stop as StopWith}
use Rattle.c_lang.specs.declared.tree.Var.{Var}
use Rattle.c_lang.specs.Value.{value}
use Rattle.c_lang.specs.State.{State, At, seen_vars, declared_in, to_place, put, stops}
use Rattle.c_lang.specs.Step.{step, ended, go_to, block_of, blocks_in, named_stops, serve}
use Rattle.c_lang.proofs.StepLaws.{done-Set, done-If, done-Serve, done-Stop}

pub step-Set : (p : Program) (s : State) (v : Var) (e : CExpr) (n : ℕ) (rest : List Stmt) (end : End) → s.top.place ≡ At (Set v e ∷ rest) end
    → value (seen_vars s) e ≡ Some n → declared_in (slice_get p.functions s.top.function) v ≡ true → step p s ≡ Goes (put (to_place s (At rest end)) v n)
step-Set p s v e n rest end place is declared = rw (place, done-Set, is, declared)

pub step-If : (p : Program) (s : State) (e : CExpr) (n : ℕ) (body rest : List Stmt) (end : End) → s.top.place ≡ At (If e body ∷ rest) end
    → value (seen_vars s) e ≡ Some n → step p s ≡ Goes (to_place s (At (choice n (body ++ rest) rest) end))
step-If p s e n body rest end place is = rw (place, done-If, is)

pub step-Stop : (p : Program) (s : State) (k n : ℕ) (e : CExpr) (stop : Stop) (rest : List Stmt) (end : End) → s.top.place ≡ At (StopWith k e ∷ rest) end
    → value (seen_vars s) e ≡ Some n → slice_get (named_stops (n % 2 ^ 32)) k ≡ Some stop → step p s ≡ stops s stop
step-Stop p s k n e stop rest end place is named = rw (place, done-Stop, is, named)

pub step-Serve : (p : Program) (s : State) (e f g h : CExpr) (number x y z : ℕ) (rest : List Stmt) (end : End) → s.top.place ≡ At (Serve e f g h ∷ rest) end
    → value (seen_vars s) e ≡ Some number → value (seen_vars s) f ≡ Some x → value (seen_vars s) g ≡ Some y → value (seen_vars s) h ≡ Some z
    → step p s ≡ serve p s (At rest end) number x y z
step-Serve p s e f g h number x y z rest end place is_n is_x is_y is_z = rw (place, done-Serve, is_n, is_x, is_y, is_z)

pub step-Goto : (p : Program) (s : State) (to : Point) (b : CBlock) → s.top.place ≡ At [] (Goto to)
    → block_of (blocks_in (slice_get p.functions s.top.function)) to ≡ Some b → step p s ≡ Goes (to_place s (At b.stmts b.end))
unfolding ended go_to
step-Goto p s to b place found = rw (place, found)

pub step-Finish : (p : Program) (s : State) (k n : ℕ) (e : CExpr) (stop : Stop) → s.top.place ≡ At [] (Finish k e)
    → value (seen_vars s) e ≡ Some n → slice_get (named_stops (n % 2 ^ 32)) k ≡ Some stop → step p s ≡ stops s stop
unfolding ended
step-Finish p s k n e stop place is named = rw (place, is, named)
