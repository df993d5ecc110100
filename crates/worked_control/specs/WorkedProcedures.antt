-- The procedures that are given with a worked program are those of its bodies.
use Rattle.std.specs.Prelude.{◌↔◌, ℕ, IsTrue, List, [], ◌∷◌}
use Rattle.points.specs.Bodies.{code_of, roots_of, Procedure}
use Rattle.worked_control.specs.WorkedMachine.{entry, Program, setting_of, flow_of}
use Rattle.worked_control.specs.WorkedPrograms.{tail_jump}

-- with these function symbols, the program's procedures are exactly those that its roots and the calls in bodies give
pub record HasProcedures (p : Program) (symbols : List ℕ) : Type 0 where
  pub each : (t : ℕ) → IsTrue ((flow_of p).is_procedure t) ↔ Procedure (code_of (setting_of p) (λ a. p.targets)) (roots_of (setting_of p) entry symbols) t

-- a procedure that is called, and one at a symbol that a tail jump enters
abbrev pub TailsAreProcedures : Type 0
TailsAreProcedures = HasProcedures (tail_jump (0x1000 ∷ 0x1010 ∷ 0x1020 ∷ [])) (0x1020 ∷ [])
