-- The code of each point of a body, and each further block.
use Rattle.std.proofs.Common.{◌≡◌, ℕ, Bool, true, false, List, [], ◌∷◌, ◌++◌, Option, Some, None, ◌≤◌, refl, sym, subst, arith}
use Rattle.std.specs.Prelude.{IsTrue, if◌then◌else◌, ◌==◌}
use Rattle.std.specs.List.{Contains}
use Rattle.rtl_core.specs.declared.conv.ServiceShape.{ServiceShape}
use Rattle.rtl_core.specs.declared.inst.GroundInst.{GroundInst}
use Rattle.rtl_core.specs.declared.machine.Machine.{Machine}
use Rattle.rtl_core.specs.declared.point.Point.{Point}
use Rattle.rtl_core.specs.declared.point.Slot.{Slot}
use Rattle.rtl_core.specs.declared.point.Slot.TheVariants.{Seq, To, Dyn, CallTo, CallDyn, Ret}
use Rattle.rtl_core.specs.SoundTerms.{AreSoundTransfers, is_service}
use Rattle.points.specs.declared.block.Block.{Block}
use Rattle.points.specs.declared.block.Block.TheVariants.{Inst}
use Rattle.points.specs.declared.block.JumpKind.{JumpKind}
use Rattle.points.specs.Kinds.{block_at}
use Rattle.points.specs.Courses.{pending, possible, arrival_next, course_by, course_next, halts, jump_mode, annul_mode}
use Rattle.points.specs.Bodies.{Code as Program, code_of, nexts, Body, Procedure}
use Rattle.points.proofs.StandingSound.{standing-sound}
use Rattle.c_lang.specs.declared.tree.CBlock.{CBlock}
use Rattle.c_lang.specs.declared.tree.CExpr.{CExpr}
use Rattle.c_lang.specs.declared.tree.CExpr.TheVariants.{Num, Of}
use Rattle.c_lang.specs.declared.tree.End.TheVariants.{Return}
use Rattle.c_lang.specs.declared.tree.Stmt.{Stmt}
use Rattle.c_lang.specs.declared.tree.Stmt.TheVariants.{Set, If}
use Rattle.c_lang.specs.declared.tree.Var.TheVariants.{Cell, Temp, ServeR, ServeE}
use Rattle.c_lower.specs.Accounts.{lowered_need}
use Rattle.c_lower.specs.Cells.{cell_c, set_c}
use Rattle.c_lower.specs.Lowered.{lowered}
use Rattle.c_lower.specs.Theorem.{IsLowered}
use Rattle.c_lower.proofs.Acts.{is_lowered}
use Rattle.c_control.specs.Blocks.{Code, code, ends, never, arrival_code, jump_code, control_code, code_behind, code_of_block, code_at, block_c, further_c}
use Rattle.c_control.specs.Plans.{Plan}
use Rattle.c_control.specs.Services.{does, flag_c, service_c, service_due_c, served_c}
use Rattle.c_control.specs.Shape.{AllLead, GoesOn}
use Rattle.c_control.proofs.Coming.{course-next-in}
use Rattle.c_control.proofs.Frames.{Emission}
use Rattle.c_control.proofs.Naming.{gets, is-naming}
use Rattle.c_control.proofs.Performing.{stands}
use Rattle.c_control.proofs.PlannedShape.{planned-has-shape}
use Rattle.c_static.proofs.PieceSays.{AllLeaves}
use Rattle.c_static.proofs.Reaching.{arrives-at, each-leaf}
use Rattle.c_shape.specs.Functions.{Leaves}
use Rattle.c_shape.specs.Performing.{CanCall, CanJump, Hands, Knows, EndKnows, Last, Performs, Quiet, IsCodeOf, IsPerforming}
use Rattle.c_shape.proofs.Guards.{is-guarded}
use Rattle.c_shape.proofs.Walking.{Four, none, four, none-in-all, knows-temp, knows-flag, behind, done, tidy-then, tidy-quiet, last-itself}
use Rattle.c_shape.proofs.Controls.{May, Shaped, hands-more, with-front, arrival-shaped, control-shaped}

-- ---- services

module _ (plan : Plan) (roots : List ℕ) (p : ℕ) (b : Point) where
  abbrev m : Machine
  m = plan.flow.setting.machine

  cell-known : (D : ℕ → Bool) (o : Option ℕ) (c : ℕ) → Knows D (cell_c o c)
  cell-known D None c = Knows.variable (Cell c) refl
  cell-known D (Some z) c = by (c == z)
    where
      by : (t : Bool) → Knows D (if t then Num 0 else Of (Cell c))
      by true = Knows.number 0
      by false = Knows.variable (Cell c) refl

  module _ (w : Code) (D E : ℕ → Bool) where
    set : (o : Option ℕ) (c : ℕ) (e : CExpr) (rest : List Stmt) → Knows D e → Performs plan roots p b w D rest E → Performs plan roots p b w D (set_c o c e rest) E
    set None c e rest k h = Performs.sets (Cell c) e refl k h
    set (Some z) c e rest k h = by (c == z)
      where
        by : (t : Bool) → Performs plan roots p b w D (if t then rest else Set (Cell c) e ∷ rest) E
        by true = h
        by false = Performs.sets (Cell c) e refl k h

    flag : (z o : Option ℕ) (rest : List Stmt) → Performs plan roots p b w D rest E → Performs plan roots p b w D (flag_c z o rest) E
    flag z None rest h = h
    flag z (Some c) rest h = set z c (Of ServeE) rest (knows-flag D) h

    service : (z : Option ℕ) (shape : ServiceShape) (rest : List Stmt) → Performs plan roots p b w D rest E → Performs plan roots p b w D (service_c z shape rest) E
    service z shape rest h =
        Performs.serves (cell_c z shape.number) (cell_c z shape.arg_x) (cell_c z shape.arg_y) (cell_c z shape.arg_z) (cell-known D z shape.number) (cell-known D z shape.arg_x) (cell-known D z shape.arg_y) (cell-known D z shape.arg_z)
        (set z shape.result (Of ServeR) (flag_c z shape.error rest) (Knows.variable ServeR refl) (flag z shape.error rest h))

  due : (w : Code) (D E : ℕ → Bool) (z : Option ℕ) (can : Bool) (o : Option ServiceShape) (rest : List Stmt) → Four D → Performs plan roots p b w D rest E → Performs plan roots p b w D (service_due_c z can o rest) E
  due w D E z true (Some shape) rest f h = Performs.tests (Of (Temp 3)) (knows-temp D f 3 refl) (service w D D z shape [] (done plan roots p b w D)) h
  due w D E z true None rest f h = h
  due w D E z false o rest f h = h

  quiet-set : (o : Option ℕ) (c : ℕ) (e : CExpr) (rest : List Stmt) → Quiet rest → Quiet (set_c o c e rest)
  quiet-set None c e rest h = Quiet.sets (Cell c) e h
  quiet-set (Some z) c e rest h = by (c == z)
    where
      by : (t : Bool) → Quiet (if t then rest else Set (Cell c) e ∷ rest)
      by true = h
      by false = Quiet.sets (Cell c) e h

  quiet-flag : (z o : Option ℕ) → Quiet (flag_c z o [])
  quiet-flag z None = Quiet.empty
  quiet-flag z (Some c) = quiet-set z c (Of ServeE) [] Quiet.empty

  quiet-service : (z : Option ℕ) (shape : ServiceShape) → Quiet (service_c z shape [])
  quiet-service z shape =
      Quiet.serves (cell_c z shape.number) (cell_c z shape.arg_x) (cell_c z shape.arg_y) (cell_c z shape.arg_z) (quiet-set z shape.result (Of ServeR) (flag_c z shape.error []) (quiet-flag z shape.error))

  due-last : (z : Option ℕ) (can : Bool) (o : Option ServiceShape) (rest : List Stmt) → Last rest (service_due_c z can o rest)
  due-last z true (Some shape) rest = record { front = If (Of (Temp 3)) (service_c z shape []) ∷ []; quiet = Quiet.tests (Of (Temp 3)) (quiet-service z shape) Quiet.empty; is = refl }
  due-last z true None rest = last-itself rest
  due-last z false o rest = last-itself rest

  pub served : (can : Bool) (o : Option ServiceShape) (c : Code) → Shaped plan roots p b Four c → Shaped plan roots p b Four (code (service_due_c m.zero can o c.stmts) c.end)
  served can o c h =
      let stmts = service_due_c m.zero can o c.stmts in
      with-front plan roots p b c stmts (due-last m.zero can o c.stmts) (λ D E f k. due (code stmts c.end) D E m.zero can o c.stmts f (k D f)) h

  -- an arrival that leaves the procedure leads to no label
  pub leaves-lead : (Q : Point → Type 0) (slot : Slot) → Leaves plan slot → AllLead Q (arrival_code plan p slot).end
  leaves-lead Q slot (Leaves.returns) = tt
  leaves-lead Q slot (Leaves.jumps e) = subst (λ ts. AllLead Q (jump_code plan p ts).end) (sym e) tt

-- ---- the points of a body

module _ (g : Emission) (leaves : AllLeaves (λ t. IsTrue (g.plan.flow.is_procedure t)) g.plan.tree) (q : ℕ) (procedure : Procedure (code_of g.plan.flow.setting g.plan.flow.table) g.roots q) (b : Point)
    (inside : Body (code_of g.plan.flow.setting g.plan.flow.table) q b) where
  abbrev plan : Plan
  plan = g.plan

  abbrev program : Program
  program = code_of g.plan.flow.setting g.plan.flow.table

  abbrev machine : Machine
  machine = g.plan.flow.setting.machine

  -- what an arrival that a step can make may enter
  may-make : (slot : Slot) → Contains (nexts program b) (arrival_next slot) → May plan g.roots q b slot
  may-make Seq c = tt
  may-make (To t) c = tt
  may-make (Dyn a) c = λ empty. each-leaf (λ t. IsTrue (plan.flow.is_procedure t)) (CanJump plan g.roots b) (λ t is. record { address = a; comes = c; empty = empty; procedure = g.planned.procedures t is }) plan.tree leaves
  may-make (CallTo t back) c = CanCall.given c
  may-make (CallDyn back) c = each-leaf (λ t. IsTrue (plan.flow.is_procedure t)) (λ t. CanCall plan g.roots b t back) (λ t is. CanCall.any c (g.planned.procedures t is)) plan.tree leaves
  may-make Ret c = record { comes = c }

  module _ (inst : GroundInst) (kind : JumpKind) (at : block_at plan.flow.setting b.pc ≡ Inst inst kind) where
    may-slot : halts inst.transfers ≡ false → (s : Slot) → b.slot ≡ s → possible (jump_mode inst.transfers) false ≡ true → possible (annul_mode inst.transfers) false ≡ true → May plan g.roots q b s
    may-slot going s e ej ea = by s (subst (λ x. Contains (nexts program b) (course_next (course_by machine b.pc x inst.next kind false false))) e (course-next-in g b inst kind false false at going ej ea))
      where
        by : (s : Slot) → Contains (nexts program b) (course_next (course_by machine b.pc s inst.next kind false false)) → May plan g.roots q b s
        by Seq c = tt
        by (To t) c = tt
        by (Dyn a) c = may-make (Dyn a) c
        by (CallTo t back) c = may-make (CallTo t back) c
        by (CallDyn back) c = may-make (CallDyn back) c
        by Ret c = may-make Ret c

    control : halts inst.transfers ≡ false → Shaped plan g.roots q b Four (control_code plan q b inst kind)
    control going =
        control-shaped plan g.roots q b b.pc inst.next (jump_mode inst.transfers) (annul_mode inst.transfers) b.slot kind (may-slot going b.slot refl)
        (λ fresh can. may-make (pending b.pc kind) (arrives-at g b inst kind fresh at going can))

    behind-shaped : Shaped plan g.roots q b Four (code_behind plan q b inst kind)
    behind-shaped = by (halts inst.transfers) refl
      where
        by : (h : Bool) → halts inst.transfers ≡ h
            → Shaped plan g.roots q b Four (if h then ends never else let c = control_code plan q b inst kind in code (served_c machine plan.flow.setting.conv inst.transfers c.stmts) c.end)
        by true e = record { out = none; stmts = λ D f. Performs.ends (none-in-all D); end = Knows.number 0; hands = λ e. let no : ⊥ = cc in absurd no }
        by false e = served plan g.roots q b (does is_service inst.transfers) plan.flow.setting.conv.service (control_code plan q b inst kind) (control e)

    low : IsLowered machine b.pc inst.transfers (gets g q) (lowered_need inst.transfers)
    low =
        let sound = g.planned.sound.machine.machine in
        let small = g.planned.small q b procedure inside in
        let transfers : AreSoundTransfers machine inst.transfers = standing-sound plan.flow.setting b.pc inst sound small (stands plan.flow.setting b.pc inst kind at) in
        let room : lowered_need inst.transfers ≤ lowered_need inst.transfers = omega arith in
        is_lowered machine (record { widths = sound.widths; windows = sound.windows }) b.pc small inst.transfers transfers (gets g q) (is-naming g q b inst kind inside at) (lowered_need inst.transfers) room

  -- what the code of a point is, its labels aside
  record IsDone (c : Code) : Type 0 where
    assigned : ℕ → Bool
    stmts : Performs plan g.roots q b c (λ i. false) c.stmts assigned
    end : EndKnows assigned c.end
    hands : c.end ≡ Return → Hands plan q c.stmts

  point-done : IsDone (code_at plan q b)
  point-done = by (block_at plan.flow.setting b.pc) refl
    where
      by : (k : Block) → block_at plan.flow.setting b.pc ≡ k → IsDone (code_of_block plan q b k)
      by Block.Outside at = record { assigned = none; stmts = Performs.ends (λ i h. h); end = Knows.number b.pc; hands = λ e. let no : ⊥ = cc in absurd no }
      by Block.Illegal at = record { assigned = none; stmts = Performs.ends (λ i h. h); end = Knows.number b.pc; hands = λ e. let no : ⊥ = cc in absurd no }
      by (Inst inst kind) at =
          let c = code_behind plan q b inst kind in
          let h = behind-shaped inst kind at in
          let first = lowered machine b.pc inst.transfers [] in
          let l = low inst kind at in
          let in_it : Last c.stmts (first ++ c.stmts) = record { front = first; quiet = tidy-quiet (gets g q) (lowered_need inst.transfers) 2 none four first l.tidy; is = refl } in
          record {
            assigned = h.out;
            stmts = tidy-then plan g.roots q b (code (first ++ c.stmts) c.end) (gets g q) (lowered_need inst.transfers) 2 none four first l.tidy c.stmts h.out
                (λ D f. behind plan g.roots q b c (first ++ c.stmts) in_it D h.out c.stmts (h.stmts D f));
            end = h.end;
            hands = λ e. hands-more plan g.roots q b c.stmts (first ++ c.stmts) in_it (h.hands e);
          }

  pub point-code : IsCodeOf plan g.roots q b (code_at plan q b)
  point-code =
      let shape = planned-has-shape plan g.roots g.parts g.entry g.program g.planned in
      let block = (shape.functions q procedure).is.blocks b inside in
      let d = point-done in
      record { assigned = d.assigned; stmts = d.stmts; end = d.end; leads = subst (AllLead (GoesOn plan q b)) block.end block.leads; hands = d.hands }

  pub point-performs : IsPerforming plan g.roots q (block_c plan q b)
  point-performs = IsPerforming.at b inside refl point-code

  further-code : (slot : Slot) → Leaves plan slot → Contains (nexts program b) (arrival_next slot) → IsCodeOf plan g.roots q b (arrival_code plan q slot)
  further-code slot l c =
      let h = arrival-shaped plan g.roots q b slot (may-make slot c) in
      record { assigned = h.out; stmts = h.stmts none tt; end = h.end; leads = leaves-lead plan g.roots q b (GoesOn plan q b) slot l; hands = h.hands }

  pub further-performs : (more : CBlock) → further_c plan q b ≡ Some more → IsPerforming plan g.roots q more
  further-performs more e =
      let made = is-guarded plan q b more e in
      let guard = made.guard in
      let comes : Contains (nexts program b) (arrival_next made.slot) = subst (λ s. Contains (nexts program b) (arrival_next s)) guard.jump (arrives-at g b guard.inst guard.kind guard.fresh guard.stands guard.going guard.can) in
      subst (IsPerforming plan g.roots q) made.is (IsPerforming.further b inside refl (further-code made.slot guard.leaves comes))
