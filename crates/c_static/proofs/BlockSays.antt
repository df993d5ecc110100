-- What the blocks of a procedure mention: that of each point of its body, and each further block.
use Rattle.std.proofs.Common.{◌≡◌, ◌≢◌, ℕ, suc, ◌≤◌, Bool, true, false, List, [], ◌∷◌, length, Option, Some, None, refl, sym, subst, arith}
use Rattle.std.specs.Prelude.{IsTrue, if◌then◌else◌, ◌==◌}
use Rattle.std.specs.List.{Contains}
use Rattle.std.proofs.lemmas.Bool.{eqb-false}
use Rattle.rtl_core.specs.declared.conv.ServiceShape.{ServiceShape}
use Rattle.rtl_core.specs.declared.inst.GroundInst.{GroundInst}
use Rattle.rtl_core.specs.declared.machine.Machine.{Machine}
use Rattle.rtl_core.specs.declared.point.Point.{Point}
use Rattle.rtl_core.specs.declared.point.Slot.{Slot}
use Rattle.rtl_core.specs.SoundTerms.{AreSoundTransfers, is_service}
use Rattle.points.specs.declared.block.Block.{Block}
use Rattle.points.specs.declared.block.Block.TheVariants.{Inst}
use Rattle.points.specs.declared.block.JumpKind.{JumpKind}
use Rattle.points.specs.Kinds.{block_at}
use Rattle.points.specs.Courses.{pending, arrival_next, halts, jump_mode, annul_mode}
use Rattle.points.specs.Bodies.{Code as Program, code_of, nexts, Body, Procedure}
use Rattle.points.specs.Summaries.{block_names, service_cells, cell_if_any}
use Rattle.points.proofs.StandingSound.{standing-sound}
use Rattle.c_lang.specs.declared.tree.CExpr.{CExpr}
use Rattle.c_lang.specs.declared.tree.CExpr.TheVariants.{Num, Of}
use Rattle.c_lang.specs.declared.tree.Stmt.{Stmt}
use Rattle.c_lang.specs.declared.tree.Stmt.TheVariants.{Set}
use Rattle.c_lang.specs.declared.tree.Var.TheVariants.{Cell, Temp, ServeR, ServeE}
use Rattle.c_lang.specs.Items.{Mention, Calling}
use Rattle.c_lower.specs.Accounts.{lowered_need}
use Rattle.c_lower.specs.Cells.{cell_c, set_c}
use Rattle.c_lower.specs.Lowered.{lowered}
use Rattle.c_lower.specs.Theorem.{IsLowered}
use Rattle.c_lower.proofs.Acts.{is_lowered}
use Rattle.c_control.specs.Blocks.{code, ends, never, arrival_code, control_code, code_behind, code_of_block, code_at}
use Rattle.c_control.specs.Services.{does, flag_c, answer_c, service_c, service_due_c, served_c}
use Rattle.c_control.proofs.Cells.{In}
use Rattle.c_control.proofs.Frames.{Emission, CanEnter}
use Rattle.c_control.proofs.Naming.{gets, is-naming}
use Rattle.c_control.proofs.Performing.{stands}
use Rattle.c_control.proofs.ServiceLaws.{service-named}
use Rattle.c_static.proofs.Saying.{Uses, Says, uses-Num, uses-Of, says-none, says-append, says-Set, says-Serve, says-If}
use Rattle.c_static.proofs.Tidies.{Allows, tidy-says}
use Rattle.c_static.proofs.PieceSays.{AllLeaves, uses-Temp, uses-ServeE}
use Rattle.c_static.proofs.ControlSays.{CodeSays, arrival-says, control-says}
use Rattle.c_static.proofs.Reaching.{arrives-at, may-slot, may-step}

module _ (g : Emission) where
  abbrev program : Program
  program = code_of g.plan.flow.setting g.plan.flow.table

  abbrev m : Machine
  m = g.plan.flow.setting.machine

  module _ (P : Mention → Type 0) (q : ℕ) (procedure : Procedure program g.roots q) (call : (t : ℕ) → CanEnter g q t → P (Calling t (suc (length (g.plan.refs t))))) (leaves : AllLeaves (λ t. IsTrue (g.plan.flow.is_procedure t)) g.plan.tree)
      (temps : ℕ) (allows : Allows P (gets g q) temps) (few : 4 ≤ temps)
      (room : (b : Point) (inst : GroundInst) (kind : JumpKind) → Body program q b → block_at g.plan.flow.setting b.pc ≡ Inst inst kind → lowered_need inst.transfers ≤ temps) where
    -- ---- services

    cell-uses : (c : ℕ) → (m.zero ≢ Some c → gets g q c ≡ true) → Uses P (cell_c m.zero c)
    cell-uses c h = by m.zero refl
      where
        plain : m.zero ≢ Some c → Uses P (Of (Cell c))
        plain ne = uses-Of P (Cell c) (allows.cell c (h ne))

        at : (z : ℕ) → m.zero ≡ Some z → (b : Bool) → (c == z) ≡ b → Uses P (if b then Num 0 else Of (Cell c))
        at z o true e = uses-Num P 0
        at z o false e = plain (λ o'. let same : z ≡ c = cc in eqb-false c z e (sym same))

        by : (o : Option ℕ) → m.zero ≡ o → Uses P (cell_c o c)
        by None o = plain (λ o'. let no : ⊥ = cc in absurd no)
        by (Some z) o = at z o (c == z) refl

    set-says : (c : ℕ) (e : CExpr) (rest : List Stmt) → (m.zero ≢ Some c → gets g q c ≡ true) → Uses P e → Says P rest → Says P (set_c m.zero c e rest)
    set-says c e rest h u k = by m.zero refl
      where
        plain : m.zero ≢ Some c → Says P (Set (Cell c) e ∷ rest)
        plain ne = says-Set P (Cell c) e rest (allows.cell c (h ne)) u k

        at : (z : ℕ) → m.zero ≡ Some z → (b : Bool) → (c == z) ≡ b → Says P (if b then rest else Set (Cell c) e ∷ rest)
        at z o true f = k
        at z o false f = plain (λ o'. let same : z ≡ c = cc in eqb-false c z f (sym same))

        by : (o : Option ℕ) → m.zero ≡ o → Says P (set_c o c e rest)
        by None o = plain (λ o'. let no : ⊥ = cc in absurd no)
        by (Some z) o = at z o (c == z) refl

    -- the cells of a service are cells here, but for the zero cell
    abbrev Serves : ServiceShape → Type 0
    Serves shape = (c : ℕ) → Contains (service_cells (Some shape)) c → m.zero ≢ Some c → gets g q c ≡ true

    flag-says : (o : Option ℕ) (rest : List Stmt) → ((c : ℕ) → o ≡ Some c → m.zero ≢ Some c → gets g q c ≡ true) → Says P rest → Says P (flag_c m.zero o rest)
    flag-says None rest h k = k
    flag-says (Some c) rest h k = set-says c (Of ServeE) rest (h c refl) (uses-ServeE P (gets g q) temps allows few) k

    service-says : (shape : ServiceShape) (rest : List Stmt) → Serves shape → Says P rest → Says P (service_c m.zero shape rest)
    service-says shape rest h k =
        says-Serve P (cell_c m.zero shape.number) (cell_c m.zero shape.arg_x) (cell_c m.zero shape.arg_y) (cell_c m.zero shape.arg_z) (answer_c m.zero shape rest)
        (cell-uses shape.number (h shape.number (0, omega arith, refl))) (cell-uses shape.arg_x (h shape.arg_x (1, omega arith, refl))) (cell-uses shape.arg_y (h shape.arg_y (2, omega arith, refl))) (cell-uses shape.arg_z (h shape.arg_z (3, omega arith, refl)))
        (set-says shape.result (Of ServeR) (flag_c m.zero shape.error rest) (h shape.result (4, omega arith, refl)) (uses-Of P ServeR (allows.everywhere ServeR refl)) (flag-says shape.error rest (λ c e. h c (flag-in c e)) k))
      where
        flag-in : (c : ℕ) → shape.error ≡ Some c → Contains (service_cells (Some shape)) c
        flag-in c e = subst (λ o. Contains (shape.number ∷ shape.arg_x ∷ shape.arg_y ∷ shape.arg_z ∷ shape.result ∷ cell_if_any o) c) (sym e) (5, omega arith, refl)

    due-says : (can : Bool) (o : Option ServiceShape) (rest : List Stmt) → ((shape : ServiceShape) → can ≡ true → o ≡ Some shape → Serves shape) → Says P rest → Says P (service_due_c m.zero can o rest)
    due-says true (Some shape) rest h k =
        says-If P (Of (Temp 3)) (service_c m.zero shape []) rest (uses-Temp P (gets g q) temps allows few 3 (omega arith)) (service-says shape [] (h shape refl refl) (says-none P)) k
    due-says true None rest h k = k
    due-says false o rest h k = k

    -- ---- blocks

    module _ (b : Point) (inside : Body program q b) where
      serves : (inst : GroundInst) (kind : JumpKind) → block_at g.plan.flow.setting b.pc ≡ Inst inst kind → (shape : ServiceShape) → does is_service inst.transfers ≡ true → g.plan.flow.setting.conv.service ≡ Some shape → Serves shape
      serves inst kind at shape can is c i ne =
          g.planned.closed.named q b c inside
          (subst (λ k. Contains (block_names m g.plan.flow.setting.conv k) c) (sym at) (service-named m g.plan.flow.setting.conv inst.transfers can c (subst (λ o. Contains (service_cells o) c) (sym is) i))) ne

      lowered-says : (inst : GroundInst) (kind : JumpKind) → block_at g.plan.flow.setting b.pc ≡ Inst inst kind → Says P (lowered m b.pc inst.transfers [])
      lowered-says inst kind at =
          let sound = g.planned.sound.machine.machine in
          let small = g.planned.small q b procedure inside in
          let transfers : AreSoundTransfers m inst.transfers = standing-sound g.plan.flow.setting b.pc inst sound small (stands g.plan.flow.setting b.pc inst kind at) in
          let low : IsLowered m b.pc inst.transfers (gets g q) temps =
          is_lowered m (record { widths = sound.widths; windows = sound.windows }) b.pc small inst.transfers transfers (gets g q) (is-naming g q b inst kind inside at) temps (room b inst kind inside at) in
          tidy-says P (gets g q) temps allows 2 _ _ (lowered m b.pc inst.transfers []) low.tidy

      own : (c : ℕ) → In c (g.plan.mods q) → gets g q c ≡ true
      own c i = g.planned.closed.mods_in q c i

      control : (inst : GroundInst) (kind : JumpKind) → block_at g.plan.flow.setting b.pc ≡ Inst inst kind → halts inst.transfers ≡ false → CodeSays P (control_code g.plan q b inst kind)
      control inst kind at going =
          control-says P (gets g q) temps allows few g.plan q own b.pc inst.next (jump_mode inst.transfers) (annul_mode inst.transfers) b.slot kind (may-slot g P q procedure call leaves b inside)
          (λ fresh can. may-step g P q procedure call leaves b inside (pending b.pc kind) (arrives-at g b inst kind fresh at going can))

      behind : (inst : GroundInst) (kind : JumpKind) → block_at g.plan.flow.setting b.pc ≡ Inst inst kind → CodeSays P (code_behind g.plan q b inst kind)
      behind inst kind at = by (halts inst.transfers) refl
        where
          by : (h : Bool) → halts inst.transfers ≡ h
              → CodeSays P (if h then ends never else let c = control_code g.plan q b inst kind in code (served_c m g.plan.flow.setting.conv inst.transfers c.stmts) c.end)
          by true e = record { stmts = says-none P; end = uses-Num P 0 }
          by false e =
              let c = control inst kind at e in
              record {
                stmts = due-says (does is_service inst.transfers) g.plan.flow.setting.conv.service (control_code g.plan q b inst kind).stmts (λ shape can is. serves inst kind at shape can is) c.stmts;
                end = c.end;
              }

      pub block-says : CodeSays P (code_at g.plan q b)
      block-says = by (block_at g.plan.flow.setting b.pc) refl
        where
          by : (k : Block) → block_at g.plan.flow.setting b.pc ≡ k → CodeSays P (code_of_block g.plan q b k)
          by Block.Outside at = record { stmts = says-none P; end = uses-Num P b.pc }
          by Block.Illegal at = record { stmts = says-none P; end = uses-Num P b.pc }
          by (Inst inst kind) at =
              let c = behind inst kind at in
              record { stmts = says-append P (lowered m b.pc inst.transfers []) (code_behind g.plan q b inst kind).stmts (lowered-says inst kind at) c.stmts; end = c.end }

      pub further-says : (slot : Slot) → Contains (nexts program b) (arrival_next slot) → CodeSays P (arrival_code g.plan q slot)
      further-says slot c = arrival-says P (gets g q) temps allows few g.plan q own slot (may-step g P q procedure call leaves b inside slot c)
