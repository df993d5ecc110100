-- The run of a program of the worked machine, by a step that computes: it looks instructions up in the program's list.
use Rattle.std.proofs.Common.{◌≡◌, ℕ, zero, suc, ◌+◌, ◌^◌, ◌%◌, ◌==◌, ◌||◌, ◌&&◌, Bool, true, false, List, [], ◌∷◌, Option, Some, None, Ok, Err, refl, ap, ◌∙◌}
use Rattle.std.specs.Prelude.{if◌then◌else◌, is_some, slice_index}
use Rattle.std.proofs.lemmas.Bool.{eqb-true}
use Rattle.lockstep.specs.Runs.{Goes, Ends, after, machine_view}
use Rattle.rtl_core.specs.declared.expr.Bin.TheVariants.{Add, Mul}
use Rattle.rtl_core.specs.declared.expr.Un.TheVariants.{Not}
use Rattle.rtl_core.specs.declared.expr.Expr.{Expr}
use Rattle.rtl_core.specs.declared.expr.Expr.TheVariants as E
use Rattle.rtl_core.specs.declared.inst.GroundInst.{GroundInst}
use Rattle.rtl_core.specs.declared.machine.Machine.{Machine}
use Rattle.rtl_core.specs.declared.point.Slot.{Slot}
use Rattle.rtl_core.specs.declared.point.Slot.TheVariants as S
use Rattle.rtl_core.specs.declared.stop.Stop.{Stop}
use Rattle.rtl_core.specs.declared.transfer.Act.{Act}
use Rattle.rtl_core.specs.declared.transfer.Act.TheVariants as A
use Rattle.rtl_core.specs.declared.transfer.Transfer.{Transfer}
use Rattle.rtl_core.specs.Arithmetic.{unary}
use Rattle.rtl_core.specs.Contents.{Contents}
use Rattle.rtl_core.specs.Terms.{Term, Const, Cell, Binary, Slice, Zext}
use Rattle.rtl_core.specs.Transfers.{Doing, Ran, Went, Halted, with_result, then_on, put_cell, all_transferred, fresh}
use Rattle.rtl_core.specs.Value.{value_of, choice}
use Rattle.rtl_core.proofs.TermLaws.{term-Const, term-Cell, term-Un, term-Zext, term_laws}
use Rattle.points.specs.declared.block.Block.{Block}
use Rattle.points.specs.declared.block.Course.{Course}
use Rattle.points.specs.declared.block.Course.TheVariants.{On, Arrives, Couples}
use Rattle.points.specs.declared.block.JumpKind.{JumpKind}
use Rattle.points.specs.declared.block.Member.{Member}
use Rattle.points.specs.declared.block.Member.TheVariants.{Call, Tail}
use Rattle.points.specs.declared.block.Standing.{Standing}
use Rattle.points.specs.declared.block.Standing.TheVariants.{Stands}
use Rattle.points.specs.declared.jumps.Manner.{Manner}
use Rattle.points.specs.declared.jumps.Manner.TheVariants.{Plain, Calling}
use Rattle.points.specs.Machine.{standing}
use Rattle.points.specs.Kinds.{block_of, block_at, kind_of, kind_by, past_slot, standing_replaces_return, behind_pad, second}
use Rattle.points.specs.Courses.{point, course}
use Rattle.points.specs.Control.{Control, Flow, Move, arrived, followed, returned, is_second, kept}
use Rattle.points.specs.Running.{State, MNext, stops, moved, stepped, step, after_transfers, concluded, finished, performed, service_due, first_state, machine_run}
use Rattle.worked_control.specs.WorkedMachine.{Op, note, stop, aim, link, flag, jump, jump_annul, branch, branch_annul, go, call, call_aim, ret, ret_past, pad, constructor_of, slot_bytes, machine, conv, entry, Program, setting_of}

-- ---- instructions with all put in

abbrev constant : ℕ → Expr
constant n = E.Zext 32 (E.Const 16 n)

abbrev noted : ℕ → Expr
noted n = E.Bin Add (E.Bin Mul (E.Cell 0) (E.Const 32 16)) (constant n)

abbrev behind_link : ℕ → Expr
behind_link n = E.Bin Add (E.Cell 1) (E.Const 32 n)

abbrev always : Act → Transfer
always act = record { guard = None; act = act }

abbrev where_set : Act → Transfer
where_set act = record { guard = Some (E.Cell 3); act = act }

abbrev where_clear : Act → Transfer
where_clear act = record { guard = Some (E.Un Not (E.Cell 3)); act = act }

-- what an instruction at an address does
abbrev pub transfers_of : Option ℕ → ℕ → Op → List Transfer
transfers_of delay pc (note n) = always (A.SetCell 0 (noted n)) ∷ []
transfers_of delay pc stop = always (A.Trap (E.Cell 0)) ∷ []
transfers_of delay pc (aim n) = always (A.SetCell 2 (constant n)) ∷ []
transfers_of delay pc (link n) = always (A.SetCell 1 (constant n)) ∷ []
transfers_of delay pc (flag n) = always (A.SetCell 3 (E.Slice (E.Const 16 n) 0 0)) ∷ []
transfers_of delay pc (jump n) = always (A.Jump (constant n)) ∷ []
transfers_of delay pc (jump_annul n) = always (A.Jump (constant n)) ∷ always A.Annul ∷ []
transfers_of delay pc (branch n) = where_set (A.Jump (constant n)) ∷ []
transfers_of delay pc (branch_annul n) = where_set (A.Jump (constant n)) ∷ where_clear A.Annul ∷ []
transfers_of delay pc go = always (A.Jump (E.Cell 2)) ∷ []
transfers_of delay pc (call n) = always (A.SetCell 1 (E.Const 32 pc)) ∷ always (A.Jump (constant n)) ∷ []
transfers_of delay pc call_aim = always (A.SetCell 1 (E.Const 32 pc)) ∷ always (A.Jump (E.Cell 2)) ∷ []
transfers_of delay pc ret = always (A.Jump (behind_link (4 + slot_bytes delay))) ∷ []
transfers_of delay pc ret_past = always (A.Jump (behind_link (8 + slot_bytes delay))) ∷ []
transfers_of delay pc pad = always (A.Trap (E.Const 32 0xDEAD)) ∷ []

abbrev pub next_of : ℕ → ℕ
next_of pc = (pc + 4) % 2 ^ 32

abbrev pub inst_of : Option ℕ → ℕ → Op → GroundInst
inst_of delay pc op = record { constructor = constructor_of op; next = next_of pc; transfers = transfers_of delay pc op }

-- ---- what they do, without trees

abbrev value : Machine → ℕ → Doing → Term → (ℕ → Ran) → Ran
value m pc d t onward = with_result pc d (value_of m d.cells d.memory t) onward

abbrev sets : Machine → ℕ → ℕ → Term → Doing → Ran
sets m pc c t d = value m pc d t (λ v. Went (record d { cells = put_cell m.zero c v d.cells }))

abbrev jumps : Machine → ℕ → Term → Doing → Ran
jumps m pc t d = value m pc d t (λ v. Went (record d { jump = Some v }))

abbrev traps : Machine → ℕ → Term → Doing → Ran
traps m pc t d = value m pc d t (λ v. Halted (Stop.Trap v) d)

abbrev number : ℕ → Term
number n = Zext 32 (Const 16 n)

abbrev digit : ℕ → Term
digit n = Binary Add (Binary Mul (Cell 0) (Const 32 16)) (number n)

abbrev past_link : ℕ → Term
past_link n = Binary Add (Cell 1) (Const 32 n)

abbrev is_clear : List ℕ → ℕ
is_clear cells = unary Not 1 (slice_index cells 3)

abbrev annuls_if : ℕ → Doing → Ran
annuls_if n d = choice n (Went (record d { annul = true })) (Went d)

abbrev pub ran_of : Machine → ℕ → Op → Doing → Ran
ran_of m pc (note n) d = then_on (sets m pc 0 (digit n) d) Went
ran_of m pc stop d = then_on (traps m pc (Cell 0) d) Went
ran_of m pc (aim n) d = then_on (sets m pc 2 (number n) d) Went
ran_of m pc (link n) d = then_on (sets m pc 1 (number n) d) Went
ran_of m pc (flag n) d = then_on (sets m pc 3 (Slice (Const 16 n) 0 0) d) Went
ran_of m pc (jump n) d = then_on (jumps m pc (number n) d) Went
ran_of m pc (jump_annul n) d = Went (record d { jump = Some n; annul = true })
ran_of m pc (branch n) d = choice (slice_index d.cells 3) (Went (record d { jump = Some n })) (Went d)
ran_of m pc (branch_annul n) d = choice (slice_index d.cells 3) (annuls_if (is_clear d.cells) (record d { jump = Some n })) (annuls_if (is_clear d.cells) d)
ran_of m pc go d = then_on (jumps m pc (Cell 2) d) Went
ran_of m pc (call n) d = Went (record d { cells = put_cell m.zero 1 pc d.cells; jump = Some n })
ran_of m pc call_aim d = then_on (jumps m pc (Cell 2) (record d { cells = put_cell m.zero 1 pc d.cells })) Went
ran_of m pc ret d = then_on (jumps m pc (past_link (4 + slot_bytes m.delay)) d) Went
ran_of m pc ret_past d = then_on (jumps m pc (past_link (8 + slot_bytes m.delay)) d) Went
ran_of m pc pad d = then_on (traps m pc (Const 32 0xDEAD) d) Went

-- instructions stand one behind another, the first at an address
abbrev pub Placed : Program → ℕ → List Op → Type 0
Placed p a [] = Unit {0}
Placed p a (op ∷ ops) = (standing (setting_of p) a ≡ Stands (inst_of p.delay a op)) × Placed p (a + 4) ops

module _ (p : Program) (is_procedure : ℕ → Bool) (table : ℕ → List ℕ) where
  abbrev m : Machine
  m = machine p.delay

  abbrev f : Flow
  f = record { setting = setting_of p; is_procedure = is_procedure; table = table }

  annuls-is : (pc n : ℕ) (d : Doing) → then_on (choice n (Went (record d { annul = true })) (Went d)) (all_transferred m pc []) ≡ annuls_if n d
  annuls-is pc zero d = refl
  annuls-is pc (suc n) d = refl

  clear-is : (pc : ℕ) (d : Doing) → all_transferred m pc (where_clear A.Annul ∷ []) d ≡ annuls_if (is_clear d.cells) d
  clear-is pc d = rw (term-Un Not (E.Cell 3), term-Cell 3) (annuls-is pc (is_clear d.cells) d)

  branch-is : (pc t n : ℕ) (d : Doing) → then_on (choice n (Went (record d { jump = Some t })) (Went d)) (all_transferred m pc []) ≡ choice n (Went (record d { jump = Some t })) (Went d)
  branch-is pc t zero d = refl
  branch-is pc t (suc n) d = refl

  branch-annul-is : (pc t n : ℕ) (d : Doing) → then_on (choice n (Went (record d { jump = Some t })) (Went d)) (all_transferred m pc (where_clear A.Annul ∷ []))
      ≡ choice n (annuls_if (is_clear d.cells) (record d { jump = Some t })) (annuls_if (is_clear d.cells) d)
  branch-annul-is pc t zero d = clear-is pc d
  branch-annul-is pc t (suc n) d = clear-is pc (record d { jump = Some t })

  ran-is : (pc : ℕ) (op : Op) (d : Doing) → all_transferred m pc (transfers_of p.delay pc op) d ≡ ran_of m pc op d
  ran-is pc (note n) d = simp term_laws
  ran-is pc stop d = simp term_laws
  ran-is pc (aim n) d = simp term_laws
  ran-is pc (link n) d = simp term_laws
  ran-is pc (flag n) d = simp term_laws
  ran-is pc (jump n) d = simp term_laws
  ran-is pc (jump_annul n) d = simp term_laws
  ran-is pc (branch n) d = rw (term-Cell 3, term-Zext 32 (E.Const 16 n), term-Const 16 n) (branch-is pc n (slice_index d.cells 3) d)
  ran-is pc (branch_annul n) d = rw (term-Cell 3, term-Zext 32 (E.Const 16 n), term-Const 16 n) (branch-annul-is pc n (slice_index d.cells 3) d)
  ran-is pc go d = simp term_laws
  ran-is pc (call n) d = simp term_laws
  ran-is pc call_aim d = simp term_laws
  ran-is pc ret d = simp term_laws
  ran-is pc ret_past d = simp term_laws
  ran-is pc pad d = simp term_laws

  -- ---- what stands at an address, looked up

  abbrev found : ℕ → List Op → ℕ → Option Op
  found a [] pc = None
  found a (op ∷ ops) pc = if pc == a then Some op else found (a + 4) ops pc

  abbrev stood : Option Op → ℕ → Standing
  stood None pc = standing (setting_of p) pc
  stood (Some op) pc = Stands (inst_of p.delay pc op)

  stood-is : (a : ℕ) (ops : List Op) → Placed p a ops → (pc : ℕ) → standing (setting_of p) pc ≡ stood (found a ops pc) pc
  stood-is a [] placed pc = refl
  stood-is a (op ∷ ops) placed pc = by (pc == a) (eqb-true pc a) (stood-is (a + 4) ops placed.1 pc)
    where
      by : (b : Bool) → (b ≡ true → pc ≡ a) → standing (setting_of p) pc ≡ stood (found (a + 4) ops pc) pc
          → standing (setting_of p) pc ≡ stood (if b then Some op else found (a + 4) ops pc) pc
      by true same rest = rw (same refl) placed.0
      by false same rest = rest

  abbrev pub op_at : ℕ → Option Op
  op_at pc = found entry p.ops pc

  abbrev at : ℕ → Standing
  at pc = stood (op_at pc) pc

  -- ---- how it jumps

  abbrev calling : ℕ → Manner
  calling next = if is_some p.delay && standing_replaces_return (Some 1) (at next) then Plain else Calling

  abbrev kind_at : ℕ → Op → JumpKind
  kind_at pc (jump n) = JumpKind.To n
  kind_at pc (jump_annul n) = JumpKind.To n
  kind_at pc (branch n) = JumpKind.To n
  kind_at pc (branch_annul n) = JumpKind.To n
  kind_at pc go = JumpKind.Dyn
  kind_at pc (call n) = kind_by (calling (next_of pc)) (Some n) (past_slot p.delay (next_of pc))
  kind_at pc call_aim = kind_by (calling (next_of pc)) None (past_slot p.delay (next_of pc))
  kind_at pc ret = JumpKind.Ret
  kind_at pc ret_past = JumpKind.Ret
  kind_at pc _ = JumpKind.Never

  abbrev pub block_seen : Option Op → ℕ → Block
  block_seen None pc = block_of (setting_of p) (standing (setting_of p) pc)
  block_seen (Some op) pc = Block.Inst (inst_of p.delay pc op) (kind_at pc op)

  -- ---- control

  abbrev pub second_at : ℕ → Option ℕ
  second_at back = behind_pad conv (at back)

  abbrev returned_at : List Member → Control → Move
  returned_at [] c = Err (Stop.ReturnMismatch c.target)
  returned_at (Tail ∷ calls) c = returned_at calls c
  returned_at (Call back ∷ calls) c =
      if (back == c.target) || is_second (second_at back) c.target then Ok (record c { point = point c.target S.Seq; calls = calls }) else Err (Stop.ReturnMismatch c.target)

  abbrev arrived_at : Slot → Control → Move
  arrived_at S.Ret c = returned_at c.calls c
  arrived_at slot c = arrived f slot c

  abbrev followed_at : Course → Control → Move
  followed_at (Arrives slot) c = arrived_at slot c
  followed_at way c = followed f way c

  abbrev concluded_at : GroundInst → JumpKind → Ran → State → MNext
  concluded_at inst kind (Halted why d) s = stops why s
  concluded_at inst kind (Went d) s =
      moved (followed_at (course m s.control.point inst.next kind (is_some d.jump) d.annul) (kept d.jump s.control)) (after_transfers s d)

  -- one step of an instruction of the list; elsewhere the machine's own
  abbrev step_of : Option Op → State → MNext
  step_of None s = step f s
  step_of (Some op) s =
      let pc = s.control.point.pc in
      concluded_at (inst_of p.delay pc op) (kind_at pc op) (ran_of m pc op (fresh s.cells s.memory s.saved)) s

  abbrev pub step_at : State → MNext
  step_at s = step_of (op_at s.control.point.pc) s

  module _ (placed : Placed p entry p.ops) where
    at-is : (pc : ℕ) → standing (setting_of p) pc ≡ at pc
    at-is pc = stood-is entry p.ops placed pc

    pub second-is : (back : ℕ) → second (setting_of p) back ≡ second_at back
    unfolding second
    second-is back = rw (at-is back)

    returned-is : (calls : List Member) (c : Control) → returned (setting_of p) calls c ≡ returned_at calls c
    returned-is [] c = refl
    returned-is (Tail ∷ calls) c = returned-is calls c
    returned-is (Call back ∷ calls) c = rw (second-is back)

    arrived-is : (slot : Slot) (c : Control) → arrived f slot c ≡ arrived_at slot c
    arrived-is S.Ret c = returned-is c.calls c
    arrived-is S.Seq c = refl
    arrived-is (S.To t) c = refl
    arrived-is (S.Dyn a) c = refl
    arrived-is (S.CallTo t back) c = refl
    arrived-is (S.CallDyn back) c = refl

    followed-is : (way : Course) (c : Control) → followed f way c ≡ followed_at way c
    followed-is (Arrives slot) c = arrived-is slot c
    followed-is (On q) c = refl
    followed-is Couples c = refl

    due-none : (b : Bool) → service_due b None ≡ None
    due-none false = refl
    due-none true = refl

    concluded-is : (inst : GroundInst) (kind : JumpKind) (r : Ran) (s : State) → concluded f inst kind r s ≡ concluded_at inst kind r s
    concluded-is inst kind (Halted why d) s = refl
    concluded-is inst kind (Went d) s =
        ap (λ due. finished f (record { inst = inst; kind = kind; jump = d.jump; annul = d.annul }) due (after_transfers s d)) (due-none d.service)
        ∙ ap (λ x. moved x (after_transfers s d)) (followed-is (course m s.control.point inst.next kind (is_some d.jump) d.annul) (kept d.jump s.control))

    kind-is : (pc : ℕ) (op : Op) → kind_of (setting_of p) (inst_of p.delay pc op) ≡ kind_at pc op
    kind-is pc (note n) = refl
    kind-is pc stop = refl
    kind-is pc (aim n) = refl
    kind-is pc (link n) = refl
    kind-is pc (flag n) = refl
    kind-is pc (jump n) = rw (term-Zext 32 (E.Const 16 n), term-Const 16 n)
    kind-is pc (jump_annul n) = rw (term-Zext 32 (E.Const 16 n), term-Const 16 n)
    kind-is pc (branch n) = rw (term-Zext 32 (E.Const 16 n), term-Const 16 n)
    kind-is pc (branch_annul n) = rw (term-Zext 32 (E.Const 16 n), term-Const 16 n)
    kind-is pc go = rw (term-Cell 2)
    kind-is pc (call n) = rw (term-Zext 32 (E.Const 16 n), term-Const 16 n, at-is (next_of pc))
    kind-is pc call_aim = rw (term-Cell 2, at-is (next_of pc))
    kind-is pc ret = refl
    kind-is pc ret_past = refl
    kind-is pc pad = refl

    -- what stands at an address, with how it jumps
    pub block-is : (pc : ℕ) → block_at (setting_of p) pc ≡ block_seen (op_at pc) pc
    unfolding block_at
    block-is pc = ap (block_of (setting_of p)) (at-is pc) ∙ by (op_at pc)
      where
        by : (o : Option Op) → block_of (setting_of p) (stood o pc) ≡ block_seen o pc
        by None = refl
        by (Some op) = ap (Block.Inst (inst_of p.delay pc op)) (kind-is pc op)

    performed-is : (op : Op) (s : State) → performed f (inst_of p.delay s.control.point.pc op) (kind_of (setting_of p) (inst_of p.delay s.control.point.pc op)) s ≡ step_of (Some op) s
    performed-is op s =
        let pc = s.control.point.pc in
        let inst = inst_of p.delay pc op in
        ap (λ kind. performed f inst kind s) (kind-is pc op)
        ∙ ap (λ r. concluded f inst (kind_at pc op) r s) (ran-is pc op (fresh s.cells s.memory s.saved))
        ∙ concluded-is inst (kind_at pc op) (ran_of m pc op (fresh s.cells s.memory s.saved)) s

    stepped-is : (o : Option Op) (s : State) → stepped f (block_of (setting_of p) (stood o s.control.point.pc)) s ≡ step_of o s
    unfolding block_at
    stepped-is None s = refl
    stepped-is (Some op) s = performed-is op s

    step-is : (s : State) → step f s ≡ step_at s
    unfolding block_at
    step-is s = ap (λ x. stepped f (block_of (setting_of p) x) s) (at-is s.control.point.pc) ∙ stepped-is (op_at s.control.point.pc) s

    after-is : (n : ℕ) (x : MNext) → after (step f) n x ≡ after step_at n x
    after-is zero x = refl
    after-is (suc n) (Ends out why) = refl
    after-is (suc n) (Goes s) = ap (after (step f) n) (step-is s) ∙ after-is n (step_at s)

    -- the run by the step that computes
    pub run-is : (memory : Contents) (input : List ℕ) (n : ℕ)
        → machine_run f memory entry input n ≡ machine_view (λ s. s.output) (after step_at n (Goes (first_state (setting_of p) memory entry input)))
    run-is memory input n = ap (machine_view (λ s. s.output)) (after-is n (Goes (first_state (setting_of p) memory entry input)))
