-- The addresses of points, tables and return addresses of a sound program have few enough bits.
use Rattle.std.proofs.Common.{◌≡◌, ℕ, ◌+◌, ◌-◌, ◌*◌, ◌<◌, ◌≤◌, ◌^◌, ◌%◌, List, Option, Some, None, inl, inr, refl, sym, ap, ◌∙◌, subst, arith}
use Rattle.std.specs.Prelude.{◌⊎◌, IfSome}
use Rattle.std.specs.List.{Contains}
use Rattle.rtl_core.specs.declared.expr.Expr.{Expr}
use Rattle.rtl_core.specs.declared.inst.GroundInst.{GroundInst}
use Rattle.rtl_core.specs.declared.machine.Machine.{Machine}
use Rattle.rtl_core.specs.declared.point.Point.{Point}
use Rattle.rtl_core.specs.declared.point.Slot.{Slot}
use Rattle.rtl_core.specs.declared.point.Slot.TheVariants.{Seq, To, Dyn, CallTo, CallDyn, Ret}
use Rattle.rtl_core.specs.SoundConv.{AreSoundTogether}
use Rattle.points.specs.declared.block.Block.{Block}
use Rattle.points.specs.declared.block.JumpKind.{JumpKind}
use Rattle.points.specs.Bodies.{Code, code_of, LeadsTo, Body}
use Rattle.points.specs.ControlLaws.{JumpsAt}
use Rattle.points.specs.Courses.{point, pending}
use Rattle.points.specs.Kinds.{block_at, further, second}
use Rattle.points.specs.Machine.{Setting}
use Rattle.points.proofs.Behind.{second_is_behind}
use Rattle.points.proofs.CodeControl.{code_is_control}
use Rattle.c_lang.specs.Spellable.{slot_misfits}
use Rattle.c_lang.proofs.SpellingLaws.{fits}
use Rattle.c_control.specs.Plans.{pad_by, pad_at, ra_of}
use Rattle.c_program.proofs.Showing.{near}
use Rattle.c_program.proofs.SmallPoints.{SmallPoint, SmallSlot, SmallKind, body-small, kind-small}
use Rattle.c_forms.proofs.CodeFine.{SlotFits, KindFits}

-- ---- return addresses

module _ (setting : Setting) (table : ℕ → List ℕ) (sound : AreSoundTogether setting.encodings setting.machine setting.conv) (tables : (a t : ℕ) → Contains (table a) t → t < 2 ^ 32) where
  abbrev code : Code
  code = code_of setting table

  pad-small : (back : ℕ) → back < 2 ^ 32 → (o : Option ℕ) → second setting back ≡ o → pad_by back o < 2 ^ 31
  pad-small back lt None e = omega arith
  pad-small back lt (Some s) e = let behind = (second_is_behind setting back s sound.machine.encodings e).0 in near back behind.bytes s lt behind.length.few behind.is

  pub ra-small : (back : ℕ) → back < 2 ^ 32 → ra_of setting back < 2 ^ 64
  ra-small back lt = let p = pad-small back lt (second setting back) refl in omega (arith, lt, p)

  pub second-small : (back s : ℕ) → second setting back ≡ Some s → s < 2 ^ 32
  second-small back s e = (second_is_behind setting back s sound.machine.encodings e).1.1

  -- ---- the slots of points

  pending-fits : (pc : ℕ) (kind : JumpKind) → pc < 2 ^ 32 → SmallKind kind → SmallSlot (pending pc kind) × SlotFits (pending pc kind)
  pending-fits pc JumpKind.Never lt h = (tt, refl)
  pending-fits pc (JumpKind.To t) lt h = (h, fits 32 t h)
  pending-fits pc JumpKind.Dyn lt h = (tt, fits 32 pc lt)
  pending-fits pc (JumpKind.CallTo t back) lt h = (h, omega (arith, fits 32 t h.0, fits 32 back h.1))
  pending-fits pc (JumpKind.CallDyn back) lt h = (h, fits 32 back h)
  pending-fits pc JumpKind.Ret lt h = (tt, refl)

  pub kind-fits : (pc : ℕ) (inst : GroundInst) (kind : JumpKind) → pc < 2 ^ 32 → block_at setting pc ≡ Block.Inst inst kind → KindFits kind
  kind-fits pc inst kind lt e = λ at below. pending-fits at kind below (kind-small setting table sound tables pc inst kind lt e)

  -- the address of a computed jump that is still to come
  jump-small : (entry : ℕ) (p : Point) (a : ℕ) → entry < 2 ^ 32 → Body code entry p → p.slot ≡ Dyn a → a < 2 ^ 32
  jump-small entry p a lt Body.first e = let no : ⊥ = cc in absurd no
  jump-small entry p a lt (Body.next {p = q} b (LeadsTo.goes i)) e =
      let jumps : JumpsAt code q a = (code_is_control setting table).delayed q p a i e in
      subst (λ x. x < 2 ^ 32) (ap (λ (x : Point). x.pc) jumps.0) (body-small setting table sound tables entry q lt b).0
  jump-small entry p a lt (Body.next b (LeadsTo.jumps i j)) e = let no : ⊥ = cc in absurd no
  jump-small entry p a lt (Body.next b (LeadsTo.back c)) e = let no : ⊥ = cc in absurd no
  jump-small entry p a lt (Body.next b (LeadsTo.past c s)) e = let no : ⊥ = cc in absurd no

  slot-fits : (slot : Slot) → SmallSlot slot → ((a : ℕ) → slot ≡ Dyn a → a < 2 ^ 32) → SlotFits slot
  slot-fits Seq h k = refl
  slot-fits (To t) h k = fits 32 t h
  slot-fits (Dyn a) h k = fits 32 a (k a refl)
  slot-fits (CallTo t back) h k = omega (arith, fits 32 t h.0, fits 32 back h.1)
  slot-fits (CallDyn back) h k = fits 32 back h
  slot-fits Ret h k = refl

  pub body-fits : (entry : ℕ) (p : Point) → entry < 2 ^ 32 → Body code entry p → SlotFits p.slot
  body-fits entry p lt b = slot-fits p.slot (body-small setting table sound tables entry p lt b).1 (λ a e. jump-small entry p a lt b e)
