-- A point has a further block exactly where its arrival leaves the procedure under a guard.
use Rattle.std.proofs.Common.{◌≡◌, ℕ, Bool, true, false, ◌&&◌, List, [], ◌∷◌, Some, None, refl, sym, ap, ◌∙◌, subst}
use Rattle.std.specs.Prelude.{not, if◌then◌else◌}
use Rattle.rtl_core.specs.declared.inst.GroundInst.{GroundInst}
use Rattle.rtl_core.specs.declared.point.Point.{Point}
use Rattle.rtl_core.specs.declared.point.Slot.{Slot}
use Rattle.rtl_core.specs.declared.point.Slot.TheVariants.{Seq, To, Dyn, CallTo, CallDyn, Ret}
use Rattle.points.specs.declared.block.Block.{Block}
use Rattle.points.specs.declared.block.Block.TheVariants.{Inst}
use Rattle.points.specs.declared.block.JumpKind.{JumpKind}
use Rattle.points.specs.declared.block.Mode.{Mode}
use Rattle.points.specs.Courses.{pending, halts, jump_mode, annul_mode}
use Rattle.points.specs.Kinds.{block_at}
use Rattle.c_lang.specs.declared.tree.CBlock.{CBlock}
use Rattle.c_control.specs.Blocks.{can_arrive, always_arrives, annul_for, is_filled, is_selected, leaves_apart, labelled, arrival_code, further_c, further_at, further_of_block}
use Rattle.c_control.specs.Plans.{Plan, further_label}
use Rattle.c_control.proofs.Controlling.{and-true}
use Rattle.c_shape.specs.Functions.{Leaves, LeavesUnderGuard, further_block}

no-way : {A : Type 0} → false ≡ true → A
no-way e = let no : ⊥ = cc in absurd no

-- how an arrival is apart
record IsApart (plan : Plan) (j a : Mode) (slot : Slot) : Type 0 where
  leaves : Leaves plan slot
  can : can_arrive j a ≡ true
  guarded : always_arrives j a ≡ false

empty-is : (ts : List ℕ) → is_filled ts ≡ false → ts ≡ []
empty-is [] e = refl
empty-is (t ∷ ts) e = no-way (sym e)

module _ (plan : Plan) (j a : Mode) where
  apart-by : (slot : Slot) (c w s : Bool) → can_arrive j a ≡ c → always_arrives j a ≡ w → is_selected plan slot ≡ s → (is_selected plan slot ≡ false → Leaves plan slot) → (c && (not w && not s)) ≡ true → IsApart plan j a slot
  apart-by slot true false false ec ew es leaves e = record { leaves = leaves es; can = ec; guarded = ew }
  apart-by slot true false true ec ew es leaves e = no-way e
  apart-by slot true true s ec ew es leaves e = no-way e
  apart-by slot false w s ec ew es leaves e = no-way e

  is-apart : (slot : Slot) → leaves_apart plan j a slot ≡ true → IsApart plan j a slot
  is-apart Seq e = no-way e
  is-apart (To t) e = no-way e
  is-apart (Dyn t) e = apart-by (Dyn t) (can_arrive j a) (always_arrives j a) (is_selected plan (Dyn t)) refl refl refl (λ f. Leaves.jumps (empty-is (plan.flow.table t) f)) e
  is-apart (CallTo t r) e = apart-by (CallTo t r) (can_arrive j a) (always_arrives j a) true refl refl refl (λ f. no-way (sym f)) e
  is-apart (CallDyn r) e = apart-by (CallDyn r) (can_arrive j a) (always_arrives j a) true refl refl refl (λ f. no-way (sym f)) e
  is-apart Ret e = apart-by Ret (can_arrive j a) (always_arrives j a) false refl refl refl (λ f. Leaves.returns) e

  goes-apart : (slot : Slot) → Leaves plan slot → can_arrive j a ≡ true → always_arrives j a ≡ false → leaves_apart plan j a slot ≡ true
  goes-apart slot (Leaves.returns) c w = and-true (can_arrive j a) (not (always_arrives j a) && true) c (and-true (not (always_arrives j a)) true (ap not w) refl)
  goes-apart slot (Leaves.jumps {a = t} e) c w =
      and-true (can_arrive j a) (not (always_arrives j a) && not (is_filled (plan.flow.table t))) c
      (and-true (not (always_arrives j a)) (not (is_filled (plan.flow.table t))) (ap not w) (ap (λ ts. not (is_filled ts)) e))

module _ (plan : Plan) (p : ℕ) (b : Point) where
  -- where it is made
  pub further-made : (slot : Slot) → LeavesUnderGuard plan b slot → further_c plan p b ≡ Some (further_block plan p b slot)
  further-made slot g =
      let j = jump_mode g.inst.transfers in
      let a = annul_for plan.flow.setting.machine.delay (annul_mode g.inst.transfers) in
      let more = labelled (further_label b.pc) (arrival_code plan p (pending b.pc g.kind)) in
      let asked = goes-apart plan j a (pending b.pc g.kind) (subst (Leaves plan) (sym g.jump) g.leaves) g.can g.guarded in
      ap (further_at plan p b.pc) g.fresh ∙ ap (further_of_block plan p b.pc) g.stands
      ∙ ap (λ (x : Bool). if x then Some more else None) (and-true (not (halts g.inst.transfers)) (leaves_apart plan j a (pending b.pc g.kind)) (ap not g.going) asked)
      ∙ ap (λ s. Some (further_block plan p b s)) g.jump

  -- what it is
  pub record IsGuarded (more : CBlock) : Type 0 where
    pub slot : Slot
    pub guard : LeavesUnderGuard plan b slot
    pub is : further_block plan p b slot ≡ more

  pub is-guarded : (more : CBlock) → further_c plan p b ≡ Some more → IsGuarded more
  is-guarded more e = by b.slot refl e
    where
      chosen : (inst : GroundInst) (kind : JumpKind) → b.slot ≡ Seq → block_at plan.flow.setting b.pc ≡ Inst inst kind → (h l : Bool) → halts inst.transfers ≡ h
          → leaves_apart plan (jump_mode inst.transfers) (annul_for plan.flow.setting.machine.delay (annul_mode inst.transfers)) (pending b.pc kind) ≡ l
          → (if not h && l then Some (labelled (further_label b.pc) (arrival_code plan p (pending b.pc kind))) else None) ≡ Some more → IsGuarded more
      chosen inst kind fresh stands true l eh el f = let no : ⊥ = cc in absurd no
      chosen inst kind fresh stands false false eh el f = let no : ⊥ = cc in absurd no
      chosen inst kind fresh stands false true eh el f =
          let a = is-apart plan (jump_mode inst.transfers) (annul_for plan.flow.setting.machine.delay (annul_mode inst.transfers)) (pending b.pc kind) el in
          let same : labelled (further_label b.pc) (arrival_code plan p (pending b.pc kind)) ≡ more = cc in
          record { slot = pending b.pc kind; guard = record { fresh = fresh; inst = inst; kind = kind; stands = stands; going = eh; jump = refl; leaves = a.leaves; can = a.can; guarded = a.guarded }; is = same }

      made : b.slot ≡ Seq → (k : Block) → block_at plan.flow.setting b.pc ≡ k → further_of_block plan p b.pc k ≡ Some more → IsGuarded more
      made fresh Block.Outside stands f = let no : ⊥ = cc in absurd no
      made fresh Block.Illegal stands f = let no : ⊥ = cc in absurd no
      made fresh (Inst inst kind) stands f =
          chosen inst kind fresh stands (halts inst.transfers) (leaves_apart plan (jump_mode inst.transfers) (annul_for plan.flow.setting.machine.delay (annul_mode inst.transfers)) (pending b.pc kind)) refl refl f

      by : (s : Slot) → b.slot ≡ s → further_at plan p b.pc s ≡ Some more → IsGuarded more
      by Seq fresh f = made fresh (block_at plan.flow.setting b.pc) refl f
      by (To t) fresh f = let no : ⊥ = cc in absurd no
      by (Dyn t) fresh f = let no : ⊥ = cc in absurd no
      by (CallTo t r) fresh f = let no : ⊥ = cc in absurd no
      by (CallDyn r) fresh f = let no : ⊥ = cc in absurd no
      by Ret fresh f = let no : ⊥ = cc in absurd no
