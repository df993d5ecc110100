-- What the arrivals at a point of a body may enter, and where they lead.
use Rattle.std.proofs.Common.{◌≡◌, ℕ, suc, Bool, true, false, ◌&&◌, List, length, Option, Some, None, refl, sym, subst}
use Rattle.std.specs.Prelude.{IsTrue, if◌then◌else◌, not}
use Rattle.std.specs.List.{Contains}
use Rattle.rtl_core.specs.declared.inst.GroundInst.{GroundInst}
use Rattle.rtl_core.specs.declared.point.Point.{Point}
use Rattle.rtl_core.specs.declared.point.Slot.{Slot}
use Rattle.rtl_core.specs.declared.point.Slot.TheVariants.{Seq, To, Dyn, CallTo, CallDyn, Ret}
use Rattle.points.specs.declared.block.Block.{Block}
use Rattle.points.specs.declared.block.Block.TheVariants.{Inst}
use Rattle.points.specs.declared.block.JumpKind.{JumpKind}
use Rattle.points.specs.declared.block.Mode.{Mode}
use Rattle.points.specs.declared.block.Mode.TheVariants.{Never, Maybe, Always}
use Rattle.points.specs.declared.block.Next.{Next}
use Rattle.points.specs.Kinds.{block_at}
use Rattle.points.specs.Courses.{pending, possible, halts, jump_mode, annul_mode, arrival_next, course_next, course_by, course_from_seq}
use Rattle.points.specs.Bodies.{Code, code_of, nexts, arrivals, Enters, Body, Procedure, called}
use Rattle.points.specs.Summaries.{given, any, EntersAny, calls, jumps}
use Rattle.c_lang.specs.declared.tree.CBlock.{CBlock}
use Rattle.c_lang.specs.Items.{Mention, Calling}
use Rattle.c_control.specs.Blocks.{can_arrive, annul_for, leaves_apart, labelled, arrival_code, further_c, further_at, further_of_block, is_selected, always_arrives}
use Rattle.c_control.specs.Choice.{Tree, Leaf, Node}
use Rattle.c_control.specs.Plans.{Plan, further_label}
use Rattle.c_control.proofs.Coming.{course-next-in, head-member, tail-member}
use Rattle.c_control.proofs.Frames.{Emission, CanEnter, can-enter}
use Rattle.c_control.proofs.Naming.{gets}
use Rattle.c_static.proofs.PieceSays.{AllLeaves, MayCall, MayCallAny, MayArrive}

pub each-leaf : (Q R : ℕ → Type 0) → ((t : ℕ) → Q t → R t) → (tree : Tree) → AllLeaves Q tree → AllLeaves R tree
each-leaf Q R f (Leaf entry) h = f entry h
each-leaf Q R f (Node middle low high) h = (each-leaf Q R f low h.0, each-leaf Q R f high h.1)

no-way : {A : Type 0} → false ≡ true → A
no-way e = let no : ⊥ = cc in absurd no

some-way : (a : Mode) → (y : Bool) × (possible a y ≡ true)
some-way Never = (false, refl)
some-way Maybe = (false, refl)
some-way Always = (true, refl)

both-can : (j a : Mode) → can_arrive j a ≡ true → (possible j true ≡ true) × (possible a true ≡ true)
both-can Never a e = no-way e
both-can Maybe Never e = no-way e
both-can Maybe Maybe e = (refl, refl)
both-can Maybe Always e = (refl, refl)
both-can Always Never e = no-way e
both-can Always Maybe e = (refl, refl)
both-can Always Always e = (refl, refl)

-- with nothing to come, a jump that can arrive at once does so in some way
arrives-by : (ns : List Next) (delay : Option ℕ) (next : ℕ) (slot : Slot) (j a : Mode) → ((x y : Bool) → possible j x ≡ true → possible a y ≡ true → Contains ns (course_next (course_from_seq delay next slot x y)))
    → can_arrive j (annul_for delay a) ≡ true → Contains ns (arrival_next slot)
arrives-by ns None next slot j a come e = let w = some-way a in come true w.0 (both-can j Always e).0 w.1
arrives-by ns (Some d) next slot j a come e = let b = both-can j a e in come true true b.0 b.1

can-first : (c s : Bool) → (c && s) ≡ true → c ≡ true
can-first true s e = refl
can-first false s e = no-way e

-- what leaves its function under a guard can arrive
apart-can : (plan : Plan) (j a : Mode) (slot : Slot) → leaves_apart plan j a slot ≡ true → can_arrive j a ≡ true
apart-can plan j a Seq e = no-way e
apart-can plan j a (To t) e = no-way e
apart-can plan j a (Dyn t) e = can-first (can_arrive j a) (not (always_arrives j a) && not (is_selected plan (Dyn t))) e
apart-can plan j a (CallTo t r) e = can-first (can_arrive j a) (not (always_arrives j a) && not (is_selected plan (CallTo t r))) e
apart-can plan j a (CallDyn r) e = can-first (can_arrive j a) (not (always_arrives j a) && not (is_selected plan (CallDyn r))) e
apart-can plan j a Ret e = can-first (can_arrive j a) (not (always_arrives j a) && not (is_selected plan Ret)) e

module _ (g : Emission) where
  abbrev code : Code
  code = code_of g.plan.flow.setting g.plan.flow.table

  -- the arrival at a point that has nothing to come
  pub arrives-at : (b : Point) (inst : GroundInst) (kind : JumpKind) → b.slot ≡ Seq → block_at g.plan.flow.setting b.pc ≡ Inst inst kind → halts inst.transfers ≡ false
      → can_arrive (jump_mode inst.transfers) (annul_for g.plan.flow.setting.machine.delay (annul_mode inst.transfers)) ≡ true → Contains (nexts code b) (arrival_next (pending b.pc kind))
  arrives-at b inst kind fresh stands going e =
      arrives-by (nexts code b) g.plan.flow.setting.machine.delay inst.next (pending b.pc kind) (jump_mode inst.transfers) (annul_mode inst.transfers)
      (λ x y ej ea. subst (λ s. Contains (nexts code b) (course_next (course_by g.plan.flow.setting.machine b.pc s inst.next kind x y))) fresh (course-next-in g b inst kind x y stands going ej ea)) e

  -- what a further block does: an arrival at a point that has nothing to come
  pub record IsFurtherAt (q : ℕ) (b : Point) (more : CBlock) : Type 0 where
    pub slot : Slot
    pub is : more ≡ labelled (further_label b.pc) (arrival_code g.plan q slot)
    pub arrives : Contains (nexts code b) (arrival_next slot)

  pub further-is-at : (q : ℕ) (b : Point) (more : CBlock) → further_c g.plan q b ≡ Some more → IsFurtherAt q b more
  further-is-at q b more e = by b.slot refl e
    where
      chosen : (inst : GroundInst) (kind : JumpKind) → b.slot ≡ Seq → block_at g.plan.flow.setting b.pc ≡ Inst inst kind → (h l : Bool) → halts inst.transfers ≡ h
          → leaves_apart g.plan (jump_mode inst.transfers) (annul_for g.plan.flow.setting.machine.delay (annul_mode inst.transfers)) (pending b.pc kind) ≡ l
          → (if not h && l then Some (labelled (further_label b.pc) (arrival_code g.plan q (pending b.pc kind))) else None) ≡ Some more → IsFurtherAt q b more
      chosen inst kind fresh stands true l eh el f = let no : ⊥ = cc in absurd no
      chosen inst kind fresh stands false false eh el f = let no : ⊥ = cc in absurd no
      chosen inst kind fresh stands false true eh el f =
          let can = apart-can g.plan (jump_mode inst.transfers) (annul_for g.plan.flow.setting.machine.delay (annul_mode inst.transfers)) (pending b.pc kind) el in
          let same : labelled (further_label b.pc) (arrival_code g.plan q (pending b.pc kind)) ≡ more = cc in
          record { slot = pending b.pc kind; is = sym same; arrives = arrives-at b inst kind fresh stands eh can }

      made : b.slot ≡ Seq → (k : Block) → block_at g.plan.flow.setting b.pc ≡ k → further_of_block g.plan q b.pc k ≡ Some more → IsFurtherAt q b more
      made fresh Block.Outside stands f = let no : ⊥ = cc in absurd no
      made fresh Block.Illegal stands f = let no : ⊥ = cc in absurd no
      made fresh (Inst inst kind) stands f =
          chosen inst kind fresh stands (halts inst.transfers) (leaves_apart g.plan (jump_mode inst.transfers) (annul_for g.plan.flow.setting.machine.delay (annul_mode inst.transfers)) (pending b.pc kind)) refl refl f

      by : (s : Slot) → b.slot ≡ s → further_at g.plan q b.pc s ≡ Some more → IsFurtherAt q b more
      by Seq fresh f = made fresh (block_at g.plan.flow.setting b.pc) refl f
      by (To t) fresh f = let no : ⊥ = cc in absurd no
      by (Dyn t) fresh f = let no : ⊥ = cc in absurd no
      by (CallTo t r) fresh f = let no : ⊥ = cc in absurd no
      by (CallDyn r) fresh f = let no : ⊥ = cc in absurd no
      by Ret fresh f = let no : ⊥ = cc in absurd no

  module _ (P : Mention → Type 0) (q : ℕ) (procedure : Procedure code g.roots q) (call : (t : ℕ) → CanEnter g q t → P (Calling t (suc (length (g.plan.refs t))))) (leaves : AllLeaves (λ t. IsTrue (g.plan.flow.is_procedure t)) g.plan.tree) where
    may-call : (t : ℕ) → CanEnter g q t → MayCall P g.plan (gets g q) t
    may-call t e = record { call = call t e; refs = e.refs_in; mods = λ c i. g.planned.closed.mods_in q c (e.mods_in c i) }

    module _ (b : Point) (inside : Body code q b) where
      may-any : EntersAny code b → MayCallAny P g.plan (gets g q)
      may-any e =
          each-leaf (λ t. IsTrue (g.plan.flow.is_procedure t)) (MayCall P g.plan (gets g q)) (λ t is. let at = g.planned.procedures t is in may-call t (can-enter g q t at (any inside e at))) g.plan.tree leaves

      -- what an arrival that is to come there, or that a step there can make, may enter
      pub may-arrive : (slot : Slot) → Contains (arrivals code b) (arrival_next slot) → MayArrive P g.plan (gets g q) slot
      may-arrive Seq c = tt
      may-arrive (To t) c = tt
      may-arrive (Dyn a) c = λ empty. may-any (jumps c empty)
      may-arrive (CallTo t back) c = let e : Enters code b t = record { back = back; calls = c } in may-call t (can-enter g q t (called procedure inside e) (given inside e))
      may-arrive (CallDyn back) c = may-any (calls c)
      may-arrive Ret c = tt

      pub may-step : (slot : Slot) → Contains (nexts code b) (arrival_next slot) → MayArrive P g.plan (gets g q) slot
      may-step slot c = may-arrive slot (tail-member (arrival_next b.slot) (arrival_next slot) (nexts code b) c)

      pub may-slot : MayArrive P g.plan (gets g q) b.slot
      may-slot = may-arrive b.slot (head-member (arrival_next b.slot) (nexts code b))
