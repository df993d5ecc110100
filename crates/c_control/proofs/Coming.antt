-- Where an instruction leads belongs to the body of its procedure, and its arrival can be made.
use Rattle.std.proofs.Common.{◌≡◌, ℕ, Bool, true, false, ◌&&◌, List, [], ◌∷◌, ◌++◌, get_or, Option, Some, None, inl, inr, refl, sym, ap, ◌∙◌, subst, arith, rules}
use Rattle.std.specs.Prelude.{◌⊎◌, not, if◌then◌else◌, IsTrue}
use Rattle.std.specs.List.{Contains}
use Rattle.std.proofs.lemmas.List.Elements.{Contains-append_left, Contains-append_right, Contains-append_cases, Contains-get_or}
use Rattle.rtl_core.specs.declared.inst.GroundInst.{GroundInst}
use Rattle.rtl_core.specs.declared.machine.Machine.{Machine}
use Rattle.rtl_core.specs.declared.point.Point.{Point}
use Rattle.rtl_core.specs.declared.point.Slot.{Slot}
use Rattle.rtl_core.specs.declared.point.Slot.TheVariants.{Seq, To, Dyn, CallTo, CallDyn, Ret}
use Rattle.points.specs.declared.block.Block.{Block}
use Rattle.points.specs.declared.block.Block.TheVariants.{Inst}
use Rattle.points.specs.declared.block.Course.{Course}
use Rattle.points.specs.declared.block.Course.TheVariants.{On, Arrives as Arriving, Couples}
use Rattle.points.specs.declared.block.JumpKind.{JumpKind}
use Rattle.points.specs.declared.block.Member.TheVariants.{Call}
use Rattle.points.specs.declared.block.Mode.{Mode}
use Rattle.points.specs.declared.block.Next.{Next}
use Rattle.points.specs.contracts.block.NextPartialEq.TheImpl as next_equality
use Rattle.points.specs.Kinds.{block_at}
use Rattle.points.specs.Machine.{Setting}
use Rattle.points.specs.Courses.{point, pending, course_from_seq, course_to, course_to_both, course_to_one, course_from_jump, course_from_slot, course_by, course, possible, halts, course_next, arrival_next, next_if, nexts_of, all_but, once, after, jump_mode, annul_mode}
use Rattle.points.specs.Bodies.{Code, code_of, nexts, arrivals, Enters, CallsBack, given as given_back, any as any_back, goes, jumps as by_table, back as comes_back, past as comes_past, Body, next as body_next, Procedure, called}
use Rattle.points.specs.Summaries.{given, any, EntersAny, calls, jumps as without_table}
use Rattle.c_lang.specs.declared.tree.Program.{Program}
use Rattle.c_lang.specs.Step.{block_of, blocks_in}
use Rattle.c_control.specs.Blocks.{labelled, arrival_code, leaves_apart, annul_for, further_of_block, further_at, further_c}
use Rattle.c_control.specs.Plans.{Plan, further_label}
use Rattle.c_control.specs.Programs.{HasFunction}
use Rattle.c_control.proofs.Controlling.{HasFurther, and-true}
use Rattle.c_control.proofs.Frames.{Emission, CanEnter, HasBack, can-enter}
use Rattle.c_control.proofs.Landing.{Arrives, IsArrival}
use Rattle.c_control.proofs.Ways.{LandsIn}

-- ---- members of what can come

no-member : (n : Next) → Contains [] n → ⊥
no-member n h = omega (arith, h.1)

pub head-member : (n : Next) (ns : List Next) → Contains (n ∷ ns) n
head-member n ns = Contains-get_or (n ∷ ns) 0 n (omega arith)

pub tail-member : (o n : Next) (ns : List Next) → Contains ns n → Contains (o ∷ ns) n
tail-member o n ns h = Contains-append_right (o ∷ []) ns n h

member-cases : (o n : Next) (ns : List Next) → Contains (o ∷ ns) n → (o ≡ n) ⊎ Contains ns n
member-cases o n ns h = by (Contains-append_cases (o ∷ []) ns n h)
  where
    by : Contains (o ∷ []) n ⊎ Contains ns n → (o ≡ n) ⊎ Contains ns n
    by (inl a) = inl (let first : a.0 ≡ 0 = omega (arith, a.1) in ap (λ k. get_or (o ∷ []) k n) (sym first) ∙ a.2)
    by (inr b) = inr b

equals-is : (n o : Next) → next_equality.eq-value.it n o ≡ true → n ≡ o
equals-is n o h = search rules

-- another one stays
others-stay : (o n : Next) (ns : List Next) → next_equality.eq-value.it o n ≡ false → Contains ns n → Contains (all_but o ns) n
others-stay o n [] other h = h
others-stay o n (x ∷ ns) other h = by (next_equality.eq-value.it o x) refl (member-cases x n ns h) (others-stay o n ns other)
  where
    by : (b : Bool) → next_equality.eq-value.it o x ≡ b → (x ≡ n) ⊎ Contains ns n → (Contains ns n → Contains (all_but o ns) n) → Contains (if b then all_but o ns else x ∷ all_but o ns) n
    by true e (inl same) rest = let no : true ≡ false = sym e ∙ ap (next_equality.eq-value.it o) same ∙ other in let none : ⊥ = cc in absurd none
    by true e (inr m) rest = rest m
    by false e (inl same) rest = subst (Contains (x ∷ all_but o ns)) same (head-member x (all_but o ns))
    by false e (inr m) rest = tail-member x n (all_but o ns) (rest m)

pub once-stays : (n : Next) (ns : List Next) → Contains ns n → Contains (once ns) n
once-stays n [] h = h
once-stays n (o ∷ ns) h = by (member-cases o n ns h) (once-stays n ns)
  where
    unless : (b : Bool) → next_equality.eq-value.it o n ≡ b → Contains (once ns) n → Contains (o ∷ all_but o (once ns)) n
    unless true e m = subst (Contains (o ∷ all_but o (once ns))) (equals-is o n e) (head-member o (all_but o (once ns)))
    unless false e m = tail-member o n (all_but o (once ns)) (others-stay o n (once ns) e m)

    by : (o ≡ n) ⊎ Contains ns n → (Contains ns n → Contains (once ns) n) → Contains (o ∷ all_but o (once ns)) n
    by (inl same) rest = subst (Contains (o ∷ all_but o (once ns))) same (head-member o (all_but o (once ns)))
    by (inr m) rest = unless (next_equality.eq-value.it o n) refl (rest m)

-- the way in which it came out is among all that can come out
if-member : (b : Bool) (c : Course) → b ≡ true → Contains (next_if b c) (course_next c)
if-member true c e = head-member (course_next c) []
if-member false c e = let no : ⊥ = cc in absurd no

-- what comes where it came out so, if it can
abbrev way_next : Machine → Point → GroundInst → JumpKind → Mode → Mode → (jumps annuls : Bool) → List Next
way_next m b inst kind j a jumps annuls = next_if (possible j jumps && possible a annuls) (course m b inst.next kind jumps annuls)

pub way-member : (m : Machine) (b : Point) (inst : GroundInst) (kind : JumpKind) (j a : Mode) (jumps annuls : Bool) → possible j jumps ≡ true → possible a annuls ≡ true
    → Contains (nexts_of m b inst kind j a) (course_next (course_by m b.pc b.slot inst.next kind jumps annuls))
way-member m b inst kind j a jumps annuls ej ea =
    by jumps annuls (course_next (course m b inst.next kind jumps annuls)) (if-member (possible j jumps && possible a annuls) (course m b inst.next kind jumps annuls) (and-true (possible j jumps) (possible a annuls) ej ea))
  where
    row : Bool → Bool → List Next
    row jumps annuls = way_next m b inst kind j a jumps annuls

    by : (x y : Bool) (n : Next) → Contains (way_next m b inst kind j a x y) n → Contains (nexts_of m b inst kind j a) n
    by false false n c = Contains-append_left ((row false false ++ row false true) ++ row true false) (row true true) n (Contains-append_left (row false false ++ row false true) (row true false) n (Contains-append_left (row false false) (row false true) n c))
    by false true n c = Contains-append_left ((row false false ++ row false true) ++ row true false) (row true true) n (Contains-append_left (row false false ++ row false true) (row true false) n (Contains-append_right (row false false) (row false true) n c))
    by true false n c = Contains-append_left ((row false false ++ row false true) ++ row true false) (row true true) n (Contains-append_right (row false false ++ row false true) (row true false) n c)
    by true true n c = Contains-append_right ((row false false ++ row false true) ++ row true false) (row true true) n c

module _ (g : Emission) where
  abbrev plan : Plan
  plan = g.plan

  abbrev setting : Setting
  setting = plan.flow.setting

  abbrev m : Machine
  m = setting.machine

  abbrev program : Program
  program = g.program

  abbrev code : Code
  code = code_of setting plan.flow.table

  -- ---- no course arrives where nothing is to come

  abbrev CanCome : Course → Type 0
  CanCome (Arriving slot) = IsArrival g slot
  CanCome c = Unit {0}

  seq-can-come : (delay : Option ℕ) (next : ℕ) (slot : Slot) (jumps annuls : Bool) → (jumps ≡ true → IsArrival g slot) → CanCome (course_from_seq delay next slot jumps annuls)
  seq-can-come None next slot false annuls h = tt
  seq-can-come None next slot true annuls h = h refl
  seq-can-come (Some delay) next slot false false h = tt
  seq-can-come (Some delay) next slot false true h = tt
  seq-can-come (Some delay) next slot true false h = tt
  seq-can-come (Some delay) next slot true true h = h refl

  slot-can-come : (slot : Slot) (jumps annuls : Bool) → IsArrival g slot → CanCome (course_from_slot slot jumps annuls)
  slot-can-come slot true annuls h = tt
  slot-can-come slot false true h = tt
  slot-can-come slot false false h = h

  to-can-come : (delay : Option ℕ) (t : ℕ) (annuls : Bool) → CanCome (course_to delay t annuls)
  to-can-come delay t true = tt
  to-can-come delay t false = tt

  one-can-come : (delay : Option ℕ) (t : ℕ) (jumps annuls : Bool) → CanCome (course_to_one delay t jumps annuls)
  one-can-come delay t true annuls = tt
  one-can-come delay t false annuls = to-can-come delay t annuls

  both-can-come : (delay : Option ℕ) (t u : ℕ) (jumps annuls : Bool) → CanCome (course_to_both delay t u jumps annuls)
  both-can-come delay t u false annuls = to-can-come delay t annuls
  both-can-come delay t u true true = tt
  both-can-come delay t u true false = tt

  jump-can-come : (delay : Option ℕ) (t : ℕ) (kind : JumpKind) (jumps annuls : Bool) → CanCome (course_from_jump delay t kind jumps annuls)
  jump-can-come delay t (JumpKind.To u) jumps annuls = both-can-come delay t u jumps annuls
  jump-can-come delay t JumpKind.Never jumps annuls = one-can-come delay t jumps annuls
  jump-can-come delay t JumpKind.Dyn jumps annuls = one-can-come delay t jumps annuls
  jump-can-come delay t (JumpKind.CallTo u r) jumps annuls = one-can-come delay t jumps annuls
  jump-can-come delay t (JumpKind.CallDyn r) jumps annuls = one-can-come delay t jumps annuls
  jump-can-come delay t JumpKind.Ret jumps annuls = one-can-come delay t jumps annuls

  can-come : (m : Machine) (pc : ℕ) (slot : Slot) (next : ℕ) (kind : JumpKind) (jumps annuls : Bool) → (kind ≡ JumpKind.Never → jumps ≡ false) → CanCome (course_by m pc slot next kind jumps annuls)
  can-come m pc Seq next JumpKind.Never jumps annuls off = seq-can-come m.delay next Seq jumps annuls (λ e. let no : true ≡ false = sym e ∙ off refl in let none : ⊥ = cc in absurd none)
  can-come m pc Seq next (JumpKind.To t) jumps annuls off = seq-can-come m.delay next (To t) jumps annuls (λ e. tt)
  can-come m pc Seq next JumpKind.Dyn jumps annuls off = seq-can-come m.delay next (Dyn pc) jumps annuls (λ e. tt)
  can-come m pc Seq next (JumpKind.CallTo t r) jumps annuls off = seq-can-come m.delay next (CallTo t r) jumps annuls (λ e. tt)
  can-come m pc Seq next (JumpKind.CallDyn r) jumps annuls off = seq-can-come m.delay next (CallDyn r) jumps annuls (λ e. tt)
  can-come m pc Seq next JumpKind.Ret jumps annuls off = seq-can-come m.delay next Ret jumps annuls (λ e. tt)
  can-come m pc (To t) next kind jumps annuls off = jump-can-come m.delay t kind jumps annuls
  can-come m pc (Dyn a) next kind jumps annuls off = slot-can-come (Dyn a) jumps annuls tt
  can-come m pc (CallTo t r) next kind jumps annuls off = slot-can-come (CallTo t r) jumps annuls tt
  can-come m pc (CallDyn r) next kind jumps annuls off = slot-can-come (CallDyn r) jumps annuls tt
  can-come m pc Ret next kind jumps annuls off = slot-can-come Ret jumps annuls tt

  -- ---- where it leads

  pub course-next-in : (b : Point) (inst : GroundInst) (kind : JumpKind) (jumps annuls : Bool) → block_at setting b.pc ≡ Inst inst kind → halts inst.transfers ≡ false → possible (jump_mode inst.transfers) jumps ≡ true
      → possible (annul_mode inst.transfers) annuls ≡ true → Contains (nexts code b) (course_next (course_by m b.pc b.slot inst.next kind jumps annuls))
  course-next-in b inst kind jumps annuls stands going ej ea =
      let n = course_next (course_by m b.pc b.slot inst.next kind jumps annuls) in
      let ns = nexts_of m b inst kind (jump_mode inst.transfers) (annul_mode inst.transfers) in
      subst (λ (k : Block). Contains (after m b k) n) (sym stands)
      (subst (λ (h : Bool). Contains (if h then [] else once ns) n) (sym going) (once-stays n ns (way-member m b inst kind (jump_mode inst.transfers) (annul_mode inst.transfers) jumps annuls ej ea)))

  module _ (q : ℕ) (b : Point) (procedure : Procedure code g.roots q) (inside : Body code q b) where
    -- a step there can do it, so it is among the arrivals
    among-arrivals : (n : Next) → Contains (nexts code b) n → Contains (arrivals code b) n
    among-arrivals n h = tail-member (arrival_next b.slot) n (nexts code b) h

    -- where a call comes back to
    has-back : (r : ℕ) → CallsBack (nexts code b) r → HasBack g (Call r) q
    has-back r c false pc e = subst (λ k. Body code q (point k Seq)) (sym e) (body_next inside (comes_back c))
    has-back r c true pc e = body_next inside (comes_past c e)

    enters-any : EntersAny code b → (x : ℕ) → IsTrue (plan.flow.is_procedure x) → CanEnter g q x
    enters-any e x is = let at = g.planned.procedures x is in can-enter g q x at (any inside e at)

    enters-one : (t r : ℕ) → Contains (nexts code b) (Next.Calls t r) → CanEnter g q t
    enters-one t r c =
        let e : Enters code b t = record { back = r; calls = among-arrivals (Next.Calls t r) c } in
        can-enter g q t (called procedure inside e) (given inside e)

    arrives-in : (slot : Slot) → IsArrival g slot → Contains (nexts code b) (arrival_next slot) → Arrives g q slot
    arrives-in Seq fit c = absurd fit
    arrives-in (To t) fit c = body_next inside (goes c)
    arrives-in (Dyn a) fit c = (λ x t. body_next inside (by_table c t), λ x empty is. enters-any (without_table (among-arrivals (Next.Table a) c) empty) x is)
    arrives-in (CallTo t r) fit c = (has-back r (given_back c), enters-one t r c)
    arrives-in (CallDyn r) fit c = (has-back r (any_back c), enters-any (calls (among-arrivals (Next.CallsAny r) c)))
    arrives-in Ret fit c = tt

    lands-by : (c : Course) → CanCome c → Contains (nexts code b) (course_next c) → LandsIn g q c
    lands-by (On p) fit h = body_next inside (goes h)
    lands-by (Arriving slot) fit h = arrives-in slot fit h
    lands-by Couples fit h = tt

  pub lands : (q : ℕ) (b : Point) (inst : GroundInst) (kind : JumpKind) (jumps annuls : Bool) → Procedure code g.roots q → Body code q b → block_at setting b.pc ≡ Inst inst kind → halts inst.transfers ≡ false
      → possible (jump_mode inst.transfers) jumps ≡ true → possible (annul_mode inst.transfers) annuls ≡ true → (kind ≡ JumpKind.Never → jumps ≡ false) → LandsIn g q (course_by m b.pc b.slot inst.next kind jumps annuls)
  lands q b inst kind jumps annuls procedure inside stands going ej ea off =
      lands-by q b procedure inside (course_by m b.pc b.slot inst.next kind jumps annuls) (can-come m b.pc b.slot inst.next kind jumps annuls off) (course-next-in b inst kind jumps annuls stands going ej ea)

  -- the further block is there where the arrival asks for it
  pub has-further : (q : ℕ) (fn : HasFunction plan program q) (b : Point) (inst : GroundInst) (kind : JumpKind) → Body code q b → block_at setting b.pc ≡ Inst inst kind → halts inst.transfers ≡ false → b.slot ≡ Seq
      → HasFurther g q fn.found.index b.pc (jump_mode inst.transfers) (annul_for m.delay (annul_mode inst.transfers)) (pending b.pc kind)
  has-further q fn b inst kind inside stands going fresh = λ apart.
      let more = labelled (further_label b.pc) (arrival_code plan q (pending b.pc kind)) in
      let asked = leaves_apart plan (jump_mode inst.transfers) (annul_for m.delay (annul_mode inst.transfers)) (pending b.pc kind) in
      let is : further_c plan q b ≡ Some more =
      ap (further_at plan q b.pc) fresh ∙ ap (further_of_block plan q b.pc) stands
      ∙ ap (λ (x : Bool). if x then Some more else None) (and-true (not (halts inst.transfers)) asked (ap not going) apart) in
      ap (λ o. block_of (blocks_in o) (further_label b.pc)) fn.there ∙ fn.further b more inside is
