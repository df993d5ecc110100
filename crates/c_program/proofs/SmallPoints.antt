-- All that a sound program reaches lies below 2^32.
use Rattle.std.proofs.Common.{◌≡◌, ℕ, ◌+◌, ◌^◌, ◌%◌, ◌<◌, Bool, true, false, ◌||◌, ◌&&◌, List, [], ◌∷◌, ◌++◌, Option, Some, None, inl, inr, refl, sym, ap, ◌∙◌, subst, IfSome}
use Rattle.std.specs.Prelude.{◌⊎◌, if◌then◌else◌}
use Rattle.std.specs.List.{Contains}
use Rattle.std.proofs.lemmas.List.Elements.{Contains-append_cases}
use Rattle.std.proofs.lemmas.Nat.{pow_pos}
use Rattle.std.proofs.Math.Nat.{mod-lt}
use Rattle.rtl_core.specs.declared.expr.Expr.{Expr}
use Rattle.rtl_core.specs.declared.inst.GroundInst.{GroundInst}
use Rattle.rtl_core.specs.declared.machine.Machine.{Machine}
use Rattle.rtl_core.specs.declared.point.Point.{Point}
use Rattle.rtl_core.specs.declared.point.Slot.{Slot}
use Rattle.rtl_core.specs.declared.point.Slot.TheVariants.{Seq, To, Dyn, CallTo, CallDyn, Ret}
use Rattle.rtl_core.specs.SoundConv.{AreSoundTogether}
use Rattle.rtl_core.specs.SoundTerms.{HasWidth, AreSoundTransfers}
use Rattle.points.specs.declared.block.Block.{Block}
use Rattle.points.specs.declared.block.Course.{Course}
use Rattle.points.specs.declared.block.Course.TheVariants.{On, Arrives as Arriving, Couples}
use Rattle.points.specs.declared.block.JumpKind.{JumpKind}
use Rattle.points.specs.declared.block.Next.{Next}
use Rattle.points.specs.declared.jumps.Manner.{Manner}
use Rattle.points.specs.declared.jumps.Manner.TheVariants.{Plain, Calling, Returning}
use Rattle.points.specs.contracts.block.NextPartialEq.TheImpl as next_equality
use Rattle.points.specs.Bodies.{Code, code_of, nexts, arrivals, Enters, CallsBack, LeadsTo, Body, Procedure}
use Rattle.points.specs.Courses.{pending, course_from_seq, course_to, course_to_both, course_to_one, course_from_jump, course_from_slot, course_by, course, halts, possible, jump_mode, annul_mode, arrival_next, course_next, next_if, nexts_of, all_but, once, after}
use Rattle.points.specs.Kinds.{further, past_slot, block_at, constant_target, jump_target, kind_by, kind_to, manner_of, return_address}
use Rattle.points.specs.Machine.{Setting, standing}
use Rattle.points.proofs.ConstantTerms.{targets_are_addresses}
use Rattle.points.proofs.Behind.{second_is_behind}
use Rattle.points.proofs.SoundJumps.{jump-sound}
use Rattle.points.proofs.StandingSound.{standing-sound}
use Rattle.points.proofs.StepLaws.{standing-next}
use Rattle.c_control.proofs.Modes.{kind-at}
use Rattle.c_control.proofs.Performing.{stands}

-- the addresses in a slot
abbrev pub SmallSlot : Slot → Type 0
SmallSlot (To t) = t < 2 ^ 32
SmallSlot (CallTo t back) = (t < 2 ^ 32) × (back < 2 ^ 32)
SmallSlot (CallDyn back) = back < 2 ^ 32
SmallSlot slot = Unit {0}

abbrev pub SmallPoint : Point → Type 0
SmallPoint p = (p.pc < 2 ^ 32) × SmallSlot p.slot

abbrev SmallNext : Next → Type 0
SmallNext (Next.Goes p) = SmallPoint p
SmallNext (Next.Calls t back) = (t < 2 ^ 32) × (back < 2 ^ 32)
SmallNext (Next.CallsAny back) = back < 2 ^ 32
SmallNext n = Unit {0}

abbrev SmallCourse : Course → Type 0
SmallCourse (On p) = SmallPoint p
SmallCourse (Arriving slot) = SmallSlot slot
SmallCourse Couples = Unit {0}

abbrev pub SmallKind : JumpKind → Type 0
SmallKind (JumpKind.To t) = t < 2 ^ 32
SmallKind (JumpKind.CallTo t back) = (t < 2 ^ 32) × (back < 2 ^ 32)
SmallKind (JumpKind.CallDyn back) = back < 2 ^ 32
SmallKind kind = Unit {0}

abbrev Each : List Next → Type 0
Each [] = Unit {0}
Each (n ∷ ns) = SmallNext n × Each ns

each-in : (ns : List Next) (n : Next) → Each ns → Contains ns n → SmallNext n
each-in [] n h i = let no : ⊥ = omega (Rattle.std.proofs.Common.arith, i.1) in absurd no
each-in (m ∷ ns) n h i = by (each-in ns n) (Contains-append_cases (m ∷ []) ns n i)
  where
    by : (Each ns → Contains ns n → SmallNext n) → Contains (m ∷ []) n ⊎ Contains ns n → SmallNext n
    by later (inl j) = subst SmallNext (Rattle.params.proofs.Members.only-in m n j) h.0
    by later (inr j) = later h.1 j

each-append : (xs ys : List Next) → Each xs → Each ys → Each (xs ++ ys)
each-append [] ys a b = b
each-append (x ∷ xs) ys a b = (a.0, each-append xs ys a.1 b)

each-but : (n : Next) (ns : List Next) → Each ns → Each (all_but n ns)
each-but n [] h = tt
each-but n (m ∷ ns) h = by (each-but n ns h.1) (next_equality.eq-value.it n m)
  where
    by : Each (all_but n ns) → (b : Bool) → Each (if b then all_but n ns else m ∷ all_but n ns)
    by later true = later
    by later false = (h.0, later)

each-once : (ns : List Next) → Each ns → Each (once ns)
each-once [] h = tt
each-once (n ∷ ns) h = (h.0, each-but n (once ns) (each-once ns h.1))

-- an arrival
arrives-small : (slot : Slot) → SmallSlot slot → SmallNext (arrival_next slot)
arrives-small Seq h = tt
arrives-small (To t) h = (h, tt)
arrives-small (Dyn a) h = tt
arrives-small (CallTo t back) h = h
arrives-small (CallDyn back) h = h
arrives-small Ret h = tt

course-small : (c : Course) → SmallCourse c → SmallNext (course_next c)
course-small (On p) h = h
course-small (Arriving slot) h = arrives-small slot h
course-small Couples h = tt

further-small : (a bytes : ℕ) → further a bytes < 2 ^ 32
further-small a bytes = mod-lt (a + bytes) (pow_pos 32)

past-small : (delay : Option ℕ) (a : ℕ) → a < 2 ^ 32 → past_slot delay a < 2 ^ 32
past-small None a h = h
past-small (Some delay) a h = further-small a delay

pending-small : (pc : ℕ) (kind : JumpKind) → SmallKind kind → SmallSlot (pending pc kind)
pending-small pc JumpKind.Never h = tt
pending-small pc (JumpKind.To t) h = h
pending-small pc JumpKind.Dyn h = tt
pending-small pc (JumpKind.CallTo t back) h = h
pending-small pc (JumpKind.CallDyn back) h = h
pending-small pc JumpKind.Ret h = tt

-- ---- where a step leads

module _ (m : Machine) (next : ℕ) (next-small : next < 2 ^ 32) where
  from-seq : (delay : Option ℕ) (slot : Slot) (j a : Bool) → SmallSlot slot → SmallCourse (course_from_seq delay next slot j a)
  from-seq None slot false a h = (next-small, tt)
  from-seq None slot true a h = h
  from-seq (Some delay) slot false false h = (next-small, tt)
  from-seq (Some delay) slot false true h = (further-small next delay, tt)
  from-seq (Some delay) slot true false h = (next-small, h)
  from-seq (Some delay) slot true true h = h

  to-small : (delay : Option ℕ) (t : ℕ) (a : Bool) → t < 2 ^ 32 → SmallCourse (course_to delay t a)
  to-small delay t false h = (h, tt)
  to-small delay t true h = (past-small delay t h, tt)

  one-small : (delay : Option ℕ) (t : ℕ) (j a : Bool) → t < 2 ^ 32 → SmallCourse (course_to_one delay t j a)
  one-small delay t false a h = to-small delay t a h
  one-small delay t true a h = tt

  both-small : (delay : Option ℕ) (t u : ℕ) (j a : Bool) → t < 2 ^ 32 → u < 2 ^ 32 → SmallCourse (course_to_both delay t u j a)
  both-small delay t u false a h k = to-small delay t a h
  both-small delay t u true false h k = (h, k)
  both-small delay t u true true h k = (k, tt)

  from-jump : (delay : Option ℕ) (t : ℕ) (kind : JumpKind) (j a : Bool) → t < 2 ^ 32 → SmallKind kind → SmallCourse (course_from_jump delay t kind j a)
  from-jump delay t (JumpKind.To u) j a h k = both-small delay t u j a h k
  from-jump delay t JumpKind.Never j a h k = one-small delay t j a h
  from-jump delay t JumpKind.Dyn j a h k = one-small delay t j a h
  from-jump delay t (JumpKind.CallTo u back) j a h k = one-small delay t j a h
  from-jump delay t (JumpKind.CallDyn back) j a h k = one-small delay t j a h
  from-jump delay t JumpKind.Ret j a h k = one-small delay t j a h

  from-slot : (slot : Slot) (j a : Bool) → SmallSlot slot → SmallCourse (course_from_slot slot j a)
  from-slot slot true a h = tt
  from-slot slot false true h = tt
  from-slot slot false false h = h

  leads-small : (pc : ℕ) (slot : Slot) (kind : JumpKind) (j a : Bool) → SmallSlot slot → SmallKind kind → SmallCourse (course_by m pc slot next kind j a)
  leads-small pc Seq kind j a h k = from-seq m.delay (pending pc kind) j a (pending-small pc kind k)
  leads-small pc (To t) kind j a h k = from-jump m.delay t kind j a h k
  leads-small pc (Dyn b) kind j a h k = from-slot (Dyn b) j a h
  leads-small pc (CallTo t back) kind j a h k = from-slot (CallTo t back) j a h
  leads-small pc (CallDyn back) kind j a h k = from-slot (CallDyn back) j a h
  leads-small pc Ret kind j a h k = from-slot Ret j a h

  if-small : (b : Bool) (c : Course) → SmallCourse c → Each (next_if b c)
  if-small false c h = tt
  if-small true c h = (course-small c h, tt)

  all-small : (p : Point) (inst : GroundInst) → inst.next ≡ next → (kind : JumpKind) → SmallSlot p.slot → SmallKind kind
      → Each (once (nexts_of m p inst kind (jump_mode inst.transfers) (annul_mode inst.transfers)))
  all-small p inst e kind h k =
      let j = jump_mode inst.transfers in
      let a = annul_mode inst.transfers in
      let way = λ (x y : Bool). subst (λ n. SmallCourse (course_by m p.pc p.slot n kind x y)) (sym e) (leads-small p.pc p.slot kind x y h k) in
      each-once (nexts_of m p inst kind j a)
      (each-append (next_if (possible j false && possible a false) (course m p inst.next kind false false) ++ next_if (possible j false && possible a true) (course m p inst.next kind false true)
      ++ next_if (possible j true && possible a false) (course m p inst.next kind true false)) _
      (each-append (next_if (possible j false && possible a false) (course m p inst.next kind false false) ++ next_if (possible j false && possible a true) (course m p inst.next kind false true)) _
      (each-append (next_if (possible j false && possible a false) (course m p inst.next kind false false)) _ (if-small (possible j false && possible a false) _ (way false false))
      (if-small (possible j false && possible a true) _ (way false true)))
      (if-small (possible j true && possible a false) _ (way true false)))
      (if-small (possible j true && possible a true) _ (way true true)))

module _ (setting : Setting) (table : ℕ → List ℕ) (sound : AreSoundTogether setting.encodings setting.machine setting.conv) (tables : (a t : ℕ) → Contains (table a) t → t < 2 ^ 32) where
  abbrev m : Machine
  m = setting.machine

  abbrev code : Code
  code = code_of setting table

  -- the targets of an instruction
  pub kind-small : (pc : ℕ) (inst : GroundInst) (kind : JumpKind) → pc < 2 ^ 32 → block_at setting pc ≡ Block.Inst inst kind → SmallKind kind
  kind-small pc inst kind lt e = subst SmallKind (sym (kind-at setting inst pc kind e)) (by (jump_target inst.transfers) (jump-sound m inst.transfers transfers.each))
    where
      at : standing setting pc ≡ Rattle.points.specs.declared.block.Standing.TheVariants.Stands inst
      at = stands setting pc inst kind e

      transfers : AreSoundTransfers m inst.transfers
      transfers = standing-sound setting pc inst sound.machine.machine lt at

      back-small : return_address m inst < 2 ^ 32
      back-small = past-small m.delay inst.next (standing-next setting pc inst at)

      by-manner : (manner : Manner) (o : Option ℕ) → IfSome o (λ t. t < 2 ^ 32) → SmallKind (kind_by manner o (return_address m inst))
      by-manner Plain None h = tt
      by-manner Plain (Some t) h = h
      by-manner Calling None h = back-small
      by-manner Calling (Some t) h = (h, back-small)
      by-manner Returning o h = tt

      constant : (x : Expr) → HasWidth m.widths x 32 → (o : Option ℕ) → constant_target m x ≡ o → IfSome o (λ t. t < 2 ^ 32)
      constant x wide None same = tt
      constant x wide (Some t) same = targets_are_addresses m x t sound.machine.machine.widths wide same

      by : (o : Option Expr) → IfSome o (λ x. HasWidth m.widths x 32) → SmallKind (kind_to setting inst o)
      by None h = tt
      by (Some x) h = by-manner (manner_of setting inst) (constant_target m x) (constant x h (constant_target m x) refl)

  nexts-small : (p : Point) → SmallPoint p → Each (nexts code p)
  nexts-small p h = by (block_at setting p.pc) refl
    where
      inst-small : (inst : GroundInst) (kind : JumpKind) → block_at setting p.pc ≡ Block.Inst inst kind → (b : Bool) → Each (if b then [] else once (nexts_of m p inst kind (jump_mode inst.transfers) (annul_mode inst.transfers)))
      inst-small inst kind e true = tt
      inst-small inst kind e false = all-small m inst.next (standing-next setting p.pc inst (stands setting p.pc inst kind e)) p inst refl kind h.1 (kind-small p.pc inst kind h.0 e)

      by : (k : Block) → block_at setting p.pc ≡ k → Each (after m p k)
      by Block.Outside e = tt
      by Block.Illegal e = tt
      by (Block.Inst inst kind) e = inst-small inst kind e (halts inst.transfers)

  next-back-small : (p : Point) (r : ℕ) → Each (nexts code p) → CallsBack (nexts code p) r → r < 2 ^ 32
  next-back-small p r h (CallsBack.given {t = t} i) = (each-in (nexts code p) (Next.Calls t r) h i).1
  next-back-small p r h (CallsBack.any i) = each-in (nexts code p) (Next.CallsAny r) h i

  leads : (p q : Point) → SmallPoint p → LeadsTo code p q → SmallPoint q
  leads p q h (LeadsTo.goes i) = each-in (nexts code p) (Next.Goes q) (nexts-small p h) i
  leads p q h (LeadsTo.jumps {a = a} {t = t} i j) = (tables a t j, tt)
  leads p q h (LeadsTo.back {r = r} calls) = (next-back-small p r (nexts-small p h) calls, tt)
  leads p q h (LeadsTo.past {r = r} {s = s} calls e) = ((second_is_behind setting r s sound.machine.encodings e).1.1, tt)

  -- ---- all that is reached

  pub body-small : (entry : ℕ) (p : Point) → entry < 2 ^ 32 → Body code entry p → SmallPoint p
  body-small entry p lt Body.first = (lt, tt)
  body-small entry q lt (Body.next {p = p} b l) = leads p q (body-small entry p lt b) l

  enters-small : (p : Point) (t : ℕ) → SmallPoint p → Enters code p t → t < 2 ^ 32
  enters-small p t h e = (each-in (arrivals code p) (Next.Calls t e.back) (arrives-small p.slot h.1, nexts-small p h) e.calls).0

  -- a return address of a call that is to come or can be made at a point
  pub back-small : (p : Point) (r : ℕ) → SmallPoint p → CallsBack (arrivals code p) r → r < 2 ^ 32
  back-small p r h (CallsBack.given {t = t} i) = (each-in (arrivals code p) (Next.Calls t r) (arrives-small p.slot h.1, nexts-small p h) i).1
  back-small p r h (CallsBack.any i) = each-in (arrivals code p) (Next.CallsAny r) (arrives-small p.slot h.1, nexts-small p h) i

  pub procedure-small : (roots : List ℕ) → ((p : ℕ) → Contains roots p → p < 2 ^ 32) → (p : ℕ) → Procedure code roots p → p < 2 ^ 32
  procedure-small roots small p (Procedure.root i) = small p i
  procedure-small roots small t (Procedure.called {p = p} {q = q} proc body enters) = enters-small q t (body-small p q (procedure-small roots small p proc) body) enters
