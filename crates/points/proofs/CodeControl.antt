-- What comes behind a point, by its slot and by how its instruction jumps.
use Rattle.std.proofs.Common.{◌≡◌, ◌≢◌, ℕ, ◌⊎◌, inl, inr, Bool, true, false, if◌then◌else◌, List, [], ◌∷◌, ◌++◌, Option, Some, None, All, refl, sym, ap, ◌∙◌, subst}
use Rattle.std.proofs.lemmas.List.Elements.{All-nil, All-cons, All-head, All-tail, All-append, All-contains}
use Rattle.std.specs.List.{Contains}
use Rattle.std.specs.Prelude.{◌&&◌, ◌||◌}
use Rattle.rtl_core.specs.declared.inst.GroundInst.{GroundInst}
use Rattle.rtl_core.specs.declared.machine.Machine.{Machine}
use Rattle.rtl_core.specs.declared.point.Point.{Point}
use Rattle.rtl_core.specs.declared.point.Slot.{Slot}
use Rattle.rtl_core.specs.declared.point.Slot.TheVariants.{Seq, To, Dyn, CallTo, CallDyn, Ret}
use Rattle.rtl_core.specs.SoundEncodings.{IsSoundEncodings}
use Rattle.points.specs.declared.block.Block.{Block}
use Rattle.points.specs.declared.block.Course.{Course}
use Rattle.points.specs.declared.block.Course.TheVariants.{Arrives, Couples}
use Rattle.points.specs.declared.block.JumpKind.{JumpKind}
use Rattle.points.specs.declared.block.Mode.{Mode}
use Rattle.points.specs.declared.block.Next.{Next}
use Rattle.points.specs.contracts.block.NextPartialEq.TheImpl as next_equality
use Rattle.points.specs.Bodies.{Code, code_of, nexts, Body, first, next, LeadsTo, goes, jumps, back, past}
use Rattle.points.specs.ControlLaws.{IsControl, CodeIsControl, JumpsAt, NoJumpWaitsForItself}
use Rattle.points.specs.Courses.{point, pending, course_from_seq, course_to, course_to_both, course_to_one, course_from_jump, course, possible, halts, arrival_next, course_next, next_if, nexts_of, all_but, once, after, jump_mode, annul_mode}
use Rattle.points.specs.Flows.{is_computed}
use Rattle.points.specs.Kinds.{block_at, block_of}
use Rattle.points.specs.declared.block.Standing.{Standing}
use Rattle.points.specs.declared.block.Standing.TheVariants.{Outside, Illegal, Stands}
use Rattle.points.specs.Machine.{Setting, standing}
use Rattle.points.proofs.Behind.{next_is_behind}

-- a computed plain jump at an address, with nothing to come
abbrev IsJumpAt : Point → JumpKind → ℕ → Type 0
IsJumpAt q kind a = (q ≡ point a Seq) × (kind ≡ JumpKind.Dyn)

-- what may come behind a point q whose instruction jumps so and ends at `behind`
abbrev Follows : Point → JumpKind → ℕ → Next → Type 0
Follows q kind behind (Next.Table a) = IsJumpAt q kind a ⊎ (q.slot ≡ Dyn a)
Follows q kind behind (Next.Goes p) = (a : ℕ) → p.slot ≡ Dyn a → IsJumpAt q kind a × (p.pc ≡ behind)
Follows q kind behind _ = Unit {0}

-- a point with nothing to come
abbrev Fresh : Point → JumpKind → ℕ → ℕ → Type 0
Fresh q kind behind t = Follows q kind behind (Next.Goes (point t Seq))

fresh : (q : Point) (kind : JumpKind) (behind t : ℕ) → Fresh q kind behind t
fresh q kind behind t a e = absurd cc

-- ---- with nothing to come

waits : (pc behind : ℕ) (kind : JumpKind) → Follows (point pc Seq) kind behind (Next.Goes (point behind (pending pc kind)))
waits pc behind JumpKind.Never a e = absurd cc
waits pc behind (JumpKind.To t) a e = absurd cc
waits pc behind JumpKind.Dyn a e = let same : pc ≡ a = cc in ((ap (λ n. point n Seq) same, refl), refl)
waits pc behind (JumpKind.CallTo t r) a e = absurd cc
waits pc behind (JumpKind.CallDyn r) a e = absurd cc
waits pc behind JumpKind.Ret a e = absurd cc

arrives : (pc behind : ℕ) (kind : JumpKind) → Follows (point pc Seq) kind behind (arrival_next (pending pc kind))
arrives pc behind JumpKind.Never = tt
arrives pc behind (JumpKind.To t) = fresh (point pc Seq) (JumpKind.To t) behind t
arrives pc behind JumpKind.Dyn = inl (refl, refl)
arrives pc behind (JumpKind.CallTo t r) = tt
arrives pc behind (JumpKind.CallDyn r) = tt
arrives pc behind JumpKind.Ret = tt

from-seq : (delay : Option ℕ) (pc behind : ℕ) (kind : JumpKind) (j n : Bool) → Follows (point pc Seq) kind behind (course_next (course_from_seq delay behind (pending pc kind) j n))
from-seq None pc behind kind false n = fresh (point pc Seq) kind behind behind
from-seq None pc behind kind true n = arrives pc behind kind
from-seq (Some d) pc behind kind false false = fresh (point pc Seq) kind behind behind
from-seq (Some d) pc behind kind false true = λ a e. absurd cc
from-seq (Some d) pc behind kind true false = waits pc behind kind
from-seq (Some d) pc behind kind true true = arrives pc behind kind

-- ---- in the slot of a plain jump with a constant target

to : (delay : Option ℕ) (q : Point) (kind : JumpKind) (behind t : ℕ) (n : Bool) → Follows q kind behind (course_next (course_to delay t n))
to delay q kind behind t false = λ a e. absurd cc
to delay q kind behind t true = λ a e. absurd cc

to-one : (delay : Option ℕ) (q : Point) (kind : JumpKind) (behind t : ℕ) (j n : Bool) → Follows q kind behind (course_next (course_to_one delay t j n))
to-one delay q kind behind t false n = to delay q kind behind t n
to-one delay q kind behind t true n = tt

to-both : (delay : Option ℕ) (q : Point) (kind : JumpKind) (behind t u : ℕ) (j n : Bool) → Follows q kind behind (course_next (course_to_both delay t u j n))
to-both delay q kind behind t u false n = to delay q kind behind t n
to-both delay q kind behind t u true false = λ a e. absurd cc
to-both delay q kind behind t u true true = λ a e. absurd cc

from-jump : (delay : Option ℕ) (q : Point) (behind t : ℕ) (kind : JumpKind) (j n : Bool) → Follows q kind behind (course_next (course_from_jump delay t kind j n))
from-jump delay q behind t (JumpKind.To u) j n = to-both delay q (JumpKind.To u) behind t u j n
from-jump delay q behind t JumpKind.Never j n = to-one delay q JumpKind.Never behind t j n
from-jump delay q behind t JumpKind.Dyn j n = to-one delay q JumpKind.Dyn behind t j n
from-jump delay q behind t (JumpKind.CallTo u r) j n = to-one delay q (JumpKind.CallTo u r) behind t j n
from-jump delay q behind t (JumpKind.CallDyn r) j n = to-one delay q (JumpKind.CallDyn r) behind t j n
from-jump delay q behind t JumpKind.Ret j n = to-one delay q JumpKind.Ret behind t j n

-- ---- in any other slot

in-slot : (q : Point) (kind : JumpKind) (behind : ℕ) (slot : Slot) (couples : Bool) → q.slot ≡ slot
    → Follows q kind behind (course_next (if couples then Couples else Arrives slot))
in-slot q kind behind slot true e = tt
in-slot q kind behind Seq false e = tt
in-slot q kind behind (To t) false e = fresh q kind behind t
in-slot q kind behind (Dyn a) false e = inr e
in-slot q kind behind (CallTo t r) false e = tt
in-slot q kind behind (CallDyn r) false e = tt
in-slot q kind behind Ret false e = tt

-- ---- wherever a step leads

follows-course : (m : Machine) (pc : ℕ) (slot : Slot) (behind : ℕ) (kind : JumpKind) (j n : Bool) → Follows (point pc slot) kind behind (course_next (course m (point pc slot) behind kind j n))
follows-course m pc Seq behind kind j n = from-seq m.delay pc behind kind j n
follows-course m pc (To t) behind kind j n = from-jump m.delay (point pc (To t)) behind t kind j n
follows-course m pc (Dyn a) behind kind j n = in-slot (point pc (Dyn a)) kind behind (Dyn a) (j || n) refl
follows-course m pc (CallTo t r) behind kind j n = in-slot (point pc (CallTo t r)) kind behind (CallTo t r) (j || n) refl
follows-course m pc (CallDyn r) behind kind j n = in-slot (point pc (CallDyn r)) kind behind (CallDyn r) (j || n) refl
follows-course m pc Ret behind kind j n = in-slot (point pc Ret) kind behind Ret (j || n) refl

module _ (P : Next → Type 0) where
  all-if : (b : Bool) (c : Course) → P (course_next c) → All P (next_if b c)
  all-if false c p = All-nil P
  all-if true c p = All-cons P (course_next c) [] p (All-nil P)

  all-but : (n : Next) (os : List Next) → All P os → All P (all_but n os)
  all-but n [] all = All-nil P
  all-but n (o ∷ os) all = by (next_equality.eq-value.it n o) (all-but n os (All-tail P o os all))
    where
      by : (b : Bool) → All P (all_but n os) → All P (if b then all_but n os else o ∷ all_but n os)
      by true rest = rest
      by false rest = All-cons P o (all_but n os) (All-head P o os all) rest

  all-once : (os : List Next) → All P os → All P (once os)
  all-once [] all = All-nil P
  all-once (o ∷ os) all = All-cons P o (all_but o (once os)) (All-head P o os all) (all-but o (once os) (all-once os (All-tail P o os all)))

follows-nexts : (m : Machine) (q : Point) (inst : GroundInst) (kind : JumpKind) (j n : Mode) → All (Follows q kind inst.next) (nexts_of m q inst kind j n)
follows-nexts m q inst kind j n =
    let P : Next → Type 0 = Follows q kind inst.next in
    let way : Bool → Bool → Bool → List Next = λ b x y. next_if b (course m q inst.next kind x y) in
    let each : (b x y : Bool) → All P (way b x y) = λ b x y. all-if P b (course m q inst.next kind x y) (follows-course m q.pc q.slot inst.next kind x y) in
    let stay = possible j false in
    let jump = possible j true in
    let keep = possible n false in
    let pass = possible n true in
    let first = way (stay && keep) false false in
    let second = way (stay && pass) false true in
    let third = way (jump && keep) true false in
    let fourth = way (jump && pass) true true in
    All-append P (first ++ second ++ third) fourth
    (All-append P (first ++ second) third (All-append P first second (each (stay && keep) false false) (each (stay && pass) false true)) (each (jump && keep) true false))
    (each (jump && pass) true true)

-- what may come behind a point with this block
abbrev FollowsBlock : Point → Block → Next → Type 0
FollowsBlock q Block.Outside n = ⊥
FollowsBlock q Block.Illegal n = ⊥
FollowsBlock q (Block.Inst inst kind) n = Follows q kind inst.next n

follows-after : (m : Machine) (q : Point) (block : Block) → All (FollowsBlock q block) (after m q block)
follows-after m q Block.Outside = All-nil (λ n. ⊥)
follows-after m q Block.Illegal = All-nil (λ n. ⊥)
follows-after m q (Block.Inst inst kind) = by (halts inst.transfers)
  where
    by : (b : Bool) → All (Follows q kind inst.next) (if b then [] else once (nexts_of m q inst kind (jump_mode inst.transfers) (annul_mode inst.transfers)))
    by true = All-nil (Follows q kind inst.next)
    by false = all-once (Follows q kind inst.next) _ (follows-nexts m q inst kind (jump_mode inst.transfers) (annul_mode inst.transfers))

-- ---- tables are looked up by their jumps alone

computed-block : (q : Point) (block : Block) (a : ℕ) → FollowsBlock q block (Next.Table a) → ((q ≡ point a Seq) × (is_computed block ≡ true)) ⊎ (q.slot ≡ Dyn a)
computed-block q Block.Outside a h = absurd h
computed-block q Block.Illegal a h = absurd h
computed-block q (Block.Inst inst kind) a (inl h) = inl (h.0, ap (λ k. is_computed (Block.Inst inst k)) h.1)
computed-block q (Block.Inst inst kind) a (inr e) = inr e

waits-block : (q p : Point) (block : Block) (a : ℕ) → FollowsBlock q block (Next.Goes p) → p.slot ≡ Dyn a → (q ≡ point a Seq) × (is_computed block ≡ true)
waits-block q p Block.Outside a h e = absurd h
waits-block q p Block.Illegal a h e = absurd h
waits-block q p (Block.Inst inst kind) a h e = let r = h a e in (r.0.0, ap (λ k. is_computed (Block.Inst inst k)) r.0.1)

module _ (setting : Setting) (table : ℕ → List ℕ) where
  abbrev code : Code
  code = code_of setting table

  followed : (q : Point) (n : Next) → Contains (nexts code q) n → FollowsBlock q (block_at setting q.pc) n
  followed q n c = All-contains (FollowsBlock q (block_at setting q.pc)) (nexts code q) n (follows-after setting.machine q (block_at setting q.pc)) c

  at-jump : (q : Point) (a : ℕ) → (q ≡ point a Seq) × (is_computed (block_at setting q.pc) ≡ true) → JumpsAt code q a
  at-jump q a h = (h.0, subst (λ (p : Point). is_computed (block_at setting p.pc) ≡ true) h.0 h.1)

  looked-up : (q : Point) (a : ℕ) → ((q ≡ point a Seq) × (is_computed (block_at setting q.pc) ≡ true)) ⊎ (q.slot ≡ Dyn a) → JumpsAt code q a ⊎ (q.slot ≡ Dyn a)
  looked-up q a (inl h) = inl (at-jump q a h)
  looked-up q a (inr e) = inr e

  is-control : IsControl code
  is-control = record {
    looked_up = λ q a c. looked-up q a (computed-block q (block_at setting q.pc) a (followed q (Next.Table a) c));
    delayed = λ q p a c e. at-jump q a (waits-block q p (block_at setting q.pc) a (followed q (Next.Goes p) c) e);
  }

  -- ---- and no jump waits where it stands

  module _ (sound : IsSoundEncodings setting.encodings) where
    behind-block : (q p : Point) (stands : Standing) → standing setting q.pc ≡ stands → FollowsBlock q (block_of setting stands) (Next.Goes p) → p.slot ≢ Dyn p.pc
    behind-block q p Outside is h e = h
    behind-block q p Illegal is h e = h
    behind-block q p (Stands inst) is h e =
        let r = h p.pc e in
        let at : q.pc ≡ p.pc = ap (λ (x : Point). x.pc) r.0.0 in
        (next_is_behind setting q.pc inst sound is).1.0 (sym r.1 ∙ sym at)

    goes-on : (q p : Point) → Contains (nexts code q) (Next.Goes p) → p.slot ≢ Dyn p.pc
    unfolding block_at
    goes-on q p c = behind-block q p (standing setting q.pc) refl (followed q (Next.Goes p) c)

    leads-on : (q p : Point) → LeadsTo code q p → p.slot ≢ Dyn p.pc
    leads-on q p (goes c) = goes-on q p c
    leads-on q p (jumps c t) = λ e. cc
    leads-on q p (back c) = λ e. cc
    leads-on q p (past c s) = λ e. cc

    in-body : (entry : ℕ) (p : Point) → Body code entry p → p.slot ≢ Dyn p.pc
    in-body entry p first = λ e. cc
    in-body entry p (next b l) = leads-on _ p l

pub code_is_control : CodeIsControl
code_is_control setting table = is-control setting table

pub no_jump_waits_for_itself : NoJumpWaitsForItself
no_jump_waits_for_itself setting table entry p sound b = in-body setting table sound entry p b
