-- The jumps that arrive at a point: the one that is to come there, and the one that its step can make arrive at once.
use Rattle.std.proofs.Common.{◌≡◌, ℕ, Bool, true, false, true≢false, List, [], ◌∷◌, ◌++◌, Option, Some, None, refl, sym, ◌∙◌, ap, subst, inl, inr, rules}
use Rattle.std.specs.Prelude.{◌⊎◌, ◌&&◌, ◌||◌, not, is_some, if◌then◌else◌}
use Rattle.std.specs.List.{Contains, list_any}
use Rattle.std.proofs.lemmas.List.Elements.{Contains-append_left, Contains-append_right, Contains-append_cases}
use Rattle.rtl_core.specs.declared.inst.GroundInst.{GroundInst}
use Rattle.rtl_core.specs.declared.machine.Machine.{Machine}
use Rattle.rtl_core.specs.declared.point.Point.{Point}
use Rattle.rtl_core.specs.declared.point.Slot.{Slot}
use Rattle.rtl_core.specs.declared.point.Slot.TheVariants.{Seq, To, Dyn, CallTo, CallDyn, Ret}
use Rattle.rtl_core.specs.declared.transfer.Act.{Act}
use Rattle.rtl_core.specs.declared.transfer.Transfer.{Transfer}
use Rattle.rtl_core.specs.SoundTerms.{is_jump, is_annul}
use Rattle.points.specs.declared.block.Block.{Block}
use Rattle.points.specs.declared.block.Course.{Course}
use Rattle.points.specs.declared.block.JumpKind.{JumpKind}
use Rattle.points.specs.declared.block.Mode.{Mode}
use Rattle.points.specs.declared.block.Next.{Next}
use Rattle.points.specs.contracts.block.NextPartialEq.TheImpl as next_equality
use Rattle.points.specs.Courses.{point, pending, course_by, course_from_seq, course_from_jump, course_from_slot, course_to, does_always, mode_of, jump_mode, annul_mode, possible, halts, arrival_next, course_next, next_if, nexts_of, all_but, once, after}
use Rattle.points.specs.Flows.{is_computed, is_computed_kind}
use Rattle.params.specs.Parts.{can_arrive, jump_from}
use Rattle.params.proofs.Members.{none-in, first-in, later-in, only-in, split-in}

-- ---- each once

abbrev equals : Next → Next → Bool
equals = next_equality.eq-value.it

equals-is : (n o : Next) → equals n o ≡ true → n ≡ o
equals-is n o h = search rules

but-within : (x n : Next) (os : List Next) → Contains (all_but x os) n → Contains os n
but-within x n [] h = h
but-within x n (o ∷ os) h = by (equals x o) (but-within x n os) h
  where
    by : (b : Bool) → (Contains (all_but x os) n → Contains os n) → Contains (if b then all_but x os else o ∷ all_but x os) n → Contains (o ∷ os) n
    by true more h = later-in o n os (more h)
    by false more h = elim (split-in o n (all_but x os) h) [ inl e ↦ subst (Contains (o ∷ os)) e (first-in o os) | inr r ↦ later-in o n os (more r) ]

but-keeps : (x n : Next) (os : List Next) → equals x n ≡ false → Contains os n → Contains (all_but x os) n
but-keeps x n [] f h = h
but-keeps x n (o ∷ os) f h = by (equals x o) refl (but-keeps x n os f) (split-in o n os h)
  where
    by : (b : Bool) → equals x o ≡ b → (Contains os n → Contains (all_but x os) n) → (o ≡ n) ⊎ Contains os n → Contains (if b then all_but x os else o ∷ all_but x os) n
    by true e more (inl s) = absurd (true≢false (sym e ∙ ap (equals x) s ∙ f))
    by true e more (inr r) = more r
    by false e more (inl s) = subst (Contains (o ∷ all_but x os)) s (first-in o (all_but x os))
    by false e more (inr r) = later-in o n (all_but x os) (more r)

once-within : (xs : List Next) (n : Next) → Contains (once xs) n → Contains xs n
once-within [] n h = h
once-within (x ∷ xs) n h = by (once-within xs n) (split-in x n (all_but x (once xs)) h)
  where
    by : (Contains (once xs) n → Contains xs n) → (x ≡ n) ⊎ Contains (all_but x (once xs)) n → Contains (x ∷ xs) n
    by more (inl e) = subst (Contains (x ∷ xs)) e (first-in x xs)
    by more (inr r) = later-in x n xs (more (but-within x n (once xs) r))

once-keeps : (xs : List Next) (n : Next) → Contains xs n → Contains (once xs) n
once-keeps [] n h = h
once-keeps (x ∷ xs) n h = by (once-keeps xs n) (split-in x n xs h) (equals x n) refl
  where
    here : x ≡ n → Contains (once (x ∷ xs)) n
    here e = subst (Contains (once (x ∷ xs))) e (first-in x (all_but x (once xs)))

    by : (Contains xs n → Contains (once xs) n) → (x ≡ n) ⊎ Contains xs n → (b : Bool) → equals x n ≡ b → Contains (once (x ∷ xs)) n
    by more (inl e) b q = here e
    by more (inr r) true q = here (equals-is x n q)
    by more (inr r) false q = later-in x n (all_but x (once xs)) (but-keeps x n (once xs) q (more r))

-- ---- how a step can come out

pub both : (a b : Bool) → (a && b) ≡ true → (a ≡ true) × (b ≡ true)
both true b h = (refl, h)
both false b h = absurd (true≢false (sym h))

or-right : (a b : Bool) → b ≡ true → (a || b) ≡ true
or-right true b h = refl
or-right false b h = h

always-some : (k : Act → Bool) (ts : List Transfer) → list_any (does_always k) ts ≡ true → list_any (λ t. k t.act) ts ≡ true
always-some k [] h = h
always-some k (t ∷ ts) h = by (does_always k t) refl (always-some k ts) h
  where
    by : (b : Bool) → does_always k t ≡ b → (list_any (does_always k) ts ≡ true → list_any (λ t. k t.act) ts ≡ true) → (b || list_any (does_always k) ts) ≡ true → (k t.act || list_any (λ t. k t.act) ts) ≡ true
    by true e more h = ap (λ b. b || list_any (λ t. k t.act) ts) (both (not (is_some t.guard)) (k t.act) e).1
    by false e more h = or-right (k t.act) (list_any (λ t. k t.act) ts) (more h)

some-if-possible : (k : Act → Bool) (ts : List Transfer) → possible (mode_of k ts) true ≡ true → list_any (λ t. k t.act) ts ≡ true
some-if-possible k ts h = by (list_any (does_always k) ts) (list_any (λ t. k t.act) ts) refl refl h
  where
    by : (a b : Bool) → list_any (does_always k) ts ≡ a → list_any (λ t. k t.act) ts ≡ b → possible (if a then Mode.Always else if b then Mode.Maybe else Mode.Never) true ≡ true → list_any (λ t. k t.act) ts ≡ true
    by true b e f h = always-some k ts e
    by false true e f h = f
    by false false e f h = absurd (true≢false (sym h))

possible-if-some : (k : Act → Bool) (ts : List Transfer) → list_any (λ t. k t.act) ts ≡ true → possible (mode_of k ts) true ≡ true
possible-if-some k ts h = by (list_any (does_always k) ts) (list_any (λ t. k t.act) ts) h
  where
    by : (a b : Bool) → b ≡ true → possible (if a then Mode.Always else if b then Mode.Maybe else Mode.Never) true ≡ true
    by true b e = refl
    by false true e = refl
    by false false e = absurd (true≢false (sym e))

not-false-is : (b : Bool) → not b ≡ true → b ≡ false
not-false-is true h = absurd (true≢false (sym h))
not-false-is false h = refl

either-possible : (mode : Mode) → (possible mode false ≡ true) ⊎ (possible mode true ≡ true)
either-possible Mode.Never = inl refl
either-possible Mode.Maybe = inl refl
either-possible Mode.Always = inr refl

-- a step that leads on so
record Came (m : Machine) (pc : ℕ) (slot : Slot) (inst : GroundInst) (kind : JumpKind) (n : Next) : Type 0 where
  jumps : Bool
  annuls : Bool
  can_jump : possible (jump_mode inst.transfers) jumps ≡ true
  can_annul : possible (annul_mode inst.transfers) annuls ≡ true
  on : halts inst.transfers ≡ false
  is : course_next (course_by m pc slot inst.next kind jumps annuls) ≡ n

in-if : (b : Bool) (c : Course) (n : Next) → Contains (next_if b c) n → (b ≡ true) × (course_next c ≡ n)
in-if false c n h = none-in n h
in-if true c n h = (refl, only-in (course_next c) n h)

module _ (m : Machine) (pc : ℕ) (slot : Slot) (inst : GroundInst) (kind : JumpKind) where
  abbrev way : Bool → Bool → List Next
  way j a = next_if (possible (jump_mode inst.transfers) j && possible (annul_mode inst.transfers) a) (course_by m pc slot inst.next kind j a)

  came-by : (j a : Bool) (n : Next) → halts inst.transfers ≡ false → Contains (way j a) n → Came m pc slot inst kind n
  came-by j a n on h =
      let i = in-if (possible (jump_mode inst.transfers) j && possible (annul_mode inst.transfers) a) (course_by m pc slot inst.next kind j a) n h in
      let b = both (possible (jump_mode inst.transfers) j) (possible (annul_mode inst.transfers) a) i.0 in
      record { jumps = j; annuls = a; can_jump = b.0; can_annul = b.1; on = on; is = i.1 }

  came-of : (n : Next) → halts inst.transfers ≡ false → Contains (((way false false ++ way false true) ++ way true false) ++ way true true) n → Came m pc slot inst kind n
  came-of n on h = elim (Contains-append_cases ((way false false ++ way false true) ++ way true false) (way true true) n h) [
    | inr d ↦ came-by true true n on d
    | inl b ↦ elim (Contains-append_cases (way false false ++ way false true) (way true false) n b) [
      | inr c ↦ came-by true false n on c
      | inl a ↦ elim (Contains-append_cases (way false false) (way false true) n a) [ inl x ↦ came-by false false n on x | inr y ↦ came-by false true n on y ]
    ]
  ]

  came : (n : Next) → Contains (after m (point pc slot) (Block.Inst inst kind)) n → Came m pc slot inst kind n
  came n h = by (halts inst.transfers) refl h
    where
      by : (b : Bool) → halts inst.transfers ≡ b → Contains (if b then [] else once (nexts_of m (point pc slot) inst kind (jump_mode inst.transfers) (annul_mode inst.transfers))) n → Came m pc slot inst kind n
      by true e h = none-in n h
      by false e h = came-of n e (once-within _ n h)

  to-way : (j a : Bool) (n : Next) → possible (jump_mode inst.transfers) j ≡ true → possible (annul_mode inst.transfers) a ≡ true → course_next (course_by m pc slot inst.next kind j a) ≡ n → Contains (way j a) n
  to-way j a n cj ca e = subst (λ b. Contains (next_if b (course_by m pc slot inst.next kind j a)) n) (sym (ap (λ b. b && possible (annul_mode inst.transfers) a) cj ∙ ca))
      (subst (Contains (course_next (course_by m pc slot inst.next kind j a) ∷ [])) e (first-in (course_next (course_by m pc slot inst.next kind j a)) []))

  -- where it jumps, it can lead on so
  to-after : (a : Bool) (n : Next) → halts inst.transfers ≡ false → possible (jump_mode inst.transfers) true ≡ true → possible (annul_mode inst.transfers) a ≡ true → course_next (course_by m pc slot inst.next kind true a) ≡ n
      → Contains (after m (point pc slot) (Block.Inst inst kind)) n
  to-after a n on cj ca e = subst (λ b. Contains (if b then [] else once (nexts_of m (point pc slot) inst kind (jump_mode inst.transfers) (annul_mode inst.transfers))) n) (sym on)
      (once-keeps _ n (by a ca e))
    where
      by : (a : Bool) → possible (annul_mode inst.transfers) a ≡ true → course_next (course_by m pc slot inst.next kind true a) ≡ n → Contains (((way false false ++ way false true) ++ way true false) ++ way true true) n
      by false ca e = Contains-append_left ((way false false ++ way false true) ++ way true false) (way true true) n (Contains-append_right (way false false ++ way false true) (way true false) n (to-way true false n cj ca e))
      by true ca e = Contains-append_right ((way false false ++ way false true) ++ way true false) (way true true) n (to-way true true n cj ca e)

-- ---- what enters procedures

abbrev pub is_entry : Next → Bool
is_entry (Next.Calls t back) = true
is_entry (Next.CallsAny back) = true
is_entry (Next.Table a) = true
is_entry _ = false

no-goes : {A : Type 0} (q : Point) (n : Next) → Next.Goes q ≡ n → is_entry n ≡ true → A
no-goes q n e h = absurd (true≢false (sym h ∙ ap is_entry (sym e)))

no-couples : {A : Type 0} (n : Next) → Next.Couples ≡ n → is_entry n ≡ true → A
no-couples n e h = absurd (true≢false (sym h ∙ ap is_entry (sym e)))

arrive-none : (ts : List Transfer) → halts ts ≡ false → list_any (λ t. is_jump t.act) ts ≡ true → can_arrive None ts ≡ true
arrive-none ts on j = by (halts ts) (list_any (λ t. is_jump t.act) ts) on j
  where
    by : (h b : Bool) → h ≡ false → b ≡ true → (not h && (b && (true || list_any (λ t. is_annul t.act) ts))) ≡ true
    by true b e f = absurd (true≢false e)
    by false true e f = refl
    by false false e f = absurd (true≢false (sym f))

arrive-some : (d : ℕ) (ts : List Transfer) → halts ts ≡ false → list_any (λ t. is_jump t.act) ts ≡ true → list_any (λ t. is_annul t.act) ts ≡ true → can_arrive (Some d) ts ≡ true
arrive-some d ts on j a = by (halts ts) (list_any (λ t. is_jump t.act) ts) (list_any (λ t. is_annul t.act) ts) on j a
  where
    by : (h b c : Bool) → h ≡ false → b ≡ true → c ≡ true → (not h && (b && (false || c))) ≡ true
    by true b c e f g = absurd (true≢false e)
    by false true true e f g = refl
    by false true false e f g = absurd (true≢false (sym g))
    by false false c e f g = absurd (true≢false (sym f))

module _ (m : Machine) (pc : ℕ) (inst : GroundInst) (kind : JumpKind) (n : Next) (entry : is_entry n ≡ true) (on : halts inst.transfers ≡ false) where
  abbrev Arrives : Option ℕ → Slot → Type 0
  Arrives delay slot = (arrival_next slot ≡ n) ⊎ (arrival_next (jump_from delay pc slot (Block.Inst inst kind)) ≡ n)

  at-once : (delay : Option ℕ) → can_arrive delay inst.transfers ≡ true → arrival_next (pending pc kind) ≡ n → Arrives delay Seq
  at-once delay can e = inr (ap (λ b. arrival_next (if b then pending pc kind else Seq)) can ∙ e)

  from-seq : (delay : Option ℕ) (j a : Bool) → possible (jump_mode inst.transfers) j ≡ true → possible (annul_mode inst.transfers) a ≡ true → course_next (course_from_seq delay inst.next (pending pc kind) j a) ≡ n → Arrives delay Seq
  from-seq None false a cj ca e = no-goes _ n e entry
  from-seq None true a cj ca e = at-once None (arrive-none inst.transfers on (some-if-possible is_jump inst.transfers cj)) e
  from-seq (Some d) false false cj ca e = no-goes _ n e entry
  from-seq (Some d) false true cj ca e = no-goes _ n e entry
  from-seq (Some d) true false cj ca e = no-goes _ n e entry
  from-seq (Some d) true true cj ca e = at-once (Some d) (arrive-some d inst.transfers on (some-if-possible is_jump inst.transfers cj) (some-if-possible is_annul inst.transfers ca)) e

  no-to : {A : Type 0} (delay : Option ℕ) (t : ℕ) (a : Bool) → course_next (course_to delay t a) ≡ n → A
  no-to delay t false e = no-goes _ n e entry
  no-to delay t true e = no-goes _ n e entry

  no-jump : {A : Type 0} (delay : Option ℕ) (t : ℕ) (k : JumpKind) (j a : Bool) → course_next (course_from_jump delay t k j a) ≡ n → A
  no-jump delay t (JumpKind.To u) false a e = no-to delay t a e
  no-jump delay t (JumpKind.To u) true false e = no-goes _ n e entry
  no-jump delay t (JumpKind.To u) true true e = no-goes _ n e entry
  no-jump delay t JumpKind.Never false a e = no-to delay t a e
  no-jump delay t JumpKind.Never true a e = no-couples n e entry
  no-jump delay t JumpKind.Dyn false a e = no-to delay t a e
  no-jump delay t JumpKind.Dyn true a e = no-couples n e entry
  no-jump delay t (JumpKind.CallTo u back) false a e = no-to delay t a e
  no-jump delay t (JumpKind.CallTo u back) true a e = no-couples n e entry
  no-jump delay t (JumpKind.CallDyn back) false a e = no-to delay t a e
  no-jump delay t (JumpKind.CallDyn back) true a e = no-couples n e entry
  no-jump delay t JumpKind.Ret false a e = no-to delay t a e
  no-jump delay t JumpKind.Ret true a e = no-couples n e entry

  from-other : (slot : Slot) (j a : Bool) → course_next (course_from_slot slot j a) ≡ n → arrival_next slot ≡ n
  from-other slot true a e = no-couples n e entry
  from-other slot false true e = no-couples n e entry
  from-other slot false false e = e

  entry-of : (slot : Slot) (j a : Bool) → possible (jump_mode inst.transfers) j ≡ true → possible (annul_mode inst.transfers) a ≡ true → course_next (course_by m pc slot inst.next kind j a) ≡ n → Arrives m.delay slot
  entry-of Seq j a cj ca e = from-seq m.delay j a cj ca e
  entry-of (To t) j a cj ca e = no-jump m.delay t kind j a e
  entry-of (Dyn b) j a cj ca e = inl (from-other (Dyn b) j a e)
  entry-of (CallTo t back) j a cj ca e = inl (from-other (CallTo t back) j a e)
  entry-of (CallDyn back) j a cj ca e = inl (from-other (CallDyn back) j a e)
  entry-of Ret j a cj ca e = inl (from-other Ret j a e)

-- what a step enters arrives from its slot, or from a jump at once
pub arrives : (m : Machine) (pc : ℕ) (slot : Slot) (block : Block) (n : Next) → is_entry n ≡ true → Contains (after m (point pc slot) block) n → (arrival_next slot ≡ n) ⊎ (arrival_next (jump_from m.delay pc slot block) ≡ n)
arrives m pc slot Block.Outside n entry h = none-in n h
arrives m pc slot Block.Illegal n entry h = none-in n h
arrives m pc slot (Block.Inst inst kind) n entry h = let c = came m pc slot inst kind n h in entry-of m pc inst kind n entry c.on slot c.jumps c.annuls c.can_jump c.can_annul c.is

module _ (m : Machine) (pc : ℕ) (inst : GroundInst) (kind : JumpKind) (n : Next) (e : arrival_next (pending pc kind) ≡ n) where
  seq-by : (delay : Option ℕ) → m.delay ≡ delay → can_arrive delay inst.transfers ≡ true → Contains (after m (point pc Seq) (Block.Inst inst kind)) n
  seq-by None d can =
      let on = not-false-is (halts inst.transfers) (both (not (halts inst.transfers)) _ can).0 in
      let j = possible-if-some is_jump inst.transfers (both (list_any (λ t. is_jump t.act) inst.transfers) _ (both (not (halts inst.transfers)) _ can).1).0 in
      elim (either-possible (annul_mode inst.transfers)) [
        | inl a ↦ to-after m pc Seq inst kind false n on j a (ap (λ o. course_next (course_from_seq o inst.next (pending pc kind) true false)) d ∙ e)
        | inr a ↦ to-after m pc Seq inst kind true n on j a (ap (λ o. course_next (course_from_seq o inst.next (pending pc kind) true true)) d ∙ e)
      ]
  seq-by (Some x) d can =
      let on = not-false-is (halts inst.transfers) (both (not (halts inst.transfers)) _ can).0 in
      let r = both (list_any (λ t. is_jump t.act) inst.transfers) _ (both (not (halts inst.transfers)) _ can).1 in
      to-after m pc Seq inst kind true n on (possible-if-some is_jump inst.transfers r.0) (possible-if-some is_annul inst.transfers r.1)
      (ap (λ o. course_next (course_from_seq o inst.next (pending pc kind) true true)) d ∙ e)

-- a jump that arrives at once is among what the step can do
pub arrives-at-once : (m : Machine) (pc : ℕ) (slot : Slot) (block : Block) (n : Next) → is_entry n ≡ true → arrival_next (jump_from m.delay pc slot block) ≡ n → Contains (after m (point pc slot) block) n
arrives-at-once m pc Seq (Block.Inst inst kind) n entry e = by (can_arrive m.delay inst.transfers) refl e
  where
    by : (b : Bool) → can_arrive m.delay inst.transfers ≡ b → arrival_next (if b then pending pc kind else Seq) ≡ n → Contains (after m (point pc Seq) (Block.Inst inst kind)) n
    by true can e = seq-by m pc inst kind n e m.delay refl can
    by false can e = no-couples n e entry
arrives-at-once m pc Seq Block.Outside n entry e = no-couples n e entry
arrives-at-once m pc Seq Block.Illegal n entry e = no-couples n e entry
arrives-at-once m pc (To t) block n entry e = no-couples n e entry
arrives-at-once m pc (Dyn a) block n entry e = no-couples n e entry
arrives-at-once m pc (CallTo t back) block n entry e = no-couples n e entry
arrives-at-once m pc (CallDyn back) block n entry e = no-couples n e entry
arrives-at-once m pc Ret block n entry e = no-couples n e entry

-- ---- where tables are looked up

abbrev next_slot : Next → Slot
next_slot (Next.Goes q) = q.slot
next_slot _ = Seq

arrived-slot : (slot : Slot) → next_slot (arrival_next slot) ≡ Seq
arrived-slot Seq = refl
arrived-slot (To t) = refl
arrived-slot (Dyn a) = refl
arrived-slot (CallTo t back) = refl
arrived-slot (CallDyn back) = refl
arrived-slot Ret = refl

no-dyn : {A : Type 0} (a : ℕ) → Seq ≡ Dyn a → A
no-dyn a e = absurd (let n : Seq ≡ Dyn a = e in cc)

pending-dyn : (pc a : ℕ) (kind : JumpKind) → pending pc kind ≡ Dyn a → (pc ≡ a) × (is_computed_kind kind ≡ true)
pending-dyn pc a JumpKind.Dyn e = ((let s : Dyn pc ≡ Dyn a = e in cc), refl)
pending-dyn pc a JumpKind.Never e = no-dyn a e
pending-dyn pc a (JumpKind.To t) e = absurd (let n : To t ≡ Dyn a = e in cc)
pending-dyn pc a (JumpKind.CallTo t back) e = absurd (let n : CallTo t back ≡ Dyn a = e in cc)
pending-dyn pc a (JumpKind.CallDyn back) e = absurd (let n : CallDyn back ≡ Dyn a = e in cc)
pending-dyn pc a JumpKind.Ret e = absurd (let n : Ret ≡ Dyn a = e in cc)

-- a slot whose arrival looks up a table
pub table-slot : (slot : Slot) (a : ℕ) → arrival_next slot ≡ Next.Table a → slot ≡ Dyn a
table-slot (Dyn b) a e = (let s : Next.Table b ≡ Next.Table a = e in cc)
table-slot Seq a e = absurd (let n : Next.Couples ≡ Next.Table a = e in cc)
table-slot (To t) a e = absurd (let n : Next.Goes (point t Seq) ≡ Next.Table a = e in cc)
table-slot (CallTo t back) a e = absurd (let n : Next.Calls t back ≡ Next.Table a = e in cc)
table-slot (CallDyn back) a e = absurd (let n : Next.CallsAny back ≡ Next.Table a = e in cc)
table-slot Ret a e = absurd (let n : Next.Returns ≡ Next.Table a = e in cc)

-- where a jump at an address comes to be looked up
pub record IsAt (pc : ℕ) (slot : Slot) (block : Block) (a : ℕ) : Type 0 where
  pub here : pc ≡ a
  pub none : slot ≡ Seq
  pub computed : is_computed block ≡ true

pub at-once-is : (delay : Option ℕ) (pc : ℕ) (slot : Slot) (block : Block) (a : ℕ) → jump_from delay pc slot block ≡ Dyn a → IsAt pc slot block a
at-once-is delay pc Seq (Block.Inst inst kind) a e = by (can_arrive delay inst.transfers) e
  where
    by : (b : Bool) → (if b then pending pc kind else Seq) ≡ Dyn a → IsAt pc Seq (Block.Inst inst kind) a
    by true e = let d = pending-dyn pc a kind e in record { here = d.0; none = refl; computed = d.1 }
    by false e = no-dyn a e
at-once-is delay pc Seq Block.Outside a e = no-dyn a e
at-once-is delay pc Seq Block.Illegal a e = no-dyn a e
at-once-is delay pc (To t) block a e = no-dyn a e
at-once-is delay pc (Dyn b) block a e = no-dyn a e
at-once-is delay pc (CallTo t back) block a e = no-dyn a e
at-once-is delay pc (CallDyn back) block a e = no-dyn a e
at-once-is delay pc Ret block a e = no-dyn a e

module _ (pc a : ℕ) (inst : GroundInst) (kind : JumpKind) where
  abbrev Is : Slot → Type 0
  Is slot = IsAt pc slot (Block.Inst inst kind) a

  slot-seq : (delay : Option ℕ) (j n : Bool) → next_slot (course_next (course_from_seq delay inst.next (pending pc kind) j n)) ≡ Dyn a → Is Seq
  slot-seq None false n e = no-dyn a e
  slot-seq None true n e = no-dyn a (sym (arrived-slot (pending pc kind)) ∙ e)
  slot-seq (Some d) false false e = no-dyn a e
  slot-seq (Some d) false true e = no-dyn a e
  slot-seq (Some d) true false e = let p = pending-dyn pc a kind e in record { here = p.0; none = refl; computed = p.1 }
  slot-seq (Some d) true true e = no-dyn a (sym (arrived-slot (pending pc kind)) ∙ e)

  no-to-dyn : {A : Type 0} (delay : Option ℕ) (t : ℕ) (n : Bool) → next_slot (course_next (course_to delay t n)) ≡ Dyn a → A
  no-to-dyn delay t false e = no-dyn a e
  no-to-dyn delay t true e = no-dyn a e

  no-jump-dyn : {A : Type 0} (delay : Option ℕ) (t : ℕ) (k : JumpKind) (j n : Bool) → next_slot (course_next (course_from_jump delay t k j n)) ≡ Dyn a → A
  no-jump-dyn delay t (JumpKind.To u) false n e = no-to-dyn delay t n e
  no-jump-dyn delay t (JumpKind.To u) true false e = absurd (let s : To u ≡ Dyn a = e in cc)
  no-jump-dyn delay t (JumpKind.To u) true true e = no-dyn a e
  no-jump-dyn delay t JumpKind.Never false n e = no-to-dyn delay t n e
  no-jump-dyn delay t JumpKind.Never true n e = no-dyn a e
  no-jump-dyn delay t JumpKind.Dyn false n e = no-to-dyn delay t n e
  no-jump-dyn delay t JumpKind.Dyn true n e = no-dyn a e
  no-jump-dyn delay t (JumpKind.CallTo u back) false n e = no-to-dyn delay t n e
  no-jump-dyn delay t (JumpKind.CallTo u back) true n e = no-dyn a e
  no-jump-dyn delay t (JumpKind.CallDyn back) false n e = no-to-dyn delay t n e
  no-jump-dyn delay t (JumpKind.CallDyn back) true n e = no-dyn a e
  no-jump-dyn delay t JumpKind.Ret false n e = no-to-dyn delay t n e
  no-jump-dyn delay t JumpKind.Ret true n e = no-dyn a e

  no-slot-dyn : {A : Type 0} (slot : Slot) (j n : Bool) → next_slot (course_next (course_from_slot slot j n)) ≡ Dyn a → A
  no-slot-dyn slot true n e = no-dyn a e
  no-slot-dyn slot false true e = no-dyn a e
  no-slot-dyn slot false false e = no-dyn a (sym (arrived-slot slot) ∙ e)

  slot-by : (m : Machine) (slot : Slot) (j n : Bool) → next_slot (course_next (course_by m pc slot inst.next kind j n)) ≡ Dyn a → Is slot
  slot-by m Seq j n e = slot-seq m.delay j n e
  slot-by m (To t) j n e = no-jump-dyn m.delay t kind j n e
  slot-by m (Dyn b) j n e = no-slot-dyn (Dyn b) j n e
  slot-by m (CallTo t back) j n e = no-slot-dyn (CallTo t back) j n e
  slot-by m (CallDyn back) j n e = no-slot-dyn (CallDyn back) j n e
  slot-by m Ret j n e = no-slot-dyn Ret j n e

-- only a computed plain jump leads into its slot
pub leads-into : (m : Machine) (pc : ℕ) (slot : Slot) (block : Block) (q : Point) (a : ℕ) → Contains (after m (point pc slot) block) (Next.Goes q) → q.slot ≡ Dyn a → IsAt pc slot block a
leads-into m pc slot Block.Outside q a h e = none-in (Next.Goes q) h
leads-into m pc slot Block.Illegal q a h e = none-in (Next.Goes q) h
leads-into m pc slot (Block.Inst inst kind) q a h e = let c = came m pc slot inst kind (Next.Goes q) h in slot-by pc a inst kind m slot c.jumps c.annuls (ap next_slot c.is ∙ e)
