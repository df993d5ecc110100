-- What the lists of a graph hold, by the bodies of its procedures.
use Rattle.std.proofs.Common.{◌≡◌, ℕ, ◌<◌, Bool, true, false, true≢false, List, [], ◌∷◌, length, Some, refl, sym, ◌∙◌, ap, subst, arith, inl, inr, zero, suc, eqb-true, eq-eqb}
use Rattle.std.specs.Prelude.{◌⊎◌, ◌&&◌, ◌||◌, ◌==◌, map, slice_get}
use Rattle.std.specs.List.{Contains, flat_map, list_any}
use Rattle.std.specs.Option.{option_map}
use Rattle.std.proofs.lemmas.List.Elements.{All-contains}
use Rattle.std.proofs.lemmas.Option.{slice_get-map, slice_get_within, get_or_from_slice_get}
use Rattle.rtl_core.specs.declared.point.Point.{Point}
use Rattle.rtl_core.specs.declared.point.Slot.{Slot}
use Rattle.rtl_core.specs.declared.point.Slot.TheVariants.{Seq, To, Dyn, CallTo, CallDyn, Ret}
use Rattle.points.specs.declared.block.Next.{Next}
use Rattle.points.specs.declared.graph.Graph.{Graph}
use Rattle.points.specs.declared.graph.JumpTable.{JumpTable}
use Rattle.points.specs.declared.graph.Node.{Node}
use Rattle.points.specs.declared.graph.Proc.{Proc}
use Rattle.points.specs.Courses.{point, arrival_next}
use Rattle.points.specs.Bodies.{Code, code_of, nexts, arrivals, Enters, goes, jumps as leads_jumps, back, past, Body, first, next, Procedure}
use Rattle.points.specs.Flows.{is_computed}
use Rattle.points.specs.Graphs.{IsGraph, IsPlaceOf, IsProcedureOf, HasTable, points_of}
use Rattle.points.specs.Machine.{Setting}
use Rattle.points.specs.Summaries.{EntersAny, calls, jumps}
use Rattle.params.specs.declared.parts.Part.{Part}
use Rattle.params.specs.Parts.{jump_at_once, slots_at, entered_by, opens_by, is_empty, has_no_targets, node_part, part_if_any, place_part, place_opens, opens_if_any, proc_opens}
use Rattle.params.proofs.Members.{none-in, first-in, later-in, only-in, split-in, from-joined, to-joined, from-mapped, to-mapped}
use Rattle.params.proofs.Arriving.{is_entry, arrives, arrives-at-once, table-slot, IsAt, at-once-is, leads-into, both}

-- ---- lists

pub some-at : {X : Type 0} (xs : List X) (k : ℕ) → k < length xs → (x : X) × (slice_get xs k ≡ Some x)
some-at [] k lt = absurd (omega (arith, lt))
some-at (x ∷ xs) zero lt = (x, refl)
some-at (x ∷ xs) (suc k) lt = some-at xs k (omega (arith, lt))

pub in-at : {X : Type 0} (xs : List X) (k : ℕ) (x : X) → slice_get xs k ≡ Some x → Contains xs x
in-at xs k x e = (k, slice_get_within xs k x e, get_or_from_slice_get xs k x x e)

pub at-in : {X : Type 0} (xs : List X) (x : X) → Contains xs x → (k : ℕ) × (slice_get xs k ≡ Some x)
at-in xs x h = let s = some-at xs h.0 h.1 in (h.0, s.1 ∙ ap (λ y. Some y) (sym (get_or_from_slice_get xs h.0 s.0 x s.1) ∙ h.2))

pub from-any : {X : Type 0} (p : X → Bool) (xs : List X) → list_any p xs ≡ true → (x : X) × Contains xs x × (p x ≡ true)
from-any p [] h = absurd (true≢false (sym h))
from-any p (x ∷ xs) h = by (p x) refl (from-any p xs) h
  where
    by : (b : Bool) → p x ≡ b → (list_any p xs ≡ true → (y : _) × Contains xs y × (p y ≡ true)) → (b || list_any p xs) ≡ true → (y : _) × Contains (x ∷ xs) y × (p y ≡ true)
    by true e more h = (x, first-in x xs, e)
    by false e more h = let r = more h in (r.0, later-in x r.0 xs r.1, r.2)

pub to-any : {X : Type 0} (p : X → Bool) (xs : List X) (x : X) → Contains xs x → p x ≡ true → list_any p xs ≡ true
to-any p [] x c h = none-in x c
to-any p (y ∷ ys) x c h = by (p y) refl (λ r. to-any p ys x r h) (split-in y x ys c)
  where
    by : (b : Bool) → p y ≡ b → (Contains ys x → list_any p ys ≡ true) → (y ≡ x) ⊎ Contains ys x → (b || list_any p ys) ≡ true
    by true e more s = refl
    by false e more (inl s) = absurd (true≢false (sym h ∙ ap p (sym s) ∙ e))
    by false e more (inr r) = more r

-- ---- slots

call-slot : (slot : Slot) (t b : ℕ) → arrival_next slot ≡ Next.Calls t b → slot ≡ CallTo t b
call-slot (CallTo u r) t b e =
    let s : u ≡ t = (let n : Next.Calls u r ≡ Next.Calls t b = e in cc) in
    let q : r ≡ b = (let n : Next.Calls u r ≡ Next.Calls t b = e in cc) in
    λ i. CallTo (s i) (q i)
call-slot Seq t b e = absurd (let n : Next.Couples ≡ Next.Calls t b = e in cc)
call-slot (To u) t b e = absurd (let n : Next.Goes (point u Seq) ≡ Next.Calls t b = e in cc)
call-slot (Dyn a) t b e = absurd (let n : Next.Table a ≡ Next.Calls t b = e in cc)
call-slot (CallDyn r) t b e = absurd (let n : Next.CallsAny r ≡ Next.Calls t b = e in cc)
call-slot Ret t b e = absurd (let n : Next.Returns ≡ Next.Calls t b = e in cc)

any-slot : (slot : Slot) (b : ℕ) → arrival_next slot ≡ Next.CallsAny b → slot ≡ CallDyn b
any-slot (CallDyn r) b e = let q : r ≡ b = (let n : Next.CallsAny r ≡ Next.CallsAny b = e in cc) in ap CallDyn q
any-slot Seq b e = absurd (let n : Next.Couples ≡ Next.CallsAny b = e in cc)
any-slot (To u) b e = absurd (let n : Next.Goes (point u Seq) ≡ Next.CallsAny b = e in cc)
any-slot (Dyn a) b e = absurd (let n : Next.Table a ≡ Next.CallsAny b = e in cc)
any-slot (CallTo t r) b e = absurd (let n : Next.Calls t r ≡ Next.CallsAny b = e in cc)
any-slot Ret b e = absurd (let n : Next.Returns ≡ Next.CallsAny b = e in cc)

entered-slot : (slot : Slot) (t : ℕ) → Contains (entered_by slot) t → (b : ℕ) × (slot ≡ CallTo t b)
entered-slot (CallTo u b) t h = (b, ap (λ x. CallTo x b) (only-in u t h))
entered-slot Seq t h = none-in t h
entered-slot (To u) t h = none-in t h
entered-slot (Dyn a) t h = none-in t h
entered-slot (CallDyn b) t h = none-in t h
entered-slot Ret t h = none-in t h

module _ (setting : Setting) (table : ℕ → List ℕ) where
  abbrev pub code : Code
  code = code_of setting table

  abbrev pub node_at : Point → Node
  node_at b = record { point = b; block = code.block_at b.pc }

  abbrev pub slots : Point → List Slot
  slots b = slots_at setting.machine (node_at b)

  slot-arrives : (b : Point) (slot : Slot) → Contains (slots b) slot → is_entry (arrival_next slot) ≡ true → Contains (arrivals code b) (arrival_next slot)
  slot-arrives b slot h entry = elim (split-in b.slot slot (jump_at_once setting.machine b (code.block_at b.pc) ∷ []) h) [
    | inl e ↦ subst (λ s. Contains (arrivals code b) (arrival_next s)) e (first-in (arrival_next b.slot) (nexts code b))
    | inr r ↦ later-in (arrival_next b.slot) (arrival_next slot) (nexts code b)
        (arrives-at-once setting.machine b.pc b.slot (code.block_at b.pc) (arrival_next slot) entry (ap arrival_next (only-in (jump_at_once setting.machine b (code.block_at b.pc)) slot r)))
  ]

  arrival-slot : (b : Point) (n : Next) → is_entry n ≡ true → Contains (arrivals code b) n → (slot : Slot) × Contains (slots b) slot × (arrival_next slot ≡ n)
  arrival-slot b n entry h =
      let once = jump_at_once setting.machine b (code.block_at b.pc) in
      elim (split-in (arrival_next b.slot) n (nexts code b) h) [
        | inl e ↦ (b.slot, first-in b.slot (once ∷ []), e)
        | inr r ↦ elim (arrives setting.machine b.pc b.slot (code.block_at b.pc) n entry r) [
          | inl e ↦ (b.slot, first-in b.slot (once ∷ []), e)
          | inr e ↦ (once, later-in b.slot once (once ∷ []) (first-in once []), e)
        ]
      ]

  -- ---- calls

  pub to-enters : (b : Point) (t : ℕ) → Contains (flat_map entered_by (slots b)) t → Enters code b t
  to-enters b t h =
      let j = from-joined entered_by (slots b) t h in
      let s = entered-slot j.0 t j.2 in
      record { back = s.0; calls = subst (λ x. Contains (arrivals code b) (arrival_next x)) s.1 (slot-arrives b j.0 j.1 (ap (λ x. is_entry (arrival_next x)) s.1)) }

  pub from-enters : (b : Point) (t : ℕ) → Enters code b t → Contains (flat_map entered_by (slots b)) t
  from-enters b t e =
      let s = arrival-slot b (Next.Calls t e.back) refl e.calls in
      let c = call-slot s.0 t e.back s.2 in
      to-joined entered_by (slots b) s.0 t s.1 (subst (λ x. Contains (entered_by x) t) (sym c) (first-in t []))

  module _ (roots : List ℕ) (g : Graph) (is : IsGraph code roots g) where
    -- ---- tables

    of-slot : (entry a : ℕ) (q : Point) → Procedure code roots entry → Body code entry q → q.slot ≡ Dyn a → HasTable code roots a
    of-slot entry a q h first s = absurd (let n : Seq ≡ Dyn a = s in cc)
    of-slot entry a q h (next {p = p} b (goes c)) s =
        let d = leads-into setting.machine p.pc p.slot (code.block_at p.pc) q a c s in
        at-jump entry a p h b d
      where
        at-jump : (entry a : ℕ) (p : Point) → Procedure code roots entry → Body code entry p → IsAt p.pc p.slot (code.block_at p.pc) a → HasTable code roots a
        at-jump entry a p h b d = record {
          reached = record { entry = entry; procedure = h; body = subst (Body code entry) (λ i. record { pc = d.here i; slot = d.none i }) b };
          is = ap (λ x. is_computed (code.block_at x)) (sym d.here) ∙ d.computed;
        }
    of-slot entry a q h (next b (leads_jumps c t)) s = absurd (let n : Seq ≡ Dyn a = s in cc)
    of-slot entry a q h (next b (back c)) s = absurd (let n : Seq ≡ Dyn a = s in cc)
    of-slot entry a q h (next b (past c t)) s = absurd (let n : Seq ≡ Dyn a = s in cc)

    table-there : (entry a : ℕ) (b : Point) → Procedure code roots entry → Body code entry b → Contains (slots b) (Dyn a) → HasTable code roots a
    table-there entry a b h body c = elim (split-in b.slot (Dyn a) (jump_at_once setting.machine b (code.block_at b.pc) ∷ []) c) [
      | inl e ↦ of-slot entry a b h body e
      | inr r ↦ (
          let d = at-once-is setting.machine.delay b.pc b.slot (code.block_at b.pc) a (only-in (jump_at_once setting.machine b (code.block_at b.pc)) (Dyn a) r) in
          record {
            reached = record { entry = entry; procedure = h; body = subst (Body code entry) (λ i. record { pc = d.here i; slot = d.none i }) body };
            is = ap (λ x. is_computed (code.block_at x)) (sym d.here) ∙ d.computed;
          })
    ]

    empty-is : (xs : List ℕ) → is_empty xs ≡ true → xs ≡ []
    empty-is [] h = refl
    empty-is (x ∷ xs) h = absurd (true≢false (sym h))

    abbrev is_bare : ℕ → JumpTable → Bool
    is_bare a t = (a == t.at) && is_empty t.targets

    no-targets : (a : ℕ) → has_no_targets g.tables a ≡ true → code.table a ≡ []
    no-targets a h =
        let t = from-any (is_bare a) g.tables h in
        let s = both (a == t.0.at) (is_empty t.0.targets) t.2 in
        ap code.table (eqb-true a t.0.at s.0) ∙ sym (All-contains (λ (t : JumpTable). t.targets ≡ code.table t.at) g.tables t.0 is.targets t.1) ∙ empty-is t.0.targets s.1

    bare : (a : ℕ) → HasTable code roots a → code.table a ≡ [] → has_no_targets g.tables a ≡ true
    bare a h e =
        let m = from-mapped (λ (t : JumpTable). t.at) g.tables a (is.tables.whole a h) in
        let f : m.0.targets ≡ [] = All-contains (λ (t : JumpTable). t.targets ≡ code.table t.at) g.tables m.0 is.targets m.1 ∙ ap code.table m.2 ∙ e in
        to-any (is_bare a) g.tables m.0 m.1 (ap (λ b. b && is_empty m.0.targets) (eq-eqb a m.0.at (sym m.2)) ∙ ap is_empty f)

    -- ---- procedures that may enter any

    abbrev opens : Slot → Bool
    opens = opens_by (has_no_targets g.tables)

    to-enters-any : (b : Point) → list_any opens (slots b) ≡ true → EntersAny code b
    to-enters-any b h = let s = from-any opens (slots b) h in by s.0 s.1 s.2
      where
        by : (slot : Slot) → Contains (slots b) slot → opens slot ≡ true → EntersAny code b
        by (CallDyn r) c h = calls (slot-arrives b (CallDyn r) c refl)
        by (Dyn a) c h = jumps (slot-arrives b (Dyn a) c refl) (no-targets a h)
        by Seq c h = absurd (true≢false (sym h))
        by (To t) c h = absurd (true≢false (sym h))
        by (CallTo t r) c h = absurd (true≢false (sym h))
        by Ret c h = absurd (true≢false (sym h))

    from-enters-any : (entry : ℕ) (b : Point) → Procedure code roots entry → Body code entry b → EntersAny code b → list_any opens (slots b) ≡ true
    from-enters-any entry b h body (calls {back = r} c) =
        let s = arrival-slot b (Next.CallsAny r) refl c in
        to-any opens (slots b) s.0 s.1 (ap opens (any-slot s.0 r s.2))
    from-enters-any entry b h body (jumps {a = a} c e) =
        let s = arrival-slot b (Next.Table a) refl c in
        let d = table-slot s.0 a s.2 in
        to-any opens (slots b) s.0 s.1 (ap opens d ∙ bare a (table-there entry a b h body (subst (Contains (slots b)) d s.1)) e)

    -- ---- places

    -- the node at a place of a body
    pub record AtPlace (p : Proc) (k : ℕ) : Type 0 where
      pub node : Node
      pub there : slice_get g.nodes k ≡ Some node
      pub body : Body code p.entry node.point
      pub same : node ≡ node_at node.point

    pub procedure-at : (p : Proc) → Contains g.procs p → IsProcedureOf code (points_of g.nodes) p
    procedure-at p c = All-contains (IsProcedureOf code (points_of g.nodes)) g.procs p is.bodies c

    node-there : (entry k : ℕ) (p : Proc) → p.entry ≡ entry → IsPlaceOf code entry (points_of g.nodes) k → AtPlace p k
    node-there entry k p e h =
        let s = some-at (points_of g.nodes) k h.within in
        let n = some-at g.nodes k (within g.nodes k h.within) in
        let q : slice_get (points_of g.nodes) k ≡ Some n.0.point = slice_get-map (λ (n : Node). n.point) g.nodes k ∙ ap (option_map (λ (n : Node). n.point)) n.1 in
        let same : h.point ≡ n.0.point = sym h.is ∙ get_or_from_slice_get (points_of g.nodes) k n.0.point h.point q in
        let block = All-contains (λ (n : Node). n.block ≡ code.block_at n.point.pc) g.nodes n.0 is.blocks (in-at g.nodes k n.0 n.1) in
        record {
          node = n.0;
          there = n.1;
          body = subst (λ x. Body code x n.0.point) (sym e) (subst (Body code entry) same h.body);
          same = λ i. record { point = n.0.point; block = block i };
        }
      where
        within : (ns : List Node) (k : ℕ) → k < length (map (λ (n : Node). n.point) ns) → k < length ns
        within [] k lt = lt
        within (n ∷ ns) zero lt = omega arith
        within (n ∷ ns) (suc k) lt = let z = within ns k (omega (arith, lt)) in omega (arith, z)

    pub at-place : (p : Proc) (k : ℕ) → Contains g.procs p → Contains p.body k → AtPlace p k
    at-place p k c h = node-there p.entry k p refl (All-contains (IsPlaceOf code p.entry (points_of g.nodes)) p.body k (procedure-at p c).exactly.sound h)

    pub is-procedure : (p : Proc) → Contains g.procs p → Procedure code roots p.entry
    is-procedure p c = All-contains (Procedure code roots) (map (λ (q : Proc). q.entry) g.procs) p.entry is.procs.sound (to-mapped (λ (q : Proc). q.entry) g.procs p c)

    -- the place of a point of a body
    pub place-of : (p : Proc) (b : Point) → Contains g.procs p → Body code p.entry b → (k : ℕ) × Contains p.body k × (slice_get g.nodes k ≡ Some (node_at b))
    place-of p b c body =
        let h = is.nodes.whole b (record { entry = p.entry; procedure = is-procedure p c; body = body }) in
        let place : IsPlaceOf code p.entry (points_of g.nodes) h.0 = record { point = b; within = h.1; is = h.2; body = body } in
        let in_body = (procedure-at p c).exactly.whole h.0 place in
        let a = at-place p h.0 c in_body in
        let q : slice_get (points_of g.nodes) h.0 ≡ Some a.node.point = slice_get-map (λ (n : Node). n.point) g.nodes h.0 ∙ ap (option_map (λ (n : Node). n.point)) a.there in
        let same : a.node.point ≡ b = sym (get_or_from_slice_get (points_of g.nodes) h.0 a.node.point b q) ∙ h.2 in
        (h.0, in_body, a.there ∙ ap (λ x. Some x) (a.same ∙ ap node_at same))

    -- ---- parts

    pub from-part : (part : Part) (p : Proc) (x : ℕ) → Contains g.procs p → Contains (flat_map (place_part setting.machine setting.conv part g.nodes) p.body) x
        → (b : Point) × Body code p.entry b × Contains (node_part setting.machine setting.conv part (node_at b)) x
    from-part part p x c h =
        let j = from-joined (place_part setting.machine setting.conv part g.nodes) p.body x h in
        let a = at-place p j.0 c j.1 in
        (a.node.point, a.body, subst (λ n. Contains (node_part setting.machine setting.conv part n) x) a.same (subst (λ o. Contains (part_if_any setting.machine setting.conv part o) x) a.there j.2))

    pub to-part : (part : Part) (p : Proc) (b : Point) (x : ℕ) → Contains g.procs p → Body code p.entry b → Contains (node_part setting.machine setting.conv part (node_at b)) x
        → Contains (flat_map (place_part setting.machine setting.conv part g.nodes) p.body) x
    to-part part p b x c body h =
        let k = place-of p b c body in
        to-joined (place_part setting.machine setting.conv part g.nodes) p.body k.0 x k.1 (subst (λ o. Contains (part_if_any setting.machine setting.conv part o) x) (sym k.2) h)

    pub from-opens : (p : Proc) → Contains g.procs p → proc_opens setting.machine (has_no_targets g.tables) g.nodes p ≡ true → (b : Point) × Body code p.entry b × EntersAny code b
    from-opens p c h =
        let j = from-any (place_opens setting.machine (has_no_targets g.tables) g.nodes) p.body h in
        let a = at-place p j.0 c j.1 in
        (a.node.point, a.body, to-enters-any a.node.point (subst (λ n. list_any opens (slots_at setting.machine n) ≡ true) a.same (subst (λ o. opens_if_any setting.machine (has_no_targets g.tables) o ≡ true) a.there j.2)))

    pub to-opens : (p : Proc) (b : Point) → Contains g.procs p → Body code p.entry b → EntersAny code b → proc_opens setting.machine (has_no_targets g.tables) g.nodes p ≡ true
    to-opens p b c body e =
        let k = place-of p b c body in
        to-any (place_opens setting.machine (has_no_targets g.tables) g.nodes) p.body k.0 k.1
        (ap (opens_if_any setting.machine (has_no_targets g.tables)) k.2 ∙ from-enters-any p.entry b (is-procedure p c) body e)
