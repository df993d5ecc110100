-- The tables and the pads of the nodes are those of the program.
use Rattle.std.proofs.Common.{◌≡◌, ℕ, Bool, true, false, List, [], ◌∷◌, ◌++◌, Option, Some, None, refl, sym, ap, subst, true≢false, cond}
use Rattle.std.specs.Prelude.{◌&&◌, if◌then◌else◌, map, filter, is_some}
use Rattle.std.specs.List.{All, Contains, flat_map}
use Rattle.std.proofs.lemmas.List.Elements.{All-weaker, All-contains, All-contains_itself, All-nil, All-cons, All-append}
use Rattle.rtl_core.specs.declared.point.Point.{Point}
use Rattle.rtl_core.specs.declared.point.Slot.{Slot}
use Rattle.rtl_core.specs.declared.point.Slot.TheVariants.{Seq, To, Dyn, CallTo, CallDyn, Ret}
use Rattle.points.specs.declared.block.Block.{Block}
use Rattle.points.specs.declared.block.Next.{Next}
use Rattle.points.specs.declared.block.Next.TheVariants.{Goes, Table, Calls, CallsAny, Returns, Couples}
use Rattle.points.specs.declared.graph.Node.{Node}
use Rattle.points.specs.declared.graph.Pad.{Pad}
use Rattle.points.specs.Courses.{point}
use Rattle.points.specs.Exactly.{IsExactly}
use Rattle.points.specs.Bodies.{Code, arrivals, CallsBack, given, any, IsReached}
use Rattle.points.specs.Flows.{is_computed}
use Rattle.points.specs.Graphs.{HasTable, HasPad}
use Rattle.worklist.proofs.Members.{no_member, head_member, only_member, from_joined, into_joined, from_mapped, into_mapped}
use Rattle.discover.specs.Parts.{node_at, is_seq, jump_in, backs_in, backs_at, pad, pad_with, pads_in}
use Rattle.discover.proofs.Lists.{into_filtered, from_filtered}

-- ---- tables

is_jump : (q : Point) (b : Block) (a : ℕ) (x y : Bool) → is_seq q.slot ≡ x → is_computed b ≡ y → Contains (if x && y then q.pc ∷ [] else []) a → (is_seq q.slot ≡ true) × (is_computed b ≡ true) × (q.pc ≡ a)
is_jump q b a true true e f c = (e, f, only_member q.pc a c)
is_jump q b a true false e f c = absurd (no_member a c)
is_jump q b a false y e f c = absurd (no_member a c)

slot_is : (s : Slot) → is_seq s ≡ true → s ≡ Seq
slot_is Seq e = refl
slot_is (To t) e = absurd (true≢false (sym e))
slot_is (Dyn a) e = absurd (true≢false (sym e))
slot_is (CallTo t r) e = absurd (true≢false (sym e))
slot_is (CallDyn r) e = absurd (true≢false (sym e))
slot_is Ret e = absurd (true≢false (sym e))

module _ (code : Code) (roots : List ℕ) (ps : List Point) (exactly : IsExactly (IsReached code roots) ps) where
  abbrev nodes : List Node
  nodes = map (node_at code) ps

  jump_sound : (a : ℕ) → Contains (flat_map jump_in nodes) a → HasTable code roots a
  jump_sound a c =
      let j = from_joined jump_in nodes a c in
      let m = from_mapped (node_at code) ps j.0 j.1 in
      let q = m.0 in
      let h = is_jump q (code.block_at q.pc) a (is_seq q.slot) (is_computed (code.block_at q.pc)) refl refl (subst (λ (x : Node). Contains (jump_in x) a) (sym m.2) j.2) in
      let s = slot_is q.slot h.0 in
      let w : q ≡ point a Seq = λ i. record { pc = h.2 i; slot = s i } in
      record { reached = subst (IsReached code roots) w (All-contains (IsReached code roots) ps q exactly.sound m.1); is = subst (λ x. is_computed (code.block_at x) ≡ true) h.2 h.1 }

  jump_whole : (a : ℕ) → HasTable code roots a → Contains (flat_map jump_in nodes) a
  jump_whole a h =
      let node = into_mapped (node_at code) ps (point a Seq) (exactly.whole (point a Seq) h.reached) in
      into_joined jump_in nodes (node_at code (point a Seq)) a node (subst (λ (b : Bool). Contains (if b then a ∷ [] else []) a) (sym h.is) (head_member a []))

  pub exactly_tables : (js : List ℕ) → IsExactly (Contains (flat_map jump_in nodes)) js → IsExactly (HasTable code roots) js
  exactly_tables js e = record {
    sound = All-weaker (Contains (flat_map jump_in nodes)) (HasTable code roots) jump_sound js e.sound;
    whole = λ a h. e.whole a (jump_whole a h);
  }

-- ---- pads

module _ (ns : List Next) where
  makes_call : (n : Next) (r : ℕ) → Contains ns n → Contains (backs_in n) r → CallsBack ns r
  makes_call (Goes q) r m c = absurd (no_member r c)
  makes_call (Table b) r m c = absurd (no_member r c)
  makes_call (Calls t s) r m c = subst (CallsBack ns) (only_member s r c) (given m)
  makes_call (CallsAny s) r m c = subst (CallsBack ns) (only_member s r c) (any m)
  makes_call Returns r m c = absurd (no_member r c)
  makes_call Couples r m c = absurd (no_member r c)

  call_made : (r : ℕ) → CallsBack ns r → Contains (flat_map backs_in ns) r
  call_made r (given {t} c) = into_joined backs_in ns (Calls t r) r c (head_member r [])
  call_made r (any c) = into_joined backs_in ns (CallsAny r) r c (head_member r [])

some_second : (o : Option ℕ) → is_some o ≡ true → (s : ℕ) × (o ≡ Some s)
some_second None e = absurd (true≢false (sym e))
some_second (Some s) e = (s, refl)

module _ (code : Code) where
  abbrev pub has_second : ℕ → Bool
  has_second r = is_some (code.second r)

  module _ (roots : List ℕ) (ps : List Point) (exactly : IsExactly (IsReached code roots) ps) where
    pad_sound : (r : ℕ) → Contains (flat_map (backs_at code) ps) r → has_second r ≡ true → HasPad code roots r
    pad_sound r c e =
        let q = from_joined (backs_at code) ps r c in
        let n = from_joined backs_in (arrivals code q.0) r q.2 in
        let s = some_second (code.second r) e in
        record { point = q.0; reached = All-contains (IsReached code roots) ps q.0 exactly.sound q.1; calls = makes_call (arrivals code q.0) n.0 r n.1 n.2; second = s.0; is = s.1 }

    pub exactly_pads : (rs : List ℕ) → IsExactly (Contains (flat_map (backs_at code) ps)) rs → IsExactly (HasPad code roots) (filter has_second rs)
    exactly_pads rs e = record {
      sound = All-weaker (Contains (filter has_second rs)) (HasPad code roots) (λ r c.
          let f = from_filtered has_second rs r c in
          pad_sound r (All-contains (Contains (flat_map (backs_at code) ps)) rs r e.sound f.0) f.1) (filter has_second rs) (All-contains_itself (filter has_second rs));
      whole = λ r h. into_filtered has_second rs r (e.whole r (into_joined (backs_at code) ps h.point r (exactly.whole h.point h.reached) (call_made (arrivals code h.point) r h.calls))) (ap is_some h.is);
    }

  abbrev IsSecond : Pad → Type 0
  IsSecond p = code.second p.at ≡ Some p.second

  pad_one : (r : ℕ) (rs : List ℕ) (o : Option ℕ) → map (λ (p : Pad). p.at) (flat_map (pads_in code) rs) ≡ filter has_second rs → map (λ (p : Pad). p.at) (pad_with r o ++ flat_map (pads_in code) rs) ≡ cond (is_some o) (r ∷ filter has_second rs) (filter has_second rs)
  pad_one r rs None h = h
  pad_one r rs (Some s) h = λ i. r ∷ h i

  pub pad_ats : (rs : List ℕ) → map (λ (p : Pad). p.at) (flat_map (pads_in code) rs) ≡ filter has_second rs
  pad_ats [] = refl
  pad_ats (r ∷ rs) = pad_one r rs (code.second r) (pad_ats rs)

  second_one : (r : ℕ) (o : Option ℕ) → code.second r ≡ o → All IsSecond (pad_with r o)
  second_one r None e = All-nil IsSecond
  second_one r (Some s) e = All-cons IsSecond (pad r s) [] e (All-nil IsSecond)

  pub pad_seconds : (rs : List ℕ) → All IsSecond (flat_map (pads_in code) rs)
  pad_seconds [] = All-nil IsSecond
  pad_seconds (r ∷ rs) = All-append IsSecond (pads_in code r) (flat_map (pads_in code) rs) (second_one r (code.second r) refl) (pad_seconds rs)
