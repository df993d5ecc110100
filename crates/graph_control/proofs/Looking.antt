-- What is looked up in the graph of a program is what its flow says.
use Rattle.std.proofs.Common.{◌≡◌, ℕ, Bool, true, false, List, [], ◌∷◌, length, get_or, Option, Some, None, zero, suc, nat_cmp, refl, sym, ap, ◌∙◌, subst, arith, inl, inr}
use Rattle.std.specs.Prelude.{◌↔◌, ◌⊎◌, ◌<◌, IsTrue, map, option_map, slice_get}
use Rattle.std.specs.List.{Contains}
use Rattle.std.specs.List.Sorted.{IsStrictlySortedBy}
use Rattle.std.proofs.lemmas.List.Elements.{All-contains}
use Rattle.std.proofs.lemmas.Option.{slice_get-get_or, slice_get_within, get_or_from_slice_get}
use Rattle.std.proofs.lemmas.Map.Keys.{below_from_sorted}
use Rattle.worklist.proofs.Members.{from_mapped, into_mapped}
use Rattle.rtl_core.specs.declared.point.Point.{Point}
use Rattle.rtl_core.specs.contracts.point.PointOrd.TheImpl as point_order
use Rattle.points.specs.declared.block.Next.{Next}
use Rattle.points.specs.declared.graph.JumpTable.{JumpTable}
use Rattle.points.specs.declared.graph.Pad.{Pad}
use Rattle.points.specs.Bodies.{IsReached, Procedure}
use Rattle.points.specs.Control.{Flow}
use Rattle.points.specs.Graphs.{points_of}
use Rattle.points.specs.Kinds.{second}
use Rattle.points.proofs.CodeControl.{code_is_control}
use Rattle.discover.proofs.Serving.{serves, goes_on}
use Rattle.graph_control.specs.Finding.{IsPlace}
use Rattle.graph_control.specs.Programs.{Comes, ComesBack, IsFlowOf, program_of}
use Rattle.graph_control.specs.Charts.{Chart}
use Rattle.graph_control.specs.declared.lookup.Lookup.{Lookup}
use Rattle.graph_control.specs.Ways.{IsLookup, IsNodePlace, jumps_in, entries_in, returns_in}

-- the member at a place of a list
pub member_at : {T : Type 0} (xs : List T) (k : ℕ) (x : T) → slice_get xs k ≡ Some x → Contains xs x
member_at xs k x e = (k, slice_get_within xs k x e, get_or_from_slice_get xs k x x e)

-- what stands at a place of a mapped list comes from what stands there
pub mapped_from : {X Y : Type 0} (f : X → Y) (xs : List X) (k : ℕ) (x : X) (y : Y) → slice_get xs k ≡ Some x → slice_get (map f xs) k ≡ Some y → f x ≡ y
mapped_from f [] k x y a b = let no : ⊥ = cc in absurd no
mapped_from f (z ∷ xs) zero x y a b = let e : z ≡ x = cc in let g : f z ≡ y = cc in ap f (sym e) ∙ g
mapped_from f (z ∷ xs) (suc k) x y a b = mapped_from f xs k x y a b

pub mapped_there : {X Y : Type 0} (f : X → Y) (xs : List X) (k : ℕ) (x : X) → slice_get xs k ≡ Some x → slice_get (map f xs) k ≡ Some (f x)
mapped_there f [] k x a = let no : ⊥ = cc in absurd no
mapped_there f (z ∷ xs) zero x a = let e : z ≡ x = cc in ap (λ w. Some (f w)) e
mapped_there f (z ∷ xs) (suc k) x a = mapped_there f xs k x a

pub none_there : {X Y : Type 0} (f : X → Y) (xs : List X) (k : ℕ) (y : Y) → slice_get (map f xs) k ≡ Some y → slice_get xs k ≡ None → ⊥
none_there f [] k y a b = cc
none_there f (z ∷ xs) zero y a b = cc
none_there f (z ∷ xs) (suc k) y a b = none_there f xs k y a b

pub some_is : {T : Type 0} (x y : T) → Some x ≡ Some y → x ≡ y
some_is x y e = cc

same_test : (a b : Bool) → (a ≡ true → b ≡ true) → (b ≡ true → a ≡ true) → a ≡ b
same_test true true f g = refl
same_test true false f g = sym (f refl)
same_test false true f g = g refl
same_test false false f g = refl

-- a place among the points that are looked up is one among the nodes
pub node_place : (c : Chart) (l : Lookup) (h : IsLookup c l) (p : Point) (k : ℕ) → IsPlace point_order.cmp-value.it l.points.items p k → IsNodePlace c.graph p k
node_place c l h p k place = subst (λ (ps : List Point). IsPlace point_order.cmp-value.it ps p k) h.points place

-- an item stands at one place of a list that ascends
one-place : (xs : List ℕ) (i j x : ℕ) → IsStrictlySortedBy nat_cmp xs → slice_get xs i ≡ Some x → slice_get xs j ≡ Some x → i ≡ j
one-place xs i j x s a b = by (grind arith)
  where
    li : i < length xs
    li = slice_get_within xs i x a

    lj : j < length xs
    lj = slice_get_within xs j x b

    same : get_or xs i 0 ≡ get_or xs j 0
    same = get_or_from_slice_get xs i x 0 a ∙ sym (get_or_from_slice_get xs j x 0 b)

    by : (i < j) ⊎ (i ≡ j) ⊎ (j < i) → i ≡ j
    by (inl less) = let z = below_from_sorted xs i j 0 s less lj in absurd (omega (arith, z, same))
    by (inr (inl e)) = e
    by (inr (inr more)) = let z = below_from_sorted xs j i 0 s more li in absurd (omega (arith, z, same))

-- the second return point at a place of pads
module _ (pads : List Pad) (returns : List ℕ) (back : ℕ) (is : returns ≡ map (λ (q : Pad). q.at) pads) where
  pub second_there : (at : ℕ) (p : Pad) → slice_get returns at ≡ Some back → IsStrictlySortedBy nat_cmp returns → Contains pads p → p.at ≡ back → option_map (λ (q : Pad). q.second) (slice_get pads at) ≡ Some p.second
  second_there at p found sorted m e =
      let here : slice_get pads m.0 ≡ Some p = slice_get-get_or pads m.0 p m.1 ∙ ap Some m.2 in
      let mapped : slice_get returns m.0 ≡ Some back = ap (λ (l : List ℕ). slice_get l m.0) is ∙ mapped_there (λ (q : Pad). q.at) pads m.0 p here ∙ ap Some e in
      let same = one-place returns m.0 at back sorted mapped found in
      ap (λ k. option_map (λ (q : Pad). q.second) (slice_get pads k)) (sym same) ∙ ap (option_map (λ (q : Pad). q.second)) here

  pub second_missing : (p : Pad) → (Contains returns back → ⊥) → Contains pads p → p.at ≡ back → ⊥
  second_missing p none m e = none (subst (λ (l : List ℕ). Contains l back) (sym is) (subst (Contains (map (λ (q : Pad). q.at) pads)) e (into_mapped (λ (q : Pad). q.at) pads p m)))

module _ (c : Chart) (roots : List ℕ) (f : Flow) (h : IsFlowOf c roots f) where
  -- the node of a point that is reached
  pub place_of_reached : (p : Point) (k : ℕ) → IsReached (program_of f) roots p → IsNodePlace c.graph p k → slice_get (points_of c.graph.nodes) k ≡ Some p
  place_of_reached p k reached place = place.at h.graph.nodes_rise (h.graph.nodes.whole p reached)

  -- a procedure begins where an entry stands
  pub entry_is : (entries : List ℕ) (b : Bool) (t : ℕ) → entries ≡ entries_in c.graph → IsTrue b ↔ Contains entries t → b ≡ f.is_procedure t
  entry_is entries b t is e =
      let at = h.procedures t in
      same_test b (f.is_procedure t)
      (λ x. at.1 (All-contains (Procedure (program_of f) roots) (entries_in c.graph) t h.graph.procs.sound (subst (λ (l : List ℕ). Contains l t) is (e.0 x))))
      (λ x. e.1 (subst (λ (l : List ℕ). Contains l t) (sym is) (h.graph.procs.whole t (at.0 x))))

  -- the table of a jump that comes to arrive
  pub table_is : (a k : ℕ) → Comes (program_of f) roots (Next.Table a) → IsPlace nat_cmp (jumps_in c.graph) a k → slice_get (jumps_in c.graph) k ≡ Some a
  table_is a k comes place =
      let t = (serves (program_of f) roots c.graph h.graph).table_at (code_is_control f.setting f.table) comes.point a comes.reached comes.is in
      place.at h.graph.tables_rise (subst (Contains (jumps_in c.graph)) t.at (into_mapped (λ (x : JumpTable). x.at) c.graph.tables t.table t.is))

  pub targets_are : (a k : ℕ) (t : JumpTable) → slice_get (jumps_in c.graph) k ≡ Some a → slice_get c.graph.tables k ≡ Some t → t.targets ≡ f.table a
  targets_are a k t e g =
      All-contains (λ (x : JumpTable). x.targets ≡ (program_of f).table x.at) c.graph.tables t h.graph.targets (member_at c.graph.tables k t g)
      ∙ ap f.table (mapped_from (λ (x : JumpTable). x.at) c.graph.tables k t a g e)

  -- the second return point of a call that comes to be made
  module _ (back : ℕ) (comes : ComesBack (program_of f) roots back) where
    pub second_some : (s : ℕ) → second f.setting back ≡ Some s → (p : Pad) × Contains c.graph.pads p × (p.at ≡ back) × (p.second ≡ s)
    second_some s e =
        let pad = (serves (program_of f) roots c.graph h.graph).pad_at comes.point back s comes.reached ((goes_on (program_of f) roots).comes_back comes.point back comes.calls) e in
        (pad.pad, pad.is, pad.at, pad.second_is)

  pub second_none : (back : ℕ) → second f.setting back ≡ None → Contains (returns_in c.graph) back → ⊥
  second_none back e m =
      let p = from_mapped (λ (q : Pad). q.at) c.graph.pads back m in
      let is : second f.setting p.0.at ≡ Some (p.0.second) = All-contains (λ (q : Pad). (program_of f).second q.at ≡ Some q.second) c.graph.pads p.0 h.graph.seconds p.1 in
      let same : second f.setting back ≡ Some (p.0.second) = ap (second f.setting) (sym p.2) ∙ is in
      cc

  -- what a look-up of pads answers
  pub second_is : (back : ℕ) (r : Option ℕ) (returns : List ℕ) → returns ≡ returns_in c.graph → ComesBack (program_of f) roots back
      → ((p : Pad) → Contains c.graph.pads p → p.at ≡ back → r ≡ Some p.second) → ((Contains returns back → ⊥) → r ≡ None) → r ≡ second f.setting back
  second_is back r returns is comes there none = by (second f.setting back) refl
    where
      by : (o : Option ℕ) → second f.setting back ≡ o → r ≡ second f.setting back
      by None e = none (λ m. second_none back e (subst (λ (l : List ℕ). Contains l back) is m)) ∙ sym e
      by (Some s) e = let p = second_some back comes s e in there p.0 p.1 p.2 ∙ ap Some p.3 ∙ sym e

  -- what a look-up of entries answers
  pub entry_sorted : (l : Lookup) (at : IsLookup c l) (t : ℕ) (b : Bool) → (IsStrictlySortedBy nat_cmp l.entries.items → IsTrue b ↔ Contains l.entries.items t) → b ≡ f.is_procedure t
  entry_sorted l at t b e =
      let rises = subst (IsStrictlySortedBy nat_cmp) (sym at.entries) h.graph.procs_rise in
      entry_is l.entries.items b t at.entries (e rises)

  -- and one of pads
  pub pad_sorted : (l : Lookup) (at : IsLookup c l) (back : ℕ) (r : Option ℕ) → ComesBack (program_of f) roots back
      → ((p : Pad) → l.returns.items ≡ returns_in c.graph → IsStrictlySortedBy nat_cmp l.returns.items → Contains c.graph.pads p → p.at ≡ back → r ≡ Some p.second)
      → (l.returns.items ≡ returns_in c.graph → (Contains l.returns.items back → ⊥) → r ≡ None) → r ≡ second f.setting back
  pad_sorted l at back r comes there none =
      let rises = subst (IsStrictlySortedBy nat_cmp) (sym at.returns) h.graph.pads_rise in
      second_is back r l.returns.items at.returns comes (λ p m e. there p at.returns rises m e) (λ n. none at.returns n)
