-- The nodes of the body of a procedure of a graph: each is a point of the body, and no two are alike.
use Rattle.std.proofs.Common.{◌≡◌, ◌≢◌, ℕ, suc, ◌<◌, List, [], ◌∷◌, map, length, get_or, sym, ◌∙◌, subst, arith}
use Rattle.std.specs.List.{AllByRecursion, Contains}
use Rattle.std.specs.List.Sorted.{IsStrictlySortedBy}
use Rattle.std.specs.Ordering.{nat_cmp}
use Rattle.std.specs.declared.cmp.Ordering.TheVariants.{Less}
use Rattle.std.proofs.lemmas.List.{get_or-map, get_or_default, length-map}
use Rattle.std.proofs.lemmas.List.Elements.{All-contains}
use Rattle.std.proofs.lemmas.Map.Keys.{Less-from_sorted, below_from_sorted, sorted_tail}
use Rattle.rtl_core.specs.contracts.point.PointOrd.TheImpl as point_order
use Rattle.points.specs.declared.graph.Graph.{Graph}
use Rattle.points.specs.declared.graph.Node.{Node}
use Rattle.points.specs.declared.graph.Proc.{Proc}
use Rattle.points.specs.Bodies.{Code, Body, Procedure}
use Rattle.points.specs.Graphs.{IsGraph, IsPlaceOf, IsProcedureOf, points_of}
use Rattle.params.proofs.Members.{first-in, later-in, from-mapped, to-mapped}
use Rattle.c_program.specs.Functions.{no_node, nodes_at}
use Rattle.c_static.proofs.Lists.{Apart}
use Rattle.c_static.proofs.PointOrder.{never-below-itself}

module _ (code : Code) (roots : List ℕ) (g : Graph) (graph : IsGraph code roots g) (proc : Proc) (there : Contains g.procs proc) where
  abbrev body : List Node
  body = nodes_at g.nodes proc.body

  is-procedure-of : IsProcedureOf code (points_of g.nodes) proc
  is-procedure-of = All-contains (IsProcedureOf code (points_of g.nodes)) g.procs proc graph.bodies there

  pub is-procedure : Procedure code roots proc.entry
  is-procedure = All-contains (Procedure code roots) (map (λ (p : Proc). p.entry) g.procs) proc.entry graph.procs.sound (to-mapped (λ (p : Proc). p.entry) g.procs proc there)

  place-of : (k : ℕ) → Contains proc.body k → IsPlaceOf code proc.entry (points_of g.nodes) k
  place-of k c = All-contains (IsPlaceOf code proc.entry (points_of g.nodes)) proc.body k is-procedure-of.exactly.sound c

  within : (k : ℕ) → Contains proc.body k → k < length g.nodes
  within k c = let place = place-of k c in let size = length-map g.nodes (λ (n : Node). n.point) in omega (arith, place.within, size)

  -- a node of the body stands at a point of the body
  pub of-body : (n : Node) → Contains body n → Body code proc.entry n.point
  of-body n c =
      let found = from-mapped (λ k. get_or g.nodes k no_node) proc.body n c in
      let k = found.0 in
      let place = place-of k found.1 in
      let at : (get_or g.nodes k no_node).point ≡ place.point = sym (get_or-map (λ (n : Node). n.point) g.nodes k no_node place.point (within k found.1)) ∙ place.is in
      subst (λ (m : Node). Body code proc.entry m.point) found.2 (subst (Body code proc.entry) (sym at) place.body)

  -- nodes at different places stand at different points
  differ : (i j : ℕ) → i < j → j < length g.nodes → (get_or g.nodes i no_node).point ≢ (get_or g.nodes j no_node).point
  differ i j lt in_nodes e =
      let points = points_of g.nodes in
      let size = length-map g.nodes (λ (n : Node). n.point) in
      let p = (get_or g.nodes i no_node).point in
      let up = Less-from_sorted point_order.cmp-value.it points i j p graph.nodes_rise lt (omega (arith, in_nodes, size)) in
      let at_i : get_or points i p ≡ p = get_or-map (λ (n : Node). n.point) g.nodes i no_node p (omega (arith, in_nodes, lt)) in
      let at_j : get_or points j p ≡ p = get_or-map (λ (n : Node). n.point) g.nodes j no_node p in_nodes ∙ sym e in
      never-below-itself p (subst (λ q. point_order.cmp-value.it p q ≡ Less) at_j (subst (λ q. point_order.cmp-value.it q (get_or points j p) ≡ Less) at_i up))

  apart-at : (places : List ℕ) → IsStrictlySortedBy nat_cmp places → AllByRecursion (λ k. k < length g.nodes) places → Apart (points_of (nodes_at g.nodes places))
  apart-at [] s h = tt
  apart-at (k ∷ ks) s h = (later k ks (λ j c. below k ks s j c) h.1, apart-at ks (sorted_tail nat_cmp k ks s) h.1)
    where
      below : (k : ℕ) (ks : List ℕ) → IsStrictlySortedBy nat_cmp (k ∷ ks) → (j : ℕ) → Contains ks j → k < j
      below k ks s j c =
          let at = below_from_sorted (k ∷ ks) 0 (suc c.0) 0 s (omega arith) (omega (arith, c.1)) in
          let e : get_or ks c.0 0 ≡ j = get_or_default ks c.0 0 j c.1 ∙ c.2 in
          omega (arith, at, e)

      later : (k : ℕ) (ks : List ℕ) → ((j : ℕ) → Contains ks j → k < j) → AllByRecursion (λ j. j < length g.nodes) ks → AllByRecursion (λ p. (get_or g.nodes k no_node).point ≢ p) (points_of (nodes_at g.nodes ks))
      later k [] up h = tt
      later k (j ∷ js) up h =
          (differ k j (up j (first-in j js)) h.0, later k js (λ i c. up i (later-in j i js c)) h.1)

  pub body-apart : Apart (points_of body)
  body-apart = apart-at proc.body is-procedure-of.rises (each-within proc.body (λ k c. within k c))
    where
      each-within : (ks : List ℕ) → ((k : ℕ) → Contains ks k → k < length g.nodes) → AllByRecursion (λ k. k < length g.nodes) ks
      each-within [] h = tt
      each-within (k ∷ ks) h = (h k (first-in k ks), each-within ks (λ j c. h j (later-in k j ks c)))
