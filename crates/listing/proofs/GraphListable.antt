-- The graph of a program can be listed.
use Rattle.std.proofs.Common.{◌≡◌, ℕ, ◌+◌, ◌<◌, suc, List, [], ◌∷◌, ◌++◌, length, take, drop, get_or, map, refl, sym, ap, subst, ◌∙◌, arith, true, false, Bool, length-take, length-drop}
use Rattle.std.proofs.lemmas.Bool.{false≢true, eq-eqb, ne_eqb}
use Rattle.std.proofs.lemmas.List.{get_or-map, get_or-take, get_or-drop, length-map}
use Rattle.std.proofs.lemmas.Map.Keys.{below_from_sorted}
use Rattle.std.specs.Prelude.{◌==◌, ◌&&◌}
use Rattle.std.specs.List.{All, Contains}
use Rattle.std.specs.List.Sorted.{IsStrictlySortedBy}
use Rattle.std.specs.Ordering.{nat_cmp}
use Rattle.rtl_core.specs.declared.point.Slot.{Slot}
use Rattle.rtl_core.specs.declared.point.Slot.TheVariants.{Seq, To, Dyn, CallTo, CallDyn, Ret}
use Rattle.points.specs.declared.graph.Graph.{Graph}
use Rattle.points.specs.declared.graph.JumpTable.{JumpTable}
use Rattle.points.specs.declared.graph.Node.{Node}
use Rattle.points.specs.Bodies.{Code, IsReached}
use Rattle.points.specs.Courses.{point}
use Rattle.points.specs.Flows.{is_computed}
use Rattle.points.specs.Graphs.{IsGraph, HasTable, points_of}
use Rattle.listing.specs.Lists.{is_sequential, shows_table}
use Rattle.listing.specs.Listable.{HasOneTable, GraphIsListable}
use Rattle.listing.proofs.OneTable.{none_pass, pass_round}

abbrev key : JumpTable → ℕ
key t = t.at

no_table : JumpTable
no_table = record { at = 0; targets = [] }

module _ (tables : List JumpTable) (a : ℕ) (rises : IsStrictlySortedBy nat_cmp (map key tables)) where
  apart : (i k : ℕ) (d e : JumpTable) → i < k → k < length tables → (get_or tables i d).at < (get_or tables k e).at
  apart i k d e lt within =
      let low = get_or-map key tables i d 0 (omega (arith, lt, within)) in
      let high = get_or-map key tables k e 0 within in
      let below = below_from_sorted (map key tables) i k 0 rises lt (omega (arith, within, length-map tables key)) in
      omega (arith, low, high, below)

  module _ (k : ℕ) (within : k < length tables) (is : (get_or tables k no_table).at ≡ a) where
    before : All (λ t. (t.at == a) ≡ false) (take k tables)
    before i d lt =
        let near : i < k = omega (arith, lt, length-take k tables) in
        let same = ap key (get_or-take k tables i d near) in
        ne_eqb _ a (λ e. omega (arith, apart i k d no_table near within, same, e, is))

    behind : All (λ t. (t.at == a) ≡ false) (drop (suc k) tables)
    behind i d lt =
        let far : k < suc k + i = omega arith in
        let there : suc k + i < length tables = omega (arith, lt, length-drop (suc k) tables) in
        let same = ap key (get_or-drop (suc k) tables i d) in
        ne_eqb _ a (λ e. omega (arith, apart k (suc k + i) no_table d far there, same, e, is))

    one_there : HasOneTable tables a
    one_there = record {
      table = get_or tables k no_table;
      only = pass_round (λ t. t.at == a) tables k no_table within (eq-eqb _ a is)
          ∙ (λ j. none_pass (λ t. t.at == a) (take k tables) before j ++ (get_or tables k no_table ∷ none_pass (λ t. t.at == a) (drop (suc k) tables) behind j));
    }

  rising_one : Contains (map key tables) a → HasOneTable tables a
  rising_one c =
      let within : c.0 < length tables = omega (arith, c.1, length-map tables key) in
      one_there c.0 within (sym (get_or-map key tables c.0 no_table a within) ∙ c.2)

nothing_to_come : (s : Slot) (b : Bool) → (is_sequential s && b) ≡ true → s ≡ Seq
nothing_to_come Seq b e = refl
nothing_to_come (To t) b e = absurd (false≢true e)
nothing_to_come (Dyn a) b e = absurd (false≢true e)
nothing_to_come (CallTo t r) b e = absurd (false≢true e)
nothing_to_come (CallDyn r) b e = absurd (false≢true e)
nothing_to_come Ret b e = absurd (false≢true e)

is_shown : (s : Slot) (b : Bool) → (is_sequential s && b) ≡ true → b ≡ true
is_shown Seq b e = e
is_shown (To t) b e = absurd (false≢true e)
is_shown (Dyn a) b e = absurd (false≢true e)
is_shown (CallTo t r) b e = absurd (false≢true e)
is_shown (CallDyn r) b e = absurd (false≢true e)
is_shown Ret b e = absurd (false≢true e)

module _ (code : Code) (roots : List ℕ) (g : Graph) (is : IsGraph code roots g) where
  reached_at : (i : ℕ) (d : Node) → i < length g.nodes → IsReached code roots (get_or g.nodes i d).point
  reached_at i d lt =
      let long : i < length (points_of g.nodes) = omega (arith, lt, length-map g.nodes (λ (n : Node). n.point)) in
      subst (IsReached code roots) (get_or-map (λ (n : Node). n.point) g.nodes i d d.point lt) (is.nodes.sound i d.point long)

  table_at : (i : ℕ) (d : Node) → i < length g.nodes → shows_table (get_or g.nodes i d) ≡ true → HasTable code roots (get_or g.nodes i d).point.pc
  table_at i d lt shows =
      let n = get_or g.nodes i d in
      record {
        reached = subst (IsReached code roots) (ap (λ (s : Slot). point n.point.pc s) (nothing_to_come n.point.slot (is_computed n.block) shows)) (reached_at i d lt);
        is = ap is_computed (sym (is.blocks i d lt)) ∙ is_shown n.point.slot (is_computed n.block) shows;
      }

pub graph_listable : GraphIsListable
graph_listable code roots g sums is entries = record {
  summaries = entries;
  bodies = λ i d lt k e lk. omega (arith, ((is.bodies i d lt).exactly.sound k e lk).within, length-map g.nodes (λ (n : Node). n.point));
  tables = λ i d lt shows. rising_one g.tables (get_or g.nodes i d).point.pc is.tables_rise (is.tables.whole _ (table_at code roots g is i d lt shows));
}
