-- The plan of a graph has the cells of its summaries.
use Rattle.std.proofs.Common.{◌≡◌, ℕ, Bool, true, false, List, [], ◌∷◌, ◌⊎◌, inl, inr, refl, sym, ap, ◌∙◌, subst, eq-eqb}
use Rattle.std.specs.Prelude.{◌==◌, if◌then◌else◌}
use Rattle.std.specs.List.{Contains}
use Rattle.std.specs.List.Sorted.{IsStrictlySortedBy}
use Rattle.std.specs.Ordering.{nat_cmp}
use Rattle.std.specs.declared.cmp.Ordering.TheVariants.{Less}
use Rattle.std.proofs.lemmas.Bool.{eqb-true}
use Rattle.std.proofs.lemmas.Map.Keys.{sorted_tail}
use Rattle.points.specs.declared.graph.Summary.{Summary}
use Rattle.params.specs.ByEntry.{refs_of, mods_of}
use Rattle.params.proofs.Members.{above, both-below, none-in, split-in, to-mapped}
use Rattle.c_program.specs.Planning.{graph_plan}
use Rattle.c_program.specs.Shown.{IsSummaryOf, entries_of}
use Rattle.c_program.proofs.Sourcing.{entries-same}
use Rattle.c_shape.specs.Laws.{GraphHasItsCells}
use Rattle.c_shape.proofs.ItsFunctions.{all-in, entries-are}

-- what is looked up at an entry
record IsAt (sums : List Summary) (others : List ℕ) (s : Summary) : Type 0 where
  refs : refs_of sums others s.entry ≡ s.refs
  mods : mods_of sums others s.entry ≡ s.mods

-- a summary is found by its entry, where entries rise
found : (sums : List Summary) (others : List ℕ) → IsStrictlySortedBy nat_cmp (entries_of sums) → (s : Summary) → Contains sums s → IsAt sums others s
found [] others rise s c = none-in s c
found (t ∷ ts) others rise s c = by (t.entry == s.entry) refl (split-in t s ts c) (found ts others (sorted_tail nat_cmp t.entry (entries_of ts) rise) s)
  where
    by : (b : Bool) → (t.entry == s.entry) ≡ b → (t ≡ s) ⊎ Contains ts s → (Contains ts s → IsAt ts others s) → IsAt (t ∷ ts) others s
    by true e (inl same) later = record {
      refs = ap (λ b. if b then t.refs else refs_of ts others s.entry) e ∙ ap (λ (u : Summary). u.refs) same;
      mods = ap (λ b. if b then t.mods else mods_of ts others s.entry) e ∙ ap (λ (u : Summary). u.mods) same;
    }
    by true e (inr more) later =
        let up = above t.entry (entries_of ts) rise s.entry (to-mapped (λ (u : Summary). u.entry) ts s more) in
        let m : nat_cmp s.entry s.entry ≡ Less = subst (λ z. nat_cmp z s.entry ≡ Less) (eqb-true t.entry s.entry e) up in
        absurd (both-below s.entry s.entry m m)
    by false e (inl same) later = let no : true ≡ false = sym (eq-eqb t.entry s.entry (ap (λ (u : Summary). u.entry) same)) ∙ e in let none : ⊥ = cc in absurd none
    by false e (inr more) later =
        let rest = later more in
        record { refs = ap (λ b. if b then t.refs else refs_of ts others s.entry) e ∙ rest.refs; mods = ap (λ b. if b then t.mods else mods_of ts others s.entry) e ∙ rest.mods }

pub graph-has-its-cells : GraphHasItsCells
graph-has-its-cells setting table roots g sums others parts entry d are moving at_root =
    let plan = graph_plan setting table g.procs sums others in
    let same = entries-same setting table roots g sums are in
    record {
      summaries = all-in (IsSummaryOf plan) sums (λ s c. let at = found sums others (subst (IsStrictlySortedBy nat_cmp) (sym same) d.graph.procs_rise) s c in record { refs = at.refs; mods = at.mods });
      entries = same ∙ sym (entries-are plan g.nodes g.procs);
    }
