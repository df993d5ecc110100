use Rattle.std.proofs.Common.{◌≡◌, ◌≤◌, ◌+◌, ◌++◌, ◌∷◌, [], ℕ, Bool, true, false, List, length, length-append, arith, subst, sym, refl, ap}
use Rattle.std.specs.Prelude.{if◌then◌else◌}
use Rattle.std.specs.List.{list_any}
use Rattle.indexmap.specs.IndexSet.{insert_key}
use Rattle.std.proofs.lemmas.List.Sorted.{length_permutation, IsPermutation-refl}
use Rattle.worklist.proofs.Extended.{extended_insert, all_insert, all_inserted}
use Rattle.worklist.proofs.AscendingLists.{distinct_ascend, only_sorted, whole_sorted}
use Rattle.worklist.proofs.sets.ascending_set.Goals as goal

one_more : {T : Type 0} (eq : T → T → Bool) (mid new : List T) (x : T) (n : ℕ) → new ≡ insert_key eq mid x → length mid ≤ n → length new ≤ n + 1
one_more eq mid new x n e h = subst (λ l. length l ≤ n + 1) (sym e) (by (list_any (eq x) mid) refl)
  where
    by : (b : Bool) → list_any (eq x) mid ≡ b → length (insert_key eq mid x) ≤ n + 1
    by true f = subst (λ l. length l ≤ n + 1) (sym (ap (λ b. if b then mid else mid ++ x ∷ []) f)) (omega (arith, h))
    by false f = subst (λ l. length l ≤ n + 1) (sym (ap (λ b. if b then mid else mid ++ x ∷ []) f)) (omega (arith, h, length-append mid (x ∷ [])))

pub loop-item-preserved : goal.loop-item-preserved
loop-item-preserved g c = record {
  extended = extended_insert g.T.PartialEq.eq c.requires.same c.args.items.now _ _ _ c.item-item.result c.loop-item.item-index c.loop-item-test.true c.item-item.is c.in_ok-insert.ensures.keys c.loop-item.invariant.extended;
  all = all_insert g.T.PartialEq.eq c.requires.same c.args.items.now _ _ c.item-item.result c.loop-item.item-index c.loop-item-test.true c.item-item.is c.in_ok-insert.ensures.keys c.loop-item.invariant.all;
  fewer = one_more g.T.PartialEq.eq c.loop-item.set.keys c.insert.new.self.keys c.item-item.result c.loop-item.item-index c.in_ok-insert.ensures.keys c.loop-item.invariant.fewer;
}

pub returns-clause-ascend : goal.returns-clause-ascend
returns-clause-ascend g c =
    let ks = c.sort.new.self.keys in
    distinct_ascend g.T.PartialEq.eq g.T.Ord.cmp g.met.T.Eq.laws g.met.T.Ord.total g.met.T.Ord.matches_eq ks ks c.sort.ensures.unique (IsPermutation-refl ks) c.in_ok-sort.ensures.sorted

pub returns-clause-only : goal.returns-clause-only
returns-clause-only g c = only_sorted c.args.items.now c.new-set.result.keys c.loop-item.set.keys c.sort.new.self.keys c.sort.ensures.reordered.0 c.new-set.ensures.empty c.loop-item.invariant.extended

pub returns-clause-whole : goal.returns-clause-whole
returns-clause-whole g c =
    let xs = c.args.items.now in
    whole_sorted xs c.new-set.result.keys c.loop-item.set.keys c.sort.new.self.keys c.sort.ensures.reordered.0 (all_inserted g.T.PartialEq.eq c.requires.same xs c.loop-item.set.keys c.loop-item.item-index c.loop-item-test.false c.loop-item.invariant.all)

pub returns-clause-fewer : goal.returns-clause-fewer
returns-clause-fewer g c = let h = length_permutation c.loop-item.set.keys c.sort.new.self.keys c.sort.ensures.reordered.0 in omega (arith, h, c.loop-item.invariant.fewer)
