use Rattle.std.proofs.Common.{◌≡◌, ℕ, ◌+◌, List, [], ◌∷◌, ◌++◌, ap, sym, ◌∙◌, subst, arith, Some, slice_get, length, length-append, sum_by}
use Rattle.std.proofs.lemmas.List.Sums.{sum_by_push}
use Rattle.sled_match.specs.Pruned.{allowed_in}
use Rattle.sled_match.specs.Split.{IsSmallSplit}
use Rattle.sled_match.proofs.TreeSteps.{IsSplit-old, IsSplit-new, IsSplit-by}
use Rattle.sled_match.proofs.split.split_at_place.Goals as goal
use Rattle.sled_match.proofs.split.split_at_place.Goals.{in-Some+in_ok-push-in-Some, in-None+in_ok-push-in-None+in_ok-push-in-None-2+else-held-most+else-len-most}

pub loop-key-preserved : goal.loop-key-preserved
loop-key-preserved c = elim c.match-find_list.branch [
  | in-Some+in_ok-push-in-Some w ↦ (
    IsSplit-by (allowed_in c.args.table.now.rows) c.args.place c.args.constructors.now c.match-find_list.lists c.loop-key.lists
        c.match-find_list.index (c.loop-key.index ++ w.in-Some.at ∷ []) _ w.lists-is (w.index-is ∙ w.in_ok-push-in-Some.ensures.ok)
        (IsSplit-old (allowed_in c.args.table.now.rows) c.args.place c.args.constructors.now c.loop-key.lists c.loop-key.index c.loop-key.key w.in-Some.at c.loop-key.invariant.0
        (ap (λ xs. slice_get xs w.in-Some.at) (sym c.as_slice.ensures) ∙ w.in-Some.ensures ∙ ap Some (c.as_slice-in-loop-key.ensures ∙ c.in_ok-mine.ensures))),
    (
      subst (IsSmallSplit (length c.args.constructors.now)) (sym w.lists-is) c.loop-key.invariant.1.0,
      w.held-is ∙ c.loop-key.invariant.1.1 ∙ ap (sum_by length) (sym w.lists-is),
    ),
  )
  | in-None+in_ok-push-in-None+in_ok-push-in-None-2+else-held-most+else-len-most w ↦
      (let lists : List (List ℕ) = c.loop-key.lists ++ c.in_ok-mine.mine ∷ [] in
      let e : c.match-find_list.lists ≡ lists = w.lists-is ∙ w.in_ok-push-in-None-2.ensures.ok in
      let l : length lists ≡ length c.loop-key.lists + 1 = length-append c.loop-key.lists (c.in_ok-mine.mine ∷ []) in
      let s : sum_by length lists ≡ sum_by length c.loop-key.lists + length c.in_ok-mine.mine = sum_by_push length c.loop-key.lists c.in_ok-mine.mine in
      let small : IsSmallSplit (length c.args.constructors.now) lists = record {
        fewer = omega (arith, w.if-len-most.false, w.len-else-held-most.ensures, ap length w.in_ok-push-in-None-2.ensures.ok);
        held = omega (arith, w.if-held-most.false, w.len-held.ensures, s, c.loop-key.invariant.1.1);
      } in
      let h : c.match-find_list.held ≡ sum_by length lists = omega (arith, w.held-is, w.len-held.ensures, s, c.loop-key.invariant.1.1) in (
        IsSplit-by (allowed_in c.args.table.now.rows) c.args.place c.args.constructors.now c.match-find_list.lists lists
            c.match-find_list.index (c.loop-key.index ++ length c.loop-key.lists ∷ []) _ e
            (w.index-is ∙ w.in_ok-push-in-None.ensures.ok ∙ ap (λ n. c.loop-key.index ++ n ∷ []) w.len.ensures)
            (IsSplit-new (allowed_in c.args.table.now.rows) c.args.place c.args.constructors.now c.loop-key.lists c.loop-key.index c.loop-key.key c.in_ok-mine.mine c.loop-key.invariant.0
            c.in_ok-mine.ensures),
        (subst (IsSmallSplit (length c.args.constructors.now)) (sym e) small, h ∙ ap (sum_by length) (sym e)),
      ))
]
