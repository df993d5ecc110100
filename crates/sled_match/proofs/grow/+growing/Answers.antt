use Rattle.std.proofs.Common.{ℕ, ◌≡◌, ◌+◌, ◌<◌, ◌^◌, suc, List, [], ◌∷◌, length, length-append, get_or, map, take, sum_by, sym, ap, ◌∙◌, subst, arith}
use Rattle.sled_match.specs.Pruned.{Pruning, allowed_in, IsTreeOf}
use Rattle.sled_match.specs.Split.{IsSmallSplit}
use Rattle.sled_match.specs.TreeSizes.{room, AreAdded}
use Rattle.sled_match.proofs.TreeBounds.{room_left, room_above, small_so_far, lists_more, added-both}
use Rattle.sled_match.proofs.TreeSteps.{leaf_put, inner_put, AreTreesOf-more}
use Rattle.sled_match.proofs.grow.+growing.Goals as goal

pub grow-returns : goal.grow-returns
grow-returns t c =
    leaf_put c.args.levels (allowed_in c.args.table.now.rows) c.args.nodes.now c.add.new.nodes c.in_ok-from_slice.field-0 c.args.constructors.now c.add.result
    c.in_ok-from_slice.ensures c.add.ensures

pub grow_inner-grow-requires : goal.grow_inner-grow-requires
grow_inner-grow-requires t c =
    let small : IsSmallSplit (length c.args.constructors.now) c.as_slice-list-items.result.now =
    subst (IsSmallSplit (length c.args.constructors.now)) (sym c.as_slice-list-items.ensures) c.requires.small in
    let left : length c.loop-list.nodes + (1 + room c.args.below (length c.list-item.result)) < 2 ^ 32 =
    room_left c.args.below c.loop-list.list-index (length c.args.constructors.now) c.args.nodes.now c.loop-list.nodes c.as_slice-list-items.result.now c.list-item.result
    small c.loop-list.invariant.0 c.loop-list-test.true c.list-item.is c.requires.short in
    (omega (arith, c.decreases), subst (λ xs. length c.loop-list.nodes + (1 + room c.args.below (length xs)) < 2 ^ 32) (sym c.as_slice.ensures) left)

pub grow_inner-loop-list-preserved : goal.grow_inner-loop-list-preserved
grow_inner-loop-list-preserved t c =
    let lists : List (List ℕ) = c.as_slice-list-items.result.now in
    let i : ℕ = c.loop-list.list-index in
    let list : List ℕ = c.list-item.result in
    let allows : Pruning = allowed_in c.args.table.now.rows in
    let added : AreAdded c.args.below 1 (length list) c.loop-list.nodes c.grow.new.nodes =
    subst (λ xs. AreAdded c.args.below 1 (length xs) c.loop-list.nodes c.grow.new.nodes) c.as_slice.ensures c.in_ok-child.ensures.0 in
    let tree : IsTreeOf (suc c.args.below) allows c.grow.new.nodes c.in_ok-child.child list =
    subst (IsTreeOf (suc c.args.below) allows c.grow.new.nodes c.in_ok-child.child) c.as_slice.ensures c.in_ok-child.ensures.1 in (
      subst (λ m. AreAdded c.args.below (i + 1) m c.args.nodes.now c.grow.new.nodes) (sym (lists_more lists i list c.loop-list-test.true c.list-item.is))
          (added-both c.args.below i 1 (sum_by length (take i lists)) (length list) c.args.nodes.now c.loop-list.nodes c.grow.new.nodes c.loop-list.invariant.0 added),
      (
        ap length c.in_ok-push.ensures.ok ∙ length-append c.loop-list.children (c.in_ok-child.child ∷ []) ∙ ap (λ n. n + 1) c.loop-list.invariant.1.0,
        λ j h. subst (λ xs. IsTreeOf (suc c.args.below) allows c.grow.new.nodes (get_or xs j 0) (get_or lists j [])) (sym c.in_ok-push.ensures.ok)
            (AreTreesOf-more (suc c.args.below) allows c.loop-list.nodes c.grow.new.nodes added.more c.loop-list.children lists i
            c.in_ok-child.child list added.is c.loop-list.invariant.1.0 c.loop-list.invariant.1.1 tree c.loop-list-test.true c.list-item.is j h),
      ),
    )

pub grow_inner-add-requires : goal.grow_inner-add-requires
grow_inner-add-requires t c =
    room_above c.args.below c.loop-list.list-index (length c.args.constructors.now) c.args.nodes.now c.loop-list.nodes c.as_slice-list-items.result.now
    (subst (IsSmallSplit (length c.args.constructors.now)) (sym c.as_slice-list-items.ensures) c.requires.small)
    c.loop-list.invariant.0 c.loop-list.auto.list-index-end c.requires.short

pub grow_inner-returns : goal.grow_inner-returns
grow_inner-returns t c =
    let lists : List (List ℕ) = c.as_slice-list-items.result.now in
    let same : length lists ≡ length c.args.found.now.lists = ap length c.as_slice-list-items.ensures in
    let (few, twice) = small_so_far (length c.args.constructors.now) c.loop-list.list-index lists
    (subst (IsSmallSplit (length c.args.constructors.now)) (sym c.as_slice-list-items.ensures) c.requires.small) c.loop-list.auto.list-index-end in
    inner_put c.args.below (allowed_in c.args.table.now.rows) c.args.nodes.now c.loop-list.nodes c.add.new.nodes c.args.place c.args.constructors.now c.args.found.now.lists
    c.args.found.now.index c.loop-list.children c.in_ok-branches.branches c.loop-list.list-index (sum_by length (take c.loop-list.list-index lists)) c.add.result
    c.requires.many few twice c.requires.split c.loop-list.invariant.0
    (λ j h. subst (λ xs. IsTreeOf (suc c.args.below) (allowed_in c.args.table.now.rows) c.loop-list.nodes (get_or c.loop-list.children j 0) (get_or xs j [])) c.as_slice-list-items.ensures
    (c.loop-list.invariant.1.1 j (omega (arith, h, same, c.loop-list-test.false))))
    (c.in_ok-branches.ensures ∙ ap (λ xs. map (λ at. get_or xs at 0) c.as_slice-2.result.now) c.as_slice-3.ensures ∙ ap (map (λ at. get_or c.loop-list.children at 0)) c.as_slice-2.ensures)
    c.add.ensures
