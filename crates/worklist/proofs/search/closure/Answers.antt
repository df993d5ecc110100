use Rattle.std.proofs.Common.{◌≡◌, ◌<◌, List, length, ◌∙◌, ap, arith, rules}
use Rattle.std.proofs.lemmas.Result.{err_from_is_err_and}
use Rattle.worklist.specs.Closures.{InClosure}
use Rattle.worklist.proofs.AscendingLists.{no_more}
use Rattle.worklist.proofs.Searched.{only_starts, searched_none, searched_in_part, searched_one_more, still_within, searched_all, are_more}
use Rattle.worklist.proofs.search.closure.Goals as goal

pub returns-in_err-insert_each-clause-over : goal.returns-in_err-insert_each-clause-over
returns-in_err-insert_each-clause-over g c =
    let p = err_from_is_err_and c.from_residual.result c.from_residual.ensures.1 in
    let next = g.S.Successors.next c.args.steps.now in
    rw (p.1, p.2) (λ f. are_more next c.args.starts.now g.T.PartialEq.eq c.insert_each.new.set.keys c.args.limit (only_starts next c.args.starts.now c.new-found.result.keys c.insert_each.new.set.keys c.new-found.ensures.empty c.insert_each.ensures.extended) (c.in_err-insert_each.ensures.over f))

pub loop-at-init : goal.loop-at-init
loop-at-init g c = record {
  searched = searched_none (g.S.Successors.next c.args.steps.now) c.args.starts.now c.new-found.result.keys c.insert_each.new.set.keys c.new-found.ensures.empty c.insert_each.ensures.extended c.in_ok-insert_each.ensures.all;
  bound = omega arith;
  within = c.in_ok-insert_each.ensures.within;
  same = search rules;
  ready = c.requires.ready;
  stays = λ earlier h. h;
}

-- what is one step behind the item, by the steps of the start
behind : {T : Type 0} (next later : T → List T) (items : List T) (x : T) → later ≡ next → items ≡ later x → items ≡ next x
behind next later items x same is = is ∙ ap (λ f. f x) same

pub returns-in_err-insert_each-2-clause-over : goal.returns-in_err-insert_each-2-clause-over
returns-in_err-insert_each-2-clause-over g c =
    let p = err_from_is_err_and c.from_residual-in_err-insert_each-2.result c.from_residual-in_err-insert_each-2.ensures.1 in
    let next = g.S.Successors.next c.args.steps.now in
    let items = c.deref.ensures.value ∙ behind next (g.S.Successors.next c.loop-at.steps) c.in_ok-next.next.items c.index-as_slice-at.result c.loop-at.invariant.same c.in_ok-next.ensures.next in
    let lt : c.loop-at.at < length c.loop-at.found.keys = omega (arith, c.len.ensures.len) in
    let e = searched_in_part next c.args.starts.now c.deref.result.now c.loop-at.found.keys c.insert_each-in-loop-at.new.set.keys c.as_slice.result.now c.loop-at.at c.index-as_slice-at.result c.as_slice.ensures.keys lt c.index-as_slice-at.is items c.loop-at.invariant.searched c.insert_each-in-loop-at.ensures.extended in
    rw (p.1, p.2) (λ f. are_more next c.args.starts.now g.T.PartialEq.eq c.insert_each-in-loop-at.new.set.keys c.args.limit e.only (c.in_err-insert_each-2.ensures.over f))

pub loop-at-preserved : goal.loop-at-preserved
loop-at-preserved g c =
    let next = g.S.Successors.next c.args.steps.now in
    let items = c.deref.ensures.value ∙ behind next (g.S.Successors.next c.loop-at.steps) c.in_ok-next.next.items c.index-as_slice-at.result c.loop-at.invariant.same c.in_ok-next.ensures.next in
    let lt : c.loop-at.at < length c.loop-at.found.keys = omega (arith, c.len.ensures.len) in
    record {
      searched = searched_one_more next c.args.starts.now c.deref.result.now c.loop-at.found.keys c.insert_each-in-loop-at.new.set.keys c.as_slice.result.now c.loop-at.at c.index-as_slice-at.result c.as_slice.ensures.keys lt c.index-as_slice-at.is items c.loop-at.invariant.searched c.insert_each-in-loop-at.ensures.extended c.in_ok-insert_each-2.ensures.all;
      bound = still_within next c.args.starts.now c.deref.result.now c.loop-at.found.keys c.insert_each-in-loop-at.new.set.keys c.as_slice.result.now c.loop-at.at c.index-as_slice-at.result c.as_slice.ensures.keys lt c.index-as_slice-at.is items c.loop-at.invariant.searched c.insert_each-in-loop-at.ensures.extended;
      within = c.in_ok-insert_each-2.ensures.within;
      same = c.successors.ensures.same ∙ c.loop-at.invariant.same;
      ready = c.successors.ensures.ready;
      stays = λ earlier h. c.successors.ensures.stays earlier (c.loop-at.invariant.stays earlier h);
    }

pub returns-clause-whole : goal.returns-clause-whole
returns-clause-whole g c = searched_all (g.S.Successors.next c.args.steps.now) c.args.starts.now c.loop-at.found.keys c.loop-at.at c.loop-at.invariant.bound (omega (arith, c.len.ensures.len)) c.loop-at.invariant.searched

pub returns-clause-enough : goal.returns-clause-enough
returns-clause-enough g c = λ m.
    let next = g.S.Successors.next c.args.steps.now in
    let all = searched_all next c.args.starts.now c.loop-at.found.keys c.loop-at.at c.loop-at.invariant.bound (omega (arith, c.len.ensures.len)) c.loop-at.invariant.searched in
    no_more g.T.PartialEq.eq g.met.T.Eq.laws c.requires.same (InClosure next c.args.starts.now) c.loop-at.found.keys c.args.limit all c.loop-at.invariant.within m
