use Rattle.std.proofs.Common.{◌∙◌, ◌+◌, sym, ap, refl, subst, length, take, get_or}
use Rattle.params.specs.Leading.{AreAdded}
use Rattle.params.proofs.Turning.{added-key, added-other, item-more, length-set}
use Rattle.params.proofs.rows.add_list.Goals as goal
use Rattle.params.proofs.rows.add_list.Goals.{in-Some+in_ok-add_to_row, in_default}

pub loop-item-preserved : goal.loop-item-preserved
loop-item-preserved c =
    let keys = c.args.keys.now in
    let list = c.args.list.now in
    let at = c.loop-item.item-index in
    let x = get_or list at 0 in
    let old = c.args.rows.now.items in
    let mid = c.loop-item.rows.items in
    elim c.match-place_of.branch [
      | in-Some+in_ok-add_to_row w ↦ record {
        count = ap (λ r. length r.items) w.rows-is ∙ ap length w.in_ok-add_to_row.ensures ∙ length-set mid w.in-Some.at _ ∙ c.loop-item.invariant.count;
        added = λ long s. subst (λ r. AreAdded keys (take (at + 1) list) c.args.place old r.items) (sym w.rows-is)
            (subst (λ l. AreAdded keys l c.args.place old w.add_to_row.new.rows.items) (item-more list at x c.loop-item-test.true refl)
            (added-key keys c.args.place (take at list) x old mid (c.loop-item.invariant.added long s) s long w.in-Some.at w.add_to_row.new.rows.items (w.in-Some.ensures s) w.in_ok-add_to_row.ensures));
      }
      | in_default w ↦ record {
        count = ap (λ r. length r.items) w.rows-is ∙ c.loop-item.invariant.count;
        added = λ long s. subst (λ r. AreAdded keys (take (at + 1) list) c.args.place old r.items) (sym w.rows-is)
            (subst (λ l. AreAdded keys l c.args.place old mid) (item-more list at x c.loop-item-test.true refl)
            (added-other keys c.args.place (take at list) x old mid (c.loop-item.invariant.added long s) (w.in_default.ensures s)));
      }
    ]
