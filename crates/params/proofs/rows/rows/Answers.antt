use Rattle.std.proofs.Common.{◌∙◌, subst}
use Rattle.params.specs.Leading.{AreAdded}
use Rattle.params.proofs.Turning.{rows-next}
use Rattle.params.proofs.rows.rows.Goals as goal

pub loop-place-preserved : goal.loop-place-preserved
loop-place-preserved c = record {
  count = c.in_ok-add_list.ensures.count ∙ c.loop-place.invariant.count;
  rows = λ s. rows-next c.args.keys.now c.args.lists.now c.loop-place.place c.index-lists-place.result c.loop-place.rows.items c.add_list.new.rows.items c.loop-place-test.true c.index-lists-place.is (c.loop-place.invariant.rows s)
      (subst (λ l. AreAdded c.args.keys.now l c.loop-place.place c.loop-place.rows.items c.add_list.new.rows.items) c.as_slice.ensures (c.in_ok-add_list.ensures.added c.loop-place.invariant.count s));
}
