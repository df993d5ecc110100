use Rattle.std.proofs.Common.{ℕ, List, [], ◌∷◌, ◌++◌, length}
use Rattle.sled_rules.specs.Alternatives.{item_choices}
use Rattle.sled_rules.proofs.CountLaws.{capped_again, count_fold}
use Rattle.sled_rules.proofs.counting.sequence_count.Goals as goal

pub loop-item-preserved : goal.loop-item-preserved
loop-item-preserved c = λ ops.
    count_fold (item_choices c.args.names.now ops) ◌++◌ ([] ∷ []) c.args.items.now c.loop-item.item-index c.item-item.result c.loop-item.count c.item_count.result
    c.times-count.result c.loop-item-test.true c.item-item.is (c.loop-item.invariant ops)
    (capped_again c.item_count.result (length (item_choices c.args.names.now ops c.item-item.result)) (c.item_count.ensures ops)) c.times-count.ensures
