use Rattle.std.proofs.Common.{ℕ, List, [], ◌∷◌, min, length, ap, ◌∙◌}
use Rattle.sled_rules.specs.Alternatives.{lone_choices, nothing_asked, onto_first, part_choices}
use Rattle.sled_rules.specs.Meanings.{named}
use Rattle.sled_rules.specs.Operands.{operand_of}
use Rattle.sled_rules.proofs.CountLaws.{count_fold, count_with_rest, count_without_rest}
use Rattle.sled_rules.proofs.counting.item_count.Goals as goal

pub loop-part-preserved : goal.loop-part-preserved
loop-part-preserved c = λ ops.
    count_fold (part_choices c.args.names.now ops) onto_first ((nothing_asked ∷ []) ∷ []) c.as_slice-part-items.result.now c.loop-part.part-index c.part-item.result
    c.loop-part.count c.part_count.result c.times-count.result c.loop-part-test.true c.part-item.is (c.loop-part.invariant ops)
    (ap (λ n. min n 257) (c.part_count.ensures ops)) c.times-count.ensures

pub returns-in-None : goal.returns-in-None
returns-in-None c = λ ops.
    count_without_rest c.args.names.now ops c.args.item.now c.as_slice-part-items.result.now c.loop-part.part-index c.loop-part.count c.in-None.is
    c.as_slice-part-items.ensures c.loop-part-test.false (c.loop-part.invariant ops)

pub returns-in-Some : goal.returns-in-Some
returns-in-Some c = λ ops.
    count_with_rest c.args.names.now ops c.args.item.now c.as_slice-part-items.result.now c.loop-part.part-index c.in-Some.rest c.loop-part.count c.name_count.result
    c.times.result c.in-Some.is c.as_slice-part-items.ensures c.loop-part-test.false (c.loop-part.invariant ops)
    (c.name_count.ensures (operand_of ops c.in-Some.rest)
    ∙ ap (λ n. length (lone_choices (operand_of ops c.in-Some.rest) (named c.args.names.now n))) c.as_slice.ensures)
    c.times.ensures
