use Rattle.std.proofs.Common.{ap, ◌∙◌}
use Rattle.sled_rules.specs.Meanings.{named}
use Rattle.sled_rules.specs.Starts.{join, meaning_start}
use Rattle.sled_rules.proofs.RestLaws.{start_with, start_without}
use Rattle.sled_rules.proofs.starts.item_start.Goals as goal

pub returns-in-None : goal.returns-in-None
returns-in-None c =
    start_without c.args.names.now c.args.facts.now c.args.item.now c.as_slice-part-items.result.now c.loop-part.part-index c.loop-part.start c.in-None.is
    c.as_slice-part-items.ensures c.loop-part-test.false c.loop-part.invariant

pub returns-in-Some : goal.returns-in-Some
returns-in-Some c =
    start_with c.args.names.now c.args.facts.now c.args.item.now c.as_slice-part-items.result.now c.loop-part.part-index c.in-Some.rest c.loop-part.start c.join.result
    c.in-Some.is c.as_slice-part-items.ensures c.loop-part-test.false c.loop-part.invariant
    (c.join.ensures
    ∙ ap (join c.loop-part.start)
    (c.name_start.ensures ∙ ap (λ n. meaning_start c.args.facts.now (named c.args.names.now n)) c.as_slice.ensures))
