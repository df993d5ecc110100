use Rattle.std.proofs.Common.{◌≡◌, List, ap, ◌∙◌}
use Rattle.std.proofs.lemmas.Result.{IfOk-weaker}
use Rattle.rtl_core.specs.declared.encodings.Item.{Item}
use Rattle.sled_rules.specs.Alternatives.{choices, item_choices, lone_choices, onto_first}
use Rattle.sled_rules.specs.Meanings.{named}
use Rattle.sled_rules.specs.Operands.{operand_of}
use Rattle.sled_rules.proofs.ChoiceLaws.{choices_with}
use Rattle.sled_rules.proofs.CountLaws.{part_rows}
use Rattle.sled_rules.proofs.RestLaws.{without_rest}
use Rattle.sled_rules.proofs.expanding.item_choices.Goals as goal

pub returns-in-None : goal.returns-in-None
returns-in-None c =
    c.loop-part.invariant
    ∙ ap (part_rows c.args.names.now c.args.ops.now)
    (without_rest c.args.item.now c.as_slice-part-items.result.now c.loop-part.part-index c.in-None.is c.as_slice-part-items.ensures c.loop-part-test.false)

pub returns-in-Some : goal.returns-in-Some
returns-in-Some c =
    IfOk-weaker c.with_lone.result
    (λ all. all ≡ choices onto_first c.as_slice-in-Some-2.result.now (lone_choices c.operand_of-operand.result (named c.args.names.now c.as_slice-in-Some-3.result.now)))
    (λ all. all ≡ item_choices c.args.names.now c.args.ops.now c.args.item.now)
    (λ all e. choices_with c.args.names.now c.args.ops.now c.args.item.now c.as_slice-part-items.result.now c.loop-part.part-index c.in-Some.rest c.loop-part.xs all c.in-Some.is
    c.as_slice-part-items.ensures c.loop-part-test.false c.loop-part.invariant
    (e
    ∙ ap (λ xs. choices onto_first xs (lone_choices c.operand_of-operand.result (named c.args.names.now c.as_slice-in-Some-3.result.now))) c.as_slice-in-Some-2.ensures
    ∙ ap (λ k. choices onto_first c.loop-part.xs (lone_choices k (named c.args.names.now c.as_slice-in-Some-3.result.now)))
    (c.operand_of-operand.ensures.exact ∙ ap (operand_of c.args.ops.now) c.as_slice-in-Some.ensures)
    ∙ ap (λ n. choices onto_first c.loop-part.xs (lone_choices (operand_of c.args.ops.now c.in-Some.rest) (named c.args.names.now n))) c.as_slice-in-Some-3.ensures))
    c.with_lone.ensures
