use Rattle.std.proofs.Common.{◌++◌, option_to_list, ap, ◌∙◌}
use Rattle.std.proofs.lemmas.Result.{on_ok_weaker}
use Rattle.sled_rules.specs.Operands.{name_binds, part_binds}
use Rattle.sled_rules.proofs.RestLaws.{binds_with, binds_without, filter_step}
use Rattle.sled_rules.proofs.operands.push_item.Goals as goal

pub loop-part-preserved : goal.loop-part-preserved
loop-part-preserved c =
    filter_step (part_binds c.args.names.now c.args.ops.now) c.as_slice-part-items.result.now c.loop-part.part-index c.part-item.result c.args.binds.now.items
    c.loop-part.binds.items c.push_bound.new.binds.items c.part_binds.result c.loop-part-test.true c.part-item.is c.loop-part.invariant c.part_binds.ensures
    c.in_ok-push_bound.ensures

pub returns-in-None : goal.returns-in-None
returns-in-None c =
    binds_without c.args.names.now c.args.ops.now c.args.item.now c.as_slice-part-items.result.now c.loop-part.part-index c.args.binds.now.items c.loop-part.binds.items
    c.in-None.is c.as_slice-part-items.ensures c.loop-part-test.false c.loop-part.invariant

pub returns-in-Some : goal.returns-in-Some
returns-in-Some c =
    on_ok_weaker c.push_bound-in-Some.result
    (λ pushed. binds_with c.args.names.now c.args.ops.now c.args.item.now c.as_slice-part-items.result.now c.loop-part.part-index c.in-Some.rest c.args.binds.now.items
    c.loop-part.binds.items c.push_bound-in-Some.new.binds.items c.in-Some.is c.as_slice-part-items.ensures c.loop-part-test.false c.loop-part.invariant
    (pushed ∙ ap (λ o. c.loop-part.binds.items ++ option_to_list o) (c.name_binds.ensures ∙ ap (λ n. name_binds c.args.names.now c.args.ops.now n) c.as_slice.ensures)))
    c.push_bound-in-Some.ensures
