use Rattle.conventions.proofs.Tables.{more_named, all_named}
use Rattle.conventions.proofs.instructions.Instructions.of.Goals as goal

pub loop-number-preserved : goal.loop-number-preserved
loop-number-preserved c =
    more_named c.args.enc.now c.instruction_numbers-number-items.result.now c.loop-number.number-index c.name_of-name.result.now c.loop-number.table c.add.new.self
    c.instruction_numbers-number-items.ensures c.loop-number-test.true c.loop-number.invariant c.name_of-name.ensures c.in_ok-add.ensures

pub returns : goal.returns
returns c =
    all_named c.args.enc.now c.instruction_numbers-number-items.result.now c.loop-number.number-index c.loop-number.table
    c.instruction_numbers-number-items.ensures c.loop-number-test.false c.loop-number.invariant
