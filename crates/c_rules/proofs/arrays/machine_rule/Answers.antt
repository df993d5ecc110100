use Rattle.c_rules.proofs.MachineLaws.{all_kept, is_long, not_placed, not_sized}
use Rattle.c_rules.proofs.arrays.machine_rule.Goals as goal

pub returns-then-not-is_machine : goal.returns-then-not-is_machine
returns-then-not-is_machine c = λ t. not_sized t c.args.machine.now c.is_machine.result (c.is_machine.ensures t) c.if-not-is_machine.true

pub are_placed-requires : goal.are_placed-requires
are_placed-requires c = is_long c.args.machine.now c.is_machine.result c.is_machine.ensures c.if-not-is_machine.false

pub returns-then-not-are_placed : goal.returns-then-not-are_placed
returns-then-not-are_placed c = λ t. not_placed t c.args.machine.now c.is_machine.result (c.is_machine.ensures t) c.are_placed.result (c.are_placed.ensures t) c.if-not-is_machine.false c.if-not-are_placed.true

pub returns : goal.returns
returns c = λ t. all_kept t c.args.machine.now c.is_machine.result (c.is_machine.ensures t) c.are_placed.result (c.are_placed.ensures t) c.if-not-is_machine.false c.if-not-are_placed.false
