use Rattle.ssl_core.proofs.NumberLemmas.{named_items}
use Rattle.ssl_core.proofs.constructors.numbers_of.Goals as goal

pub returns : goal.returns
returns c =
    named_items c.args.enc.now c.as_slice-coded-items.result.now c.loop-number.number c.loop-number.numbers c.as_slice-coded-items.ensures c.loop-number-test.false c.loop-number.invariant
