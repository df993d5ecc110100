use Rattle.ssl_core.proofs.TypingLemmas.{table_more, table_all}
use Rattle.ssl_core.proofs.constructors.type_table.Goals as goal

pub loop-kind-preserved : goal.loop-kind-preserved
loop-kind-preserved c =
    table_more c.args.enc.now c.requires.types c.as_slice-constructors-items.result.now c.loop-kind.types c.put_types.new.types c.loop-kind.kind c.constructors-item.result c.as_slice.result.now
    c.as_slice-constructors-items.ensures c.loop-kind-test.true c.constructors-item.is c.as_slice.ensures c.put_types.ensures c.loop-kind.invariant

pub returns : goal.returns
returns c =
    table_all c.args.enc.now c.requires.types c.as_slice-constructors-items.result.now c.loop-kind.types c.loop-kind.kind c.as_slice-constructors-items.ensures c.loop-kind-test.false c.loop-kind.invariant
