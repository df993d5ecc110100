use Rattle.std.proofs.Common.{arith}
use Rattle.worklist.proofs.Extended.{extended_insert, all_insert, all_inserted}
use Rattle.worklist.proofs.search.insert_each.Goals as goal

pub returns-then-len-limit-clause-extended : goal.returns-then-len-limit-clause-extended
returns-then-len-limit-clause-extended g c =
    extended_insert g.T.PartialEq.eq c.requires.same c.args.items.now _ _ _ c.item-item.result c.loop-item.item-index c.loop-item-test.true c.item-item.is c.in_ok-insert.ensures.keys c.loop-item.invariant.extended

pub loop-item-preserved : goal.loop-item-preserved
loop-item-preserved g c = record {
  extended = extended_insert g.T.PartialEq.eq c.requires.same c.args.items.now _ _ _ c.item-item.result c.loop-item.item-index c.loop-item-test.true c.item-item.is c.in_ok-insert.ensures.keys c.loop-item.invariant.extended;
  all = all_insert g.T.PartialEq.eq c.requires.same c.args.items.now _ _ c.item-item.result c.loop-item.item-index c.loop-item-test.true c.item-item.is c.in_ok-insert.ensures.keys c.loop-item.invariant.all;
  within = omega (arith, c.len.ensures.len);
}

pub returns-clause-all : goal.returns-clause-all
returns-clause-all g c = all_inserted g.T.PartialEq.eq c.requires.same c.args.items.now c.loop-item.set.keys c.loop-item.item-index c.loop-item-test.false c.loop-item.invariant.all
