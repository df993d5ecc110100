use Rattle.std.proofs.Common.{true≢false, sym, ◌∙◌, arith, below_more}
use Rattle.jumptables.proofs.search.Search.first_cell.Goals as goal

pub loop-cell-preserved : goal.loop-cell-preserved
loop-cell-preserved c = record {
  below = below_more _ _ c.loop-cell.invariant.below (λ h. true≢false (sym (c.works.ensures.works.1 h) ∙ c.if-works.false));
  room = c.works.ensures.room;
}

pub returns-clause-least : goal.returns-clause-least
returns-clause-least c = λ x h.
    let there = h.cell.there in
    let len = c.len-cell-end.ensures in
    let end = c.loop-cell-test.false in
    c.loop-cell.invariant.below x (omega (arith, there, len, end)) h
