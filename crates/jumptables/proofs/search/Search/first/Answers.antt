use Rattle.std.proofs.Common.{arith, below_more}
use Rattle.jumptables.proofs.search.Search.first.Goals as goal

pub loop-count-preserved : goal.loop-count-preserved
loop-count-preserved c = record { below = below_more _ _ c.loop-count.invariant.below c.in_default.ensures.first; room = c.in_default.ensures.room }

pub returns-clause-first : goal.returns-clause-first
returns-clause-first c = λ n le. let end = c.loop-count-test.false in c.loop-count.invariant.below n (omega (arith, le, end))
