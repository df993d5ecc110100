use Rattle.std.proofs.Common.{true≢false, sym, ◌∙◌, ap, arith, below_more}
use Rattle.points.specs.PartialRuns.{PartialEnd}
use Rattle.jumptables.proofs.search.Search.leaving.Goals as goal

pub loop-x-preserved : goal.loop-x-preserved
loop-x-preserved c = record {
  below = below_more _ _ c.loop-x.invariant.below (λ h. true≢false (sym h.leaves ∙ sym (ap (λ (e : PartialEnd). e.leaves) c.run.ensures.is) ∙ c.if-run.false));
  room = c.run.ensures.room;
}

pub returns-clause-least : goal.returns-clause-least
returns-clause-least c = λ x h. let most = h.most in let end = c.loop-x-test.false in c.loop-x.invariant.below x (omega (arith, most, end)) h
