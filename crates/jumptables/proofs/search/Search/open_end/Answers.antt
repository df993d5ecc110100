use Rattle.std.proofs.Common.{subst, below_more}
use Rattle.points.specs.Tables.{GivesCode}
use Rattle.jumptables.proofs.search.Search.open_end.Goals as goal

pub loop-x-preserved : goal.loop-x-preserved
loop-x-preserved c = record {
  below = below_more _ _ c.loop-x.invariant.below (subst (GivesCode c.args.self.now.on.frozen.now) c.run-end.ensures.is (c.gives_code.ensures.0 c.if-not-gives_code.false));
  room = c.run-end.ensures.room;
}
