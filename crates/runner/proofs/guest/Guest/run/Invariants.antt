use Rattle.std.proofs.Common.{◌≡◌, ◌≤◌}
use Rattle.page_pool.specs.Frames.{spare_of}
use Rattle.paged_space.specs.Follows.{Follows, shared_of}
use Rattle.paged_space.specs.Moves.{StandIn}
use Rattle.points.specs.Control.{Flow}
use Rattle.runner.specs.Guests.{Runs}
use Rattle.runner.specs.Ran.{moment_of}
use Rattle.runner.specs.Shown.{IsReady}
use Rattle.runner.proofs.Going.{Gone}
use Rattle.runner.proofs.guest.Guest.run.Given as goal

-- as many steps went by, with their output taken
abbrev pub invariant-loop : goal.invariant-loop
invariant-loop g l = record {
  gone : (f : Flow) → Runs f l.fn.self → Gone f (moment_of l.fn.self.state l.fn.pool) (moment_of l.self.state l.pool) (g.K.Sink.output l.fn.out) (g.K.Sink.output l.out) l.counter;
  runs : (f : Flow) → Runs f l.fn.self → Runs f l.self;
  later : (g.K.Sink.output l.fn.out).faults ≤ (g.K.Sink.output l.out).faults;
  chart : l.self.chart ≡ l.fn.self.chart;
  ready : IsReady l.self;
  stands : StandIn l.self.state.space.frames l.pool;
  spare : shared_of l.self.state.space l.pool ≤ spare_of l.pool;
  follows : Follows l.fn.self.state.space l.self.state.space l.fn.pool l.pool;
}
