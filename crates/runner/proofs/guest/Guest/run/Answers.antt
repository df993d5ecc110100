use Rattle.std.proofs.Common.{arith, refl, ◌∙◌}
use Rattle.paged_space.specs.FollowsLaws.{follows_same, follows_next}
use Rattle.runner.specs.Ran.{moment_of}
use Rattle.runner.proofs.Going.{gone-none, gone-on, gone-all, came-end, took-end}
use Rattle.runner.proofs.guest.Guest.run.Goals as goal

pub loop-init : goal.loop-init
loop-init g c = record {
  gone = λ f at. gone-none f (moment_of c.args.self.now.state c.args.pool.now) (g.K.Sink.output c.args.out.now);
  runs = λ f at. at;
  later = omega arith;
  chart = refl;
  ready = c.requires.ready;
  stands = c.requires.stands;
  spare = c.requires.spare;
  follows = follows_same _ _;
}

pub loop-preserved : goal.loop-preserved
loop-preserved g c =
    let i = c.loop.invariant in
    let e = c.run_one-end.ensures in
    let old = moment_of c.args.self.now.state c.args.pool.now in
    let now = moment_of c.loop.self.state c.loop.pool in
    let new = moment_of c.run_one-end.new.self.state c.run_one-end.new.pool in
    let a = g.K.Sink.output c.args.out.now in
    let b = g.K.Sink.output c.loop.out in
    let d = g.K.Sink.output c.run_one-end.new.out in
    record {
      gone = λ f at. gone-on f old now a b c.loop.counter (i.gone f at) new d c.run_one-end.result c.in-Spent.is (e.adds f (i.runs f at)) (e.came f (i.runs f at)) (e.took f (i.runs f at)) e.later;
      runs = λ f at. e.runs f (i.runs f at) c.in-Spent.is;
      later = omega (arith, i.later, e.later);
      chart = e.chart ∙ i.chart;
      ready = e.again c.in-Spent.is;
      stands = e.stands;
      spare = e.spare;
      follows = follows_next _ _ _ _ _ _ i.follows e.follows;
    }

pub returns-in_default-clause-came : goal.returns-in_default-clause-came
returns-in_default-clause-came g c = λ f at.
    let i = c.loop.invariant in
    came-end f (moment_of c.args.self.now.state c.args.pool.now) (moment_of c.loop.self.state c.loop.pool) (g.K.Sink.output c.args.out.now) (g.K.Sink.output c.loop.out) c.loop.counter (i.gone f at) c.args.n c.loop-test.true
    c.run_one-end.result (moment_of c.run_one-end.new.self.state c.run_one-end.new.pool) c.in_default.not-Spent (c.run_one-end.ensures.came f (i.runs f at))

pub returns-in_default-clause-took : goal.returns-in_default-clause-took
returns-in_default-clause-took g c = λ f at.
    let i = c.loop.invariant in
    let e = c.run_one-end.ensures in
    took-end f (moment_of c.args.self.now.state c.args.pool.now) (moment_of c.loop.self.state c.loop.pool) (g.K.Sink.output c.args.out.now) (g.K.Sink.output c.loop.out) c.loop.counter (i.gone f at) c.args.n c.loop-test.true
    c.run_one-end.result (moment_of c.run_one-end.new.self.state c.run_one-end.new.pool) (g.K.Sink.output c.run_one-end.new.out) c.in_default.not-Spent (e.adds f (i.runs f at)) (e.came f (i.runs f at)) (e.took f (i.runs f at))

pub returns-in_default-clause-follows : goal.returns-in_default-clause-follows
returns-in_default-clause-follows g c = follows_next _ _ _ _ _ _ c.loop.invariant.follows c.run_one-end.ensures.follows

pub returns-clause-came : goal.returns-clause-came
returns-clause-came g c = λ f at.
    (gone-all f (moment_of c.args.self.now.state c.args.pool.now) (moment_of c.loop.self.state c.loop.pool) (g.K.Sink.output c.args.out.now) (g.K.Sink.output c.loop.out) c.loop.counter c.args.n c.loop-test.false (omega arith) (c.loop.invariant.gone f at)).came

pub returns-clause-took : goal.returns-clause-took
returns-clause-took g c = λ f at.
    (gone-all f (moment_of c.args.self.now.state c.args.pool.now) (moment_of c.loop.self.state c.loop.pool) (g.K.Sink.output c.args.out.now) (g.K.Sink.output c.loop.out) c.loop.counter c.args.n c.loop-test.false (omega arith) (c.loop.invariant.gone f at)).taken
