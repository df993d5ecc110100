use Rattle.std.proofs.Common.{◌≡◌, ◌-◌, true, subst}
use Rattle.points.specs.Bundles.{setting_of}
use Rattle.stepper.specs.LineEnds.{along, ends_within}
use Rattle.stepper.proofs.LineLaws.{next_ends}
use Rattle.stepper.proofs.ends.line_ends.Goals as goal

pub loop-preserved : goal.loop-preserved
loop-preserved c =
    let s = setting_of c.args.on.now in
    let n = c.args.most in
    let i = c.loop.counter in
    next_ends s i n c.loop-test.true c.in-Some.pc c.in_ok-place.place (ends_within s n c.args.entry)
    (subst (λ p. along true p (ends_within s (n - i)) ≡ ends_within s n c.args.entry) c.in-Some.is c.loop.invariant) c.in_ok-place.ensures
