use Rattle.std.proofs.Common.{subst, sym}
use Rattle.points.specs.Bundles.{setting_of}
use Rattle.jumptables.specs.Runs.{IsWhole}
use Rattle.jumptables.proofs.StartsWhole.{idle-whole}
use Rattle.jumptables.proofs.partial_run.PartialRun.begin_idly.Goals as goal

pub returns-clause-whole : goal.returns-clause-whole
returns-clause-whole c = let on = c.args.on.now in subst (IsWhole on.machine.now) (sym c.know_zero.ensures) (idle-whole (setting_of on))
