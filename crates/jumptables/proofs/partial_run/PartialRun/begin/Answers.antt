use Rattle.std.proofs.Common.{subst, sym}
use Rattle.points.specs.Bundles.{setting_of}
use Rattle.jumptables.specs.Runs.{IsWhole}
use Rattle.jumptables.proofs.StartsWhole.{starts-whole}
use Rattle.jumptables.proofs.partial_run.PartialRun.begin.Goals as goal

pub returns-clause-whole : goal.returns-clause-whole
returns-clause-whole c =
    let a = c.args in
    subst (IsWhole a.on.now.machine.now) (sym c.know_only.ensures) (starts-whole (setting_of a.on.now) a.cell a.x c.requires.cell c.requires.not_zero c.requires.small)
