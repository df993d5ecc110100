use Rattle.std.proofs.Common.{◌∙◌}
use Rattle.points.specs.Bundles.{setting_of}
use Rattle.points.proofs.FoundStands.{second-outside, second-illegal, second-found}
use Rattle.points.proofs.jumps.second.Goals as goal

pub returns-in-Outside : goal.returns-in-Outside
returns-in-Outside c = second-outside (setting_of c.args.on.now) c.args.r c.in-Outside.ensures

pub returns-in-Illegal : goal.returns-in-Illegal
returns-in-Illegal c = second-illegal (setting_of c.args.on.now) c.args.r c.in-Illegal.ensures

pub returns-in-Inst : goal.returns-in-Inst
returns-in-Inst c = c.behind_pad.ensures ∙ second-found (setting_of c.args.on.now) c.args.r c.in-Inst.found c.requires.sound.machine c.in-Inst.ensures
