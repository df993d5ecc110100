use Rattle.points.specs.Bundles.{setting_of}
use Rattle.points.proofs.FoundStands.{found-grounds}
use Rattle.points.proofs.decoding.standing_at.Goals as goal

pub ground-requires : goal.ground-requires
ground-requires c = found-grounds (setting_of c.args.on.now) c.args.pc c.in-Inst.found c.requires.sound.machine c.in-Inst.ensures
