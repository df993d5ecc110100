use Rattle.std.proofs.Common.{◌∙◌, sym, arith}
use Rattle.points.specs.Bundles.{setting_of}
use Rattle.points.proofs.StandingSound.{standing-sound}
use Rattle.points.proofs.jumps.block_at.Goals as goal

pub kind_of-requires-clause-transfers : goal.kind_of-requires-clause-transfers
kind_of-requires-clause-transfers c =
    standing-sound (setting_of c.args.on.now) c.args.pc c.in-Stands.inst c.requires.sound.machine.machine (omega arith) (sym c.in_ok-standing_at.ensures ∙ c.in-Stands.is)
