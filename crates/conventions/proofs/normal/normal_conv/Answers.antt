use Rattle.conventions.proofs.Sound.{sound_normal}
use Rattle.conventions.proofs.normal.normal_conv.Goals as goal

pub returns-clause-sound : goal.returns-clause-sound
returns-clause-sound c = λ machine names. sound_normal c.args.enc.now c.args.named.now c.args.lines.now c.in_ok-conv.conv machine names c.in_ok-conv.ensures.value
