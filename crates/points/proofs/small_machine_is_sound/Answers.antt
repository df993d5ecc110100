use Rattle.points.proofs.SmallIsSound.{small_sound}
use Rattle.points.proofs.small_machine_is_sound.Goals as goal

pub returns : goal.returns
returns c = small_sound
