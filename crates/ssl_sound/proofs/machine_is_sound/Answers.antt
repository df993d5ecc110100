use Rattle.ssl_sound.proofs.Sound.{machine-is-sound}
use Rattle.ssl_sound.proofs.machine_is_sound.Goals as goal

pub returns : goal.returns
returns c = machine-is-sound
