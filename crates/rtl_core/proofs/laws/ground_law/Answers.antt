use Rattle.rtl_core.proofs.GroundsSound.{grounds_sound}
use Rattle.rtl_core.proofs.laws.ground_law.Goals as goal

pub returns : goal.returns
returns c = grounds_sound
