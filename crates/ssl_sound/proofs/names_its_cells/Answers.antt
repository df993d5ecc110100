use Rattle.ssl_sound.proofs.Sound.{names-its-cells}
use Rattle.ssl_sound.proofs.names_its_cells.Goals as goal

pub returns : goal.returns
returns c = names-its-cells
