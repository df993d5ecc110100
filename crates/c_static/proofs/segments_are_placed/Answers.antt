use Rattle.c_static.proofs.ImagePlaces.{segments-are-placed}
use Rattle.c_static.proofs.segments_are_placed.Goals as goal

pub returns : goal.returns
returns c = segments-are-placed
