use Rattle.rtl_core.specs.Terms.{term_of}
use Rattle.rtl_meaning.proofs.Values.{nodes}
use Rattle.jumptables.proofs.influence.+touches.Given as goal

abbrev pub decreases-touches : goal.decreases-touches
decreases-touches l = nodes (term_of l.e.now)
