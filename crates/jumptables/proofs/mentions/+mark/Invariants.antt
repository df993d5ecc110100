use Rattle.rtl_core.specs.Terms.{term_of}
use Rattle.rtl_meaning.proofs.Values.{nodes}
use Rattle.jumptables.proofs.mentions.+mark.Given as goal

abbrev pub decreases-mark : goal.decreases-mark
decreases-mark l = nodes (term_of l.e.now)
