use Rattle.rtl_core.specs.Terms.{term_of}
use Rattle.rtl_meaning.proofs.Values.{nodes}
use Rattle.jumptables.proofs.values.+is_known.Given as goal

abbrev pub decreases-is_known : goal.decreases-is_known
decreases-is_known l = nodes (term_of l.e.now)
