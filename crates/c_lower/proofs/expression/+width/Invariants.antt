use Rattle.rtl_core.specs.Terms.{term_of}
use Rattle.c_lower.specs.Code.{nodes}
use Rattle.c_lower.proofs.expression.+width.Given as goal

abbrev pub decreases-width : goal.decreases-width
decreases-width l = nodes (term_of l.e.now)
