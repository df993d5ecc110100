use Rattle.rtl_core.specs.Terms.{term_of}
use Rattle.rtl_meaning.proofs.Values.{nodes}
use Rattle.rtl_meaning.proofs.evaluation.+width_of_expr.Given as goal

abbrev pub decreases-width_of_expr : goal.decreases-width_of_expr
decreases-width_of_expr l = nodes (term_of l.e.now)
