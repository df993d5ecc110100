use Rattle.rtl_core.specs.Terms.{term_of}
use Rattle.c_lower.specs.Code.{nodes}
use Rattle.c_lower.proofs.expression.+lower_expr.Given as goal

abbrev pub decreases-lower_expr : goal.decreases-lower_expr
decreases-lower_expr l = nodes (term_of l.e.now)
