use Rattle.rtl_core.specs.Terms.{term_of}
use Rattle.c_lower.specs.Code.{nodes}
use Rattle.c_lower.proofs.temporary_count.+of_expr.Given as goal

abbrev pub decreases-of_expr : goal.decreases-of_expr
decreases-of_expr l = nodes (term_of l.e.now)
