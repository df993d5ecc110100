use Rattle.rtl_core.specs.Terms.{term_of}
use Rattle.rtl_meaning.proofs.Values.{nodes}
use Rattle.rtl_meaning.proofs.evaluation.+eval.Given as goal

abbrev pub decreases-eval : goal.decreases-eval
decreases-eval g l = nodes (term_of l.e.now)
