use Rattle.std.proofs.Common.{arith}
use Rattle.rtl_meaning.proofs.Values.{slice_within}
use Rattle.rtl_meaning.proofs.evaluation.+width_of_expr.Goals as goal

pub overflow_add-result : goal.overflow_add-result
overflow_add-result t c = let h = slice_within _ _ _ _ _ c.in-Slice.is c.requires in omega (arith, h.1)
