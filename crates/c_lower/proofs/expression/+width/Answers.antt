use Rattle.std.proofs.Common.{arith}
use Rattle.c_lower.proofs.Parts.{slice_in}
use Rattle.c_lower.proofs.expression.+width.Goals as goal

pub overflow_add-result : goal.overflow_add-result
overflow_add-result t c = let h = slice_in _ _ _ _ _ 0 c.in-Slice.is c.requires in omega (arith, h.1)
