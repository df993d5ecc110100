use Rattle.std.proofs.Common.{arith}
use Rattle.rtl_meaning.proofs.Values.{slice_within}
use Rattle.rtl_meaning.proofs.evaluation.+eval.Goals as goal

pub bits-requires-clause-within : goal.bits-requires-clause-within
bits-requires-clause-within g t c = let h = slice_within _ _ _ _ _ c.in-Slice.is c.requires.sound in omega (arith, h.1)
