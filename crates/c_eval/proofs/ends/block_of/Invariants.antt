use Rattle.std.proofs.Common.{◌≡◌, drop}
use Rattle.c_lang.specs.Step.{block_of}
use Rattle.c_eval.proofs.ends.block_of.Given as goal

abbrev pub invariant-loop-b : goal.invariant-loop-b
invariant-loop-b l = block_of (drop l.b-index l.blocks) l.to ≡ block_of l.blocks l.to
