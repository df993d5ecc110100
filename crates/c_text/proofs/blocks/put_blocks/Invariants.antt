use Rattle.std.proofs.Common.{take}
use Rattle.std.specs.List.{flat_map}
use Rattle.c_text.specs.Blocks.{block_toks}
use Rattle.c_text.specs.Output.{Wrote}
use Rattle.c_text.proofs.blocks.put_blocks.Given as goal

abbrev pub invariant-loop-block : goal.invariant-loop-block
invariant-loop-block g l = Wrote (g.K.Sink.output l.initial.out) (g.K.Sink.output l.out) (flat_map (block_toks) (take l.block-index l.blocks))
