use Rattle.std.proofs.Common.{arith, ap, sym}
use Rattle.c_text.specs.Blocks.{block_toks}
use Rattle.c_text.proofs.Loops.{wrote_next, broke_next, wrote_end}
use Rattle.c_text.proofs.Written.{wrote_nothing, wrote_as, broke_as, any_err}
use Rattle.c_text.proofs.blocks.put_blocks.Goals as goal

pub loop-block-init : goal.loop-block-init
loop-block-init g c = wrote_nothing

pub returns-in_err-put_block-clause-broke : goal.returns-in_err-put_block-clause-broke
returns-in_err-put_block-clause-broke g c = any_err _ (broke_next (block_toks) c.args.blocks.now c.loop-block.block-index c.block-item.result (omega arith) c.loop-block.invariant (broke_as (ap (block_toks) (sym c.block-item.is)) c.in_err-put_block.ensures.broke))

pub loop-block-preserved : goal.loop-block-preserved
loop-block-preserved g c = wrote_next (block_toks) c.args.blocks.now c.loop-block.block-index c.block-item.result (omega arith) c.loop-block.invariant (wrote_as (ap (block_toks) (sym c.block-item.is)) c.in_ok-put_block.ensures.wrote)

pub returns-clause-wrote : goal.returns-clause-wrote
returns-clause-wrote g c = wrote_end (block_toks) c.args.blocks.now c.loop-block.block-index c.loop-block-test.false c.loop-block.invariant
