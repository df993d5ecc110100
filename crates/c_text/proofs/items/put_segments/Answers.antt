use Rattle.std.proofs.Common.{arith}
use Rattle.c_text.proofs.Loops.{wrote_segment, broke_segment, wrote_segments}
use Rattle.c_text.proofs.Written.{wrote_nothing, any_err}
use Rattle.c_text.proofs.items.put_segments.Goals as goal

pub loop-place-init : goal.loop-place-init
loop-place-init g c = wrote_nothing

pub returns-in_err-put_segment-clause-broke : goal.returns-in_err-put_segment-clause-broke
returns-in_err-put_segment-clause-broke g c = any_err _ (broke_segment c.args.segments.now c.loop-place.place c.index-segments-place.result c.index-segments-place.result (omega arith) c.index-segments-place.is c.loop-place.invariant c.in_err-put_segment.ensures.broke)

pub loop-place-preserved : goal.loop-place-preserved
loop-place-preserved g c = wrote_segment c.args.segments.now c.loop-place.place c.index-segments-place.result c.index-segments-place.result (omega arith) c.index-segments-place.is c.loop-place.invariant c.in_ok-put_segment.ensures.wrote

pub returns-clause-wrote : goal.returns-clause-wrote
returns-clause-wrote g c = wrote_segments c.args.segments.now c.loop-place.place (omega arith) c.loop-place.invariant
