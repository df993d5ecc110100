use Rattle.std.proofs.Common.{arith}
use Rattle.listing.specs.Lists.{place_text}
use Rattle.listing.proofs.Loops.{took_next, part_next, took_end}
use Rattle.c_text.proofs.Written.{took_nothing, any_err}
use Rattle.listing.proofs.list.put_body.Goals as goal

pub loop-place-init : goal.loop-place-init
loop-place-init g c = took_nothing

pub returns-in_err-put_place-clause-part : goal.returns-in_err-put_place-clause-part
returns-in_err-put_place-clause-part g c = any_err _ (part_next (place_text c.args.graph.now) c.args.body.now c.loop-place.place-index _ (omega arith) c.loop-place.invariant c.in_err-put_place.ensures.part)

pub loop-place-preserved : goal.loop-place-preserved
loop-place-preserved g c = took_next (place_text c.args.graph.now) c.args.body.now c.loop-place.place-index _ (omega arith) c.loop-place.invariant c.in_ok-put_place.ensures.took

pub returns-clause-took : goal.returns-clause-took
returns-clause-took g c = took_end (place_text c.args.graph.now) c.args.body.now c.loop-place.place-index c.loop-place-test.false c.loop-place.invariant
