use Rattle.std.proofs.Common.{refl}
use Rattle.params.proofs.Searching.{put-next}
use Rattle.params.proofs.search.Search.put_all.Goals as goal

pub loop-place-preserved : goal.loop-place-preserved
loop-place-preserved c = put-next c.args.places.now c.loop-place.place-index _ _ _ _ _ _ _ c.loop-place-test.true refl c.loop-place.invariant c.in_ok-put.ensures
