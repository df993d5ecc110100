use Rattle.std.proofs.Common.{◌+◌, ◌∷◌, ◌++◌, List, Bool, [], length, drop, arith, subst, sym, ◌∙◌}
use Rattle.paged_space.specs.declared.extent.Extent.{Extent}
use Rattle.paged_space.specs.LaidOut.{Laid}
use Rattle.paged_space.proofs.LaidMap.{each_of, values_drop, values_long, laid_front, laid_room, one_laid}
use Rattle.paged_space.proofs.laying.lay.Goals as goal
use Rattle.paged_space.specs.Sorting.{values}

pub lay_one-requires : goal.lay_one-requires
lay_one-requires c =
    let e = each_of 0 c.args.order.now c.loop-range.range-index c.range-item.result c.requires.rises c.loop-range-test.true c.range-item.is in
    let d = values_drop c.args.order.now c.loop-range.range-index c.range-item.result c.loop-range-test.true c.range-item.is in
    let q = laid_front (values c.args.order.now) _ _ c.range-item.result.now _ _ _ _ _ d c.loop-range.invariant.laid in
    let m = laid_room (values c.args.order.now) _ c.range-item.result.now _ _ _ _ _ (length c.args.order.now) q (values_long c.args.order.now) in
    let ok1 = c.loop-range.extents.ok.0 in
    let ok2 = c.loop-range.frames.ok.0 in
    let ok3 = c.loop-range.writes.ok.0 in
    let i = c.loop-range.invariant in
    let i1 = i.extents in
    let i2 = i.frames in
    let i3 = i.writes in
    let r1 = c.requires.room in
    let r2 = c.requires.room_frames in
    let r3 = c.requires.room_writes in
    let m1 = m.extents in
    let m2 = m.frames in
    let m3 = m.writes in
    record {
      some = e.0;
      end = e.1;
      room = omega (arith, m1, ok1, i1, r1);
      room_frames = omega (arith, m2, ok2, i2, r2);
      room_writes = omega (arith, m3, ok3, i3, r3);
      spare = m.fits c.requires.spare;
    }

pub loop-range-preserved : goal.loop-range-preserved
loop-range-preserved c =
    let d = values_drop c.args.order.now c.loop-range.range-index c.range-item.result c.loop-range-test.true c.range-item.is in
    let q = laid_front (values c.args.order.now) _ (drop (c.loop-range.range-index + 1) (values c.args.order.now)) c.range-item.result.now _ _ _ _ _ d c.loop-range.invariant.laid in
    let n = one_laid (values c.args.order.now) (drop (c.loop-range.range-index + 1) (values c.args.order.now)) c.range-item.result.now c.loop-range.extents.items c.loop-range.frames.items c.lay_one.new.frames.items c.loop-range.writes.items c.args.pool.now c.loop-range.pool c.lay_one.new.pool q c.lay_one.ensures.grown in
    record {
      laid = subst (λ (es : List Extent). Laid (values c.args.order.now) (drop (c.loop-range.range-index + 1) (values c.args.order.now)) es c.lay_one.new.frames.items c.lay_one.new.writes.items c.args.pool.now c.lay_one.new.pool) (sym c.lay_one.ensures.extents)
          (subst (λ (ws : List Bool). Laid (values c.args.order.now) (drop (c.loop-range.range-index + 1) (values c.args.order.now)) (c.loop-range.extents.items ++ record { base = c.range-item.result.now.base; len = c.range-item.result.now.len; first = length c.loop-range.frames.items } ∷ []) c.lay_one.new.frames.items ws c.args.pool.now c.lay_one.new.pool) (sym c.lay_one.ensures.writes) n);
      extents = c.lay_one.ensures.capacity ∙ c.loop-range.invariant.extents;
      frames = c.lay_one.ensures.capacity_frames ∙ c.loop-range.invariant.frames;
      writes = c.lay_one.ensures.capacity_writes ∙ c.loop-range.invariant.writes;
    }
