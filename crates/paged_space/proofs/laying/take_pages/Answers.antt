use Rattle.std.proofs.Common.{◌≡◌, ℕ, List, subst, sym, ap, ◌∙◌, ◌<◌, ◌+◌}
use Rattle.page_pool.specs.Frames.{placed}
use Rattle.paged_space.specs.LaidOut.{HasGrown, byte_wanted}
use Rattle.paged_space.proofs.FreshPages.{grown_more}
use Rattle.paged_space.proofs.laying.take_pages.Goals as goal

pub loop-j-preserved : goal.loop-j-preserved
loop-j-preserved c =
    let i = c.loop-j.invariant in
    let w : (k : ℕ) → k < 4096 → placed c.start.result c.piece.result.now k ≡ byte_wanted c.args.range.now c.loop-j.j k = λ k l. ap (λ a. placed a c.piece.result.now k) c.start.ensures ∙ c.piece.ensures.bytes k l in
    record {
      grown = subst (λ (gs : List ℕ). HasGrown c.args.range.now (c.loop-j.j + 1) c.args.frames.now.items gs c.args.pool.now c.take_with-frame.new.self) (sym c.push_reserved.ensures.items)
          (grown_more c.args.range.now c.loop-j.j c.args.frames.now.items c.loop-j.frames.items c.args.pool.now c.loop-j.pool c.take_with-frame.new.self c.take_with-frame.result c.start.result c.piece.result.now i.grown c.take_with-frame.ensures w);
      capacity = c.push_reserved.ensures.capacity ∙ i.capacity;
    }
