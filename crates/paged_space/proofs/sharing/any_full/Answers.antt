use Rattle.std.proofs.Common.{ℕ, sym, subst, ◌∙◌}
use Rattle.std.proofs.lemmas.Grind.{get_or_default_zero}
use Rattle.page_pool.specs.Frames.{IsHeld}
use Rattle.paged_space.proofs.WholeSpace.{standing_held}
use Rattle.paged_space.proofs.sharing.any_full.Goals as goal

pub holders-requires : goal.holders-requires
holders-requires c =
    subst (λ (f : ℕ). IsHeld c.args.pool.now f) (sym (c.frame-item.is ∙ get_or_default_zero c.args.frames.now c.loop-frame.frame-index c.frame-item.result c.loop-frame-test.true))
    (standing_held c.args.frames.now c.loop-frame.frame-index c.args.pool.now c.requires c.loop-frame-test.true)
