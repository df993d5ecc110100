use Rattle.std.proofs.Common.{◌<◌, ◌^◌, List, ℕ, sym, subst}
use Rattle.paged_space.specs.declared.extent.Extent.{Extent}
use Rattle.paged_space.specs.PageTable.{IsSound, table}
use Rattle.paged_space.specs.LaidOut.{IsBuilt}
use Rattle.paged_space.specs.Sorting.{values}
use Rattle.paged_space.proofs.LaidMap.{all_laid}
use Rattle.paged_space.proofs.space.Space.of_sorted.Goals as goal

pub invariant_of-result : goal.invariant_of-result
invariant_of-result c =
    subst (λ (es : List Extent). IsSound (table es c.lay.new.frames.items c.lay.new.writes.items)) (sym c.new.ensures)
    (all_laid _ (table c.lay.new.extents.items c.lay.new.frames.items c.lay.new.writes.items) _ _ (subst (λ (n : ℕ). n < 2 ^ 32) c.requires.pages c.requires.few) c.requires.rises c.lay.ensures).sound

pub returns : goal.returns
returns c =
    subst (λ (es : List Extent). IsBuilt (values c.args.order.now) (table es c.lay.new.frames.items c.lay.new.writes.items) c.args.pool.now c.lay.new.pool) (sym c.new.ensures)
    (all_laid _ (table c.lay.new.extents.items c.lay.new.frames.items c.lay.new.writes.items) _ _ (subst (λ (n : ℕ). n < 2 ^ 32) c.requires.pages c.requires.few) c.requires.rises c.lay.ensures)
