use Rattle.std.proofs.Common.{◌≡◌, ◌≤◌, ℕ, List, Bool, ap, sym, subst, ◌∙◌}
use Rattle.std.specs.Prelude.{◌==◌, count_by}
use Rattle.paged_space.specs.PageTable.{IsSound, PageTable, table}
use Rattle.paged_space.specs.declared.extent.Extent.{Extent}
use Rattle.paged_space.specs.Sharing.{IsShared}
use Rattle.paged_space.proofs.Answered.{twinned}
use Rattle.paged_space.proofs.space.Space.shared_again.Goals as goal

tables : (es gs : List Extent) (fs hs : List ℕ) (ws vs : List Bool) → es ≡ gs → fs ≡ hs → ws ≡ vs → table es fs ws ≡ table gs hs vs
tables es gs fs hs ws vs a b c = ap (λ x. table x fs ws) a ∙ ap (λ x. table gs x ws) b ∙ ap (λ x. table gs hs x) c

pub share_all-requires-clause-once : goal.share_all-requires-clause-once
share_all-requires-clause-once c = subst (λ (fs : List ℕ). (n : ℕ) → count_by (λ f. f == n) fs ≤ 1) (sym c.deref-2.ensures.value) c.self.invariant.once

pub returns : goal.returns
returns c =
    let v = c.self.view_is in
    let q = tables _ _ _ _ _ _ c.in_ok-extents.ensures (c.share_all.ensures.same ∙ c.deref-2.ensures.value) (c.in_ok-writes.ensures.items ∙ c.deref.ensures.value) ∙ v in
    let s = subst (λ (fs : List ℕ). IsShared fs c.args.pool.now c.share_all.new.pool) (c.deref-2.ensures.value ∙ ap (λ (t : PageTable). t.frames) v) c.share_all.ensures.shared in
    twinned c.args.self.now _ c.args.pool.now c.share_all.new.pool (subst (λ (t : PageTable). IsSound t) v c.self.invariant) c.requires.stands c.requires.room q s
