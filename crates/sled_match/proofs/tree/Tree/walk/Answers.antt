use Rattle.std.proofs.Common.{ap, sym, ◌∙◌, Some, None, slice_get}
use Rattle.sled_match.proofs.TreeLaws.{listed-none, listed-leaf, listed-inner, listed-zero}
use Rattle.sled_match.proofs.tree.Tree.walk.Goals as goal

pub returns-in-None : goal.returns-in-None
returns-in-None c = sym (listed-none _ _ _ _ c.loop-levels-test.true c.in-None.ensures.value) ∙ c.loop-levels.invariant

pub returns-in-Some-Leaf : goal.returns-in-Some-Leaf
returns-in-Some-Leaf c =
    c.as_slice.ensures
    ∙ sym (listed-leaf c.loop-levels.levels c.args.self.now.nodes c.loop-levels.at c.args.bytes.now c.in-Some-Leaf.constructors c.loop-levels-test.true (ap Some (sym c.in-Some-Leaf.field-0-is) ∙ c.in-Some-Leaf.ensures.value))
    ∙ c.loop-levels.invariant

pub returns-in-None-get : goal.returns-in-None-get
returns-in-None-get c =
    sym (listed-inner c.loop-levels.levels c.args.self.now.nodes c.loop-levels.at c.args.bytes.now c.in-Some-Inner.place c.in-Some-Inner.branches None
    c.loop-levels-test.true (ap Some (sym c.in-Some-Inner.field-0-is) ∙ c.in-Some-Inner.ensures.value) (c.in-None-get.ensures.value ∙ ap (slice_get c.in-Some-Inner.branches) c.key_at.ensures))
    ∙ c.loop-levels.invariant

pub loop-levels-preserved : goal.loop-levels-preserved
loop-levels-preserved c =
    sym (listed-inner c.loop-levels.levels c.args.self.now.nodes c.loop-levels.at c.args.bytes.now c.in-Some-Inner.place c.in-Some-Inner.branches (Some c.in-Some.next.now)
    c.loop-levels-test.true (ap Some (sym c.in-Some-Inner.field-0-is) ∙ c.in-Some-Inner.ensures.value) (c.in-Some.ensures.value ∙ ap (slice_get c.in-Some-Inner.branches) c.key_at.ensures))
    ∙ c.loop-levels.invariant

pub returns : goal.returns
returns c = sym (listed-zero _ _ _ _ c.loop-levels-test.false) ∙ c.loop-levels.invariant
