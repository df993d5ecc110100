use Rattle.std.proofs.Common.{◌∙◌, refl}
use Rattle.space.proofs.Lookups.{whole_at}
use Rattle.space.proofs.Rewrites.{answer_at_place, put_at_place, order_at_place, put_nowhere}
use Rattle.space.proofs.search.store_in.Goals as goal

pub write_at-requires-clause-whole : goal.write_at-requires-clause-whole
write_at-requires-clause-whole c = whole_at c.args.ranges.now c.in-Some.at _ c.index-ranges-at.result c.requires c.in-Some.ensures.within refl

pub returns-in-Some-clause-written : goal.returns-in-Some-clause-written
returns-in-Some-clause-written c =
    c.write_at.ensures.answer
    ∙ answer_at_place c.args.ranges.now c.in-Some.at _ c.index-ranges-at.result _ c.requires c.in-Some.ensures.within refl (c.in-Some.ensures.lies c.index-ranges-at.result)

pub returns-in-Some-clause-contents : goal.returns-in-Some-clause-contents
returns-in-Some-clause-contents c =
    put_at_place c.args.ranges.now c.in-Some.at _ c.write_at.new.self c.index-ranges-at.result _ _ c.requires c.in-Some.ensures.within refl (c.in-Some.ensures.lies c.index-ranges-at.result) c.write_at.ensures.range

pub returns-in-Some-clause-ordered : goal.returns-in-Some-clause-ordered
returns-in-Some-clause-ordered c =
    order_at_place c.args.ranges.now c.in-Some.at _ c.write_at.new.self c.index-ranges-at.result c.args.a c.args.v c.requires c.in-Some.ensures.within refl c.write_at.ensures.range

pub returns-in-None-clause-contents : goal.returns-in-None-clause-contents
returns-in-None-clause-contents c = put_nowhere _ _ _ c.in-None.ensures
