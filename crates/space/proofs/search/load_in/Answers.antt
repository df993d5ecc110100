use Rattle.std.proofs.Common.{sym, ap, ◌∙◌}
use Rattle.std.specs.Prelude.{Some}
use Rattle.rtl_core.specs.Contents.{byte_of}
use Rattle.space.proofs.Lookups.{whole_at, mapped_at, lies_at}
use Rattle.space.proofs.search.load_in.Goals as goal

pub byte_at-requires-clause-whole : goal.byte_at-requires-clause-whole
byte_at-requires-clause-whole c = whole_at _ _ _ _ c.requires c.in-Some.ensures.within c.index-ranges-at.is

pub returns-in-Some : goal.returns-in-Some
returns-in-Some c =
    ap Some c.byte_at.ensures
    ∙ sym (ap byte_of (mapped_at _ _ _ _ _ c.requires c.in-Some.ensures.within c.index-ranges-at.is (lies_at _ _ _ _ c.in-Some.ensures c.index-ranges-at.is)))
