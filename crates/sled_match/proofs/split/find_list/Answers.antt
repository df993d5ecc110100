use Rattle.std.proofs.Common.{Some, ap, sym, ◌∙◌, refl}
use Rattle.std.proofs.lemmas.Option.{slice_get_read}
use Rattle.std.specs.Cmp.Lexicographic.{same_text}
use Rattle.sled_match.proofs.split.find_list.Goals as goal

pub returns-then-eq : goal.returns-then-eq
returns-then-eq c =
    slice_get_read c.args.lists.now _ c.loop-at.at c.index-lists-at.result refl c.loop-at-test.true c.index-lists-at.is
    ∙ ap Some (sym c.as_slice.ensures ∙ same_text c.as_slice.result.now c.args.mine.now c.if-eq.ensures)
