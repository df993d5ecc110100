use Rattle.std.proofs.Common.{◌≡◌, ℕ, List, sym, ap, subst, ◌∙◌}
use Rattle.std.specs.Prelude.{map}
use Rattle.rtl_core.specs.FirstMemory.{Part}
use Rattle.c_control.specs.Programs.{segment_of}
use Rattle.c_lang.specs.declared.tree.CSeg.{CSeg}
use Rattle.c_static.specs.Laws.{ArePlaced}
use Rattle.load_image.specs.Mapped.{segment_part}
use Rattle.translation.specs.Translations.{IsTranslation, parts_of as segment_parts}
use Rattle.uqbt_top.specs.Built.{parts_of}
use Rattle.uqbt_top.proofs.BuiltLaws.{is-translated, same-parts, setting_by}
use Rattle.uqbt_top.proofs.built.program_of.Goals as goal

pub translate-requires-clause-placed : goal.translate-requires-clause-placed
translate-requires-clause-placed c =
    let i = c.args.image.now in
    let are : c.in_ok-segments.segments ≡ map segment_of (parts_of i) = c.in_ok-segments.ensures.same ∙ ap (λ ls. map segment_of (map segment_part ls)) c.as_slice.ensures in
    subst (λ (ps : List Part). ArePlaced c.args.on.now.conv ps) (sym (ap segment_parts are ∙ same-parts (parts_of i))) c.requires.placed

pub returns-in-Ok-clause-translation : goal.returns-in-Ok-clause-translation
returns-in-Ok-clause-translation c =
    let d = c.args.on.now in
    let i = c.args.image.now in
    let m = c.in_ok-matcher.matcher in
    let segments : List CSeg = c.in_ok-segments.segments in
    let are : segments ≡ map segment_of (parts_of i) = c.in_ok-segments.ensures.same ∙ ap (λ ls. map segment_of (map segment_part ls)) c.as_slice.ensures in
    is-translated d i m c.in_ok-matcher.ensures segments c.in-Ok.program are
    (subst (λ (xs : List ℕ). IsTranslation (setting_by m d i) i.entry xs (segment_parts segments) c.in-Ok.program) c.as_slice-2.ensures c.in-Ok.ensures.translation)
