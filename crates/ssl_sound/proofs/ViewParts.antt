-- The parts of a view lie in their cells and have its width.
use Rattle.std.proofs.Common.{◌≡◌, ℕ, ◌+◌, ◌-◌, ◌<◌, ◌≤◌, true, List, [], ◌∷◌, map, length, get_or, Option, Some, None, refl, sym, ap, ◌∙◌, subst, arith}
use Rattle.std.proofs.lemmas.Bool.{and_parts}
use Rattle.std.proofs.lemmas.List.Elements.{All-nil, All-cons}
use Rattle.std.proofs.lemmas.Option.{none-some, same_Some, slice_get-get_or}
use Rattle.std.specs.Prelude.{All, is_some, unwrap_or, option_map, option_and_then}
use Rattle.ssl_syntax.specs.declared.line.CellName.{CellName}
use Rattle.ssl_syntax.specs.declared.line.ViewPart.{ViewPart}
use Rattle.ssl_syntax.specs.declared.line.ViewPart.TheVariants as part
use Rattle.rtl_core.specs.declared.machine.CellPart.{CellPart}
use Rattle.rtl_core.specs.SoundTemplates.{IsPart, part_width}
use Rattle.rtl_core.specs.SoundTerms.{IsWidth}
use Rattle.ssl_rules.specs.declared.tables.Tables.{Tables}
use Rattle.ssl_rules.specs.Names.{cell_number}
use Rattle.ssl_rules.specs.Widths.{asked, cell_width, slice_width, first_differing}
use Rattle.ssl_rules.specs.Views.{part_bits, are_parts_in_range}
use Rattle.ssl_rules.specs.Given.{part_of}
use Rattle.ssl_sound.proofs.Measures.{none_parts, asked-some, slice-parts}
use Rattle.ssl_sound.proofs.Tables.{AreSoundTables, cell-there}

abbrev IsPartOf : Tables → ℕ → CellPart → Type 0
IsPartOf t w p = IsPart t.widths p × (part_width p ≡ w)

-- bits of a cell, by its number
cell-bits : (t : Tables) (lo hi w : ℕ) (o : Option ℕ) → ((c : ℕ) → o ≡ Some c → c < length t.widths) → option_and_then (slice_width lo hi) (option_map (cell_width t) o) ≡ Some w
    → IsPartOf t w (record { cell = unwrap_or o 0; lo = lo; hi = hi })
cell-bits t lo hi w None there e = absurd (none-some w e)
cell-bits t lo hi w (Some c) there e =
    let b = slice-parts (Some (cell_width t c)) lo hi w e in
    let inside : c < length t.widths = there c refl in
    let width : get_or t.widths c 0 ≡ cell_width t c = sym (ap (λ o. unwrap_or o 0) (slice_get-get_or t.widths c 0 inside)) in
    let whole : b.whole ≡ get_or t.widths c 0 = sym (width ∙ same_Some (cell_width t c) b.whole b.is) in
    ((inside, b.ordered, subst (λ v. hi < v) whole b.below), b.width)

pub bits-part : (t : Tables) → AreSoundTables t → (cell : CellName) (lo hi w : ℕ) → part_bits t (part.Bits cell lo hi) ≡ Some w → IsPart t.widths (part_of t (part.Bits cell lo hi)) × (hi + 1 - lo ≡ w)
bits-part t s cell lo hi w e = cell-bits t lo hi w (cell_number t cell) (cell-there t s cell) e

whole-cell : (t : Tables) (w : ℕ) (o : Option ℕ) → IsWidth w → ((c : ℕ) → o ≡ Some c → c < length t.widths) → option_map (cell_width t) o ≡ Some w
    → IsPartOf t w (record { cell = unwrap_or o 0; lo = 0; hi = cell_width t (unwrap_or o 0) - 1 })
whole-cell t w None width there e = absurd (none-some w e)
whole-cell t w (Some c) width there e =
    let is : cell_width t c ≡ w = same_Some (cell_width t c) w e in
    let inside : c < length t.widths = there c refl in
    let here : get_or t.widths c 0 ≡ w = sym (ap (λ o. unwrap_or o 0) (slice_get-get_or t.widths c 0 inside)) ∙ is in
    let some : 1 ≤ w = width.0 in
    let top : cell_width t c - 1 < w = omega arith in
    let all : cell_width t c - 1 + 1 - 0 ≡ w = omega arith in
    ((inside, omega arith, subst (λ v. cell_width t c - 1 < v) (sym here) top), all)

one-part : (t : Tables) → AreSoundTables t → (w : ℕ) → IsWidth w → (p : ViewPart) → part_bits t p ≡ Some w → IsPartOf t w (part_of t p)
one-part t s w width (part.Whole cell) e = whole-cell t w (cell_number t cell) width (cell-there t s cell) e
one-part t s w width (part.Bits cell lo hi) e = cell-bits t lo hi w (cell_number t cell) (cell-there t s cell) e

pub view-parts : (t : Tables) → AreSoundTables t → (w : ℕ) → IsWidth w → (parts : List ViewPart) → are_parts_in_range t parts ≡ true → first_differing (λ p. asked w (part_bits t p)) parts ≡ None
    → All (λ p. IsPart t.widths p × (part_width p ≡ w)) (map (part_of t) parts)
view-parts t s w width [] ranged same = All-nil (λ p. IsPart t.widths p × (part_width p ≡ w))
view-parts t s w width (p ∷ ps) ranged same =
    let r = and_parts (is_some (part_bits t p)) (are_parts_in_range t ps) ranged in
    let d = none_parts (asked w (part_bits t p)) (first_differing (λ p. asked w (part_bits t p)) ps) same in
    All-cons (λ p. IsPart t.widths p × (part_width p ≡ w)) (part_of t p) (map (part_of t) ps)
    (one-part t s w width p (asked-some w (part_bits t p) r.0 d.0)) (view-parts t s w width ps r.1 d.1)
