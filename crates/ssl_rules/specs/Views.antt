-- The parts of views: their ranges and widths.
use Rattle.std.specs.Prelude.{ℕ, Bool, is_some, if◌then◌else◌, List, Option, None}
use Rattle.std.specs.List.{list_all}
use Rattle.ssl_syntax.specs.declared.line.ViewPart.{ViewPart}
use Rattle.ssl_syntax.specs.declared.line.ViewPart.TheVariants as part
use Rattle.ssl_rules.specs.declared.tables.Tables.{Tables}
use Rattle.ssl_rules.specs.declared.widths.Mismatch.{Mismatch}
use Rattle.ssl_rules.specs.Widths.{is_width, asked, cell_bits, cell_slice, first_differing}

-- the width of a part; none where a number is out of range
abbrev pub part_bits : Tables → ViewPart → Option ℕ
part_bits t (part.Whole cell) = cell_bits t cell
part_bits t (part.Bits cell lo hi) = cell_slice t cell lo hi

abbrev pub are_parts_in_range : Tables → List ViewPart → Bool
are_parts_in_range t parts = list_all (λ p. is_some (part_bits t p)) parts

-- the first part that has another width than its view, where that is in range
abbrev pub parts_differ : Tables → ℕ → List ViewPart → Option Mismatch
parts_differ t w parts = if is_width w then first_differing (λ p. asked w (part_bits t p)) parts else None
