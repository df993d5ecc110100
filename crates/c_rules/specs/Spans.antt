-- Spans of addresses and rows of `uq_segs` in the code, as ranges and rows.
use Rattle.std.specs.Prelude.{◌≡◌, ℕ, ◌+◌, ◌≤◌, ◌^◌, ◌&&◌, ◌==◌, nat_le, Bool, true, false, if◌then◌else◌, List, [], ◌∷◌, ◌++◌, length, map, sum_by, Option, Some, None}
use Rattle.std.specs.List.{All, list_all}
use Rattle.c_lang.specs.Items.{Array}
use Rattle.c_lang.specs.StaticRules.{Range, Row, rows, is_below_end, heap_range, stack_range, segment_ranges, most_image, no_two, share_byte}
use Rattle.c_rules.specs.declared.spans.Span.{Span}
use Rattle.c_rules.specs.declared.arrays.TableRow.{TableRow}

-- a span as a range
abbrev pub range : Span → Range
range s = record { base = s.base; len = s.len }

-- a row as the code has it
abbrev pub row : TableRow → Row
row r = record { base = r.base; write = r.write; file = r.file; len = r.len }

-- the span ends at 2^32 or before
abbrev pub EndsBelow : Span → Type 0
EndsBelow s = s.base + s.len ≤ 2 ^ 32

-- the ranges begin one behind the other, and the first one at this address or behind it; empty ones stand anywhere
abbrev pub are_apart : ℕ → List Range → Bool
are_apart end [] = true
are_apart end (r ∷ rs) = if r.len == 0 then are_apart end rs else (nat_le end r.base && are_apart (r.base + r.len) rs)

-- the span of a row as a range
abbrev pub row_range : Row → Range
row_range r = record { base = r.base; len = r.len }

-- the spans are those of the rows, and end at 2^32 or before; none where one does not
abbrev pub AreSpans : List ℕ → Option (List Span) → Type 0
AreSpans numbers None = list_all is_below_end (map row_range (rows numbers)) ≡ false
AreSpans numbers (Some spans) = (map range spans ≡ map row_range (rows numbers)) × All EndsBelow spans

-- `uq_machine` has its numbers, and its heap and its stack end at 2^32 or before
pub record HasAreas (a : Array) : Type 0 where
  pub long : length a.numbers ≡ 14
  pub heap : is_below_end (heap_range a) ≡ true
  pub stack : is_below_end (stack_range a) ≡ true

-- the segments of a table are within their limit, and lie apart from each other and from the areas of `uq_machine`
abbrev pub is_placed : Array → Array → Bool
is_placed machine table =
    list_all is_below_end (segment_ranges table) && nat_le (sum_by (λ r. r.len) (segment_ranges table)) most_image
    && no_two share_byte (segment_ranges table ++ heap_range machine ∷ stack_range machine ∷ [])
