-- Cells chosen in ascending order.
use Rattle.std.specs.Prelude.{ℕ, ◌==◌, ◌&&◌, Bool, false, not, List, [], length, Option, Some, None, filter, slice_index_or}
use Rattle.std.specs.List.{range_with_len}
use Rattle.params.specs.Leading.{mark}

-- this is the zero cell
abbrev pub is_zero : Option ℕ → ℕ → Bool
is_zero None c = false
is_zero (Some z) c = z == c

-- the cells whose columns have a mark at a place, but for the zero cell
abbrev pub is_chosen : List (List Bool) → Option ℕ → ℕ → ℕ → Bool
is_chosen columns zero place c = mark (slice_index_or columns c []) place && not (is_zero zero c)

abbrev pub marked_cells : List (List Bool) → Option ℕ → ℕ → List ℕ
marked_cells columns zero place = filter (is_chosen columns zero place) (range_with_len 0 (length columns))

-- all cells but the zero cell
abbrev pub moving_cells : ℕ → Option ℕ → List ℕ
moving_cells count zero = filter (λ c. not (is_zero zero c)) (range_with_len 0 count)
