-- The cells of register windows.
use Rattle.std.specs.Prelude.{ℕ, ◌+◌, nat_lt, nat_le, ◌&&◌, ◌||◌, Bool, true, false, not, zero, suc, List, [], ◌∷◌, length, Option, Some, None}
use Rattle.std.specs.Option.{option_or}
use Rattle.rtl_core.specs.declared.machine.WinShape.{WinShape}
use Rattle.ssl_rules.specs.declared.tables.Tables.{Tables}
use Rattle.ssl_rules.specs.declared.widths.Mismatch.{Mismatch}
use Rattle.ssl_rules.specs.Widths.{asked, cell_width, first_differing}

-- n cells from the first on
abbrev pub cells_from : ℕ → ℕ → List ℕ
cells_from first zero = []
cells_from first (suc n) = first ∷ cells_from (first + 1) n

-- a cell is one of n from the first on
abbrev pub is_from : ℕ → ℕ → ℕ → Bool
is_from first n c = nat_le first c && nat_lt c (first + n)

abbrev pub is_window_cell : WinShape → ℕ → Bool
is_window_cell w c = is_from w.out_first w.count c || (is_from w.local_first w.count c || is_from w.in_first w.count c)

-- n cells from one on lie before or behind n cells from another on
abbrev pub are_apart : ℕ → ℕ → ℕ → Bool
are_apart n a b = nat_le (a + n) b || nat_le (b + n) a

-- the zero cell, where there is one, is one of n from the first on
abbrev pub holds_zero : Option ℕ → ℕ → ℕ → Bool
holds_zero None n first = false
holds_zero (Some z) n first = is_from first n z

-- n cells from the first on are there, and none is the zero cell
abbrev pub are_there : Tables → Option ℕ → ℕ → ℕ → Bool
are_there t zeroed n first = nat_le (first + n) (length t.widths) && not (holds_zero zeroed n first)

-- a zero cell is there, and is no window cell
abbrev pub is_zero : Option ℕ → Option WinShape → Bool
is_zero None windows = false
is_zero (Some c) None = true
is_zero (Some c) (Some w) = not (is_window_cell w c)

-- windows of 1 to 8 cells that are there and do not overlap
abbrev pub are_windows : Tables → Option ℕ → WinShape → Bool
are_windows t zeroed w =
    (nat_le 1 w.count && nat_le w.count 8)
    && (are_there t zeroed w.count w.out_first && (are_there t zeroed w.count w.local_first && are_there t zeroed w.count w.in_first))
    && (are_apart w.count w.out_first w.local_first && (are_apart w.count w.local_first w.in_first && are_apart w.count w.out_first w.in_first))

-- the first of n cells from the first on that has not 32 bits
abbrev pub group_differs : Tables → ℕ → ℕ → Option Mismatch
group_differs t first n = first_differing (λ c. asked 32 (Some (cell_width t c))) (cells_from first n)

-- the first window cell that has not 32 bits: of the out, the local and the in cells
abbrev pub windows_differ : Tables → WinShape → Option Mismatch
windows_differ t w =
    option_or (group_differs t w.out_first w.count) (option_or (group_differs t w.local_first w.count) (group_differs t w.in_first w.count))
