-- Register windows: what a save and a restore do to the cells and to the saved windows.
use Rattle.std.specs.Prelude.{ℕ, zero, suc, ◌+◌, List, [], ◌∷◌, ◌++◌, take, drop, replicate, slice_index, slice_set}
use Rattle.rtl_core.specs.declared.machine.WinShape.{WinShape}

-- the values of n cells from the first on
abbrev pub cells_from : ℕ → ℕ → List ℕ → List ℕ
cells_from first zero cells = []
cells_from first (suc n) cells = slice_index cells first ∷ cells_from (first + 1) n cells

-- the cells with these values put in from the first on
abbrev pub put_cells : ℕ → List ℕ → List ℕ → List ℕ
put_cells first [] cells = cells
put_cells first (v ∷ vs) cells = put_cells (first + 1) vs (slice_set cells first v)

-- the cells after a save: in is set to out, local and out to 0
abbrev pub entered : WinShape → List ℕ → List ℕ
entered w cells =
    put_cells w.out_first (replicate w.count 0) (put_cells w.local_first (replicate w.count 0) (put_cells w.in_first (cells_from w.out_first w.count cells) cells))

-- what a save keeps: the local cells, then the in cells
abbrev pub window_of : WinShape → List ℕ → List ℕ
window_of w cells = cells_from w.local_first w.count cells ++ cells_from w.in_first w.count cells

-- the cells after a restore of a kept window: out is set to in, local and in come back
abbrev pub left : WinShape → List ℕ → List ℕ → List ℕ
left w kept cells =
    put_cells w.in_first (drop w.count kept) (put_cells w.local_first (take w.count kept) (put_cells w.out_first (cells_from w.in_first w.count cells) cells))

-- how many windows can be saved
abbrev pub most_windows : ℕ
most_windows = 65536
