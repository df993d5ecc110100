-- Groups of cells, read and written one after another.
use Rattle.std.proofs.Common.{◌≡◌, ℕ, zero, suc, ◌+◌, ◌-◌, ◌<◌, ◌≤◌, List, [], ◌∷◌, ◌++◌, length, drop, get_or, refl, sym, ap, ◌∙◌, arith, add-one, drop-cons}
use Rattle.std.specs.Prelude.{slice_index, slice_set}
use Rattle.std.proofs.lemmas.List.{length-set}
use Rattle.rtl_core.specs.declared.machine.Machine.{Machine}
use Rattle.rtl_core.specs.declared.machine.WinShape.{WinShape}
use Rattle.rtl_core.specs.SoundMachine.{AreWindowCells, AreSoundWindows}
use Rattle.rtl_core.specs.Windows.{cells_from, put_cells}
use Rattle.rtl_meaning.specs.Saved.{AreAmong}

-- so many cells are read
pub cells_length : (first n : ℕ) (cells : List ℕ) → length (cells_from first n cells) ≡ n
cells_length first zero cells = refl
cells_length first (suc n) cells = ap suc (cells_length (first + 1) n cells)

cells_suc : (first n : ℕ) (cells : List ℕ) → cells_from first (suc n) cells ≡ cells_from first n cells ++ slice_index cells (first + n) ∷ []
cells_suc first zero cells = let e : first ≡ first + 0 = omega arith in ap (λ k. slice_index cells k ∷ []) e
cells_suc first (suc n) cells =
    let e : first + 1 + n ≡ first + suc n = omega arith in
    ap (λ xs. slice_index cells first ∷ xs) (cells_suc (first + 1) n cells ∙ ap (λ k. cells_from (first + 1) n cells ++ slice_index cells k ∷ []) e)

-- one more cell is read
pub cells_more : (first n : ℕ) (cells : List ℕ) → cells_from first (n + 1) cells ≡ cells_from first n cells ++ slice_index cells (first + n) ∷ []
cells_more first n cells = ap (λ k. cells_from first k cells) (add-one n) ∙ cells_suc first n cells

-- writing keeps the number of cells
pub put_length : (first : ℕ) (vs cells : List ℕ) → length (put_cells first vs cells) ≡ length cells
put_length first [] cells = refl
put_length first (v ∷ vs) cells = put_length (first + 1) vs (slice_set cells first v) ∙ length-set cells first v

-- one more cell is written
pub put_more : (first i : ℕ) (vs cells : List ℕ) → i < length vs
    → put_cells (first + (i + 1)) (drop (i + 1) vs) (slice_set cells (first + i) (slice_index vs i)) ≡ put_cells (first + i) (drop i vs) cells
put_more first i vs cells h =
    let e : first + i + 1 ≡ first + (i + 1) = omega arith in
    let new = slice_set cells (first + i) (slice_index vs i) in
    ap (λ k. put_cells (first + (i + 1)) (drop k vs) new) (add-one i)
    ∙ sym (ap (λ k. put_cells k (drop (suc i) vs) new) e) ∙ sym (ap (λ ws. put_cells (first + i) ws cells) (drop-cons vs i 0 h))

-- none is written yet
pub put_none : (first : ℕ) (vs cells : List ℕ) → put_cells (first + 0) (drop 0 vs) cells ≡ put_cells first vs cells
put_none first vs cells = let e : first + 0 ≡ first = omega arith in ap (λ k. put_cells k vs cells) e

drop_none : (i : ℕ) → drop {A = ℕ} i [] ≡ []
drop_none zero = refl
drop_none (suc i) = refl

-- all are written
pub put_done : (first i : ℕ) (vs cells : List ℕ) → length vs ≤ i → put_cells first (drop i vs) cells ≡ cells
put_done first i [] cells h = ap (λ ws. put_cells first ws cells) (drop_none i)
put_done first zero (v ∷ vs) cells h = absurd (omega arith)
put_done first (suc i) (v ∷ vs) cells h = put_done first i vs cells (omega arith)

among : (m : Machine) (first n : ℕ) → 1 ≤ n → AreWindowCells m first n → first + n ≤ length m.widths
among m first n some g = let last = g (n - 1) (omega arith) in omega (arith, last.0)

-- the cells of a sound machine's windows are among its cells
pub windows_among : (m : Machine) (w : WinShape) (cells : List ℕ) → length cells ≡ length m.widths → AreSoundWindows m w → AreAmong w (length cells)
windows_among m w cells count s = record {
  few = s.few;
  out = let h = among m w.out_first w.count s.some s.out in omega arith;
  local = let h = among m w.local_first w.count s.some s.local in omega arith;
  in_ = let h = among m w.in_first w.count s.some s.in_ in omega arith;
}

pub ruleset group_laws = (cells_length, cells_more, put_length, put_more, put_none, put_done)
