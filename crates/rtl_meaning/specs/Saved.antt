-- Saved windows that belong to a machine, and what an instruction needs of what it finds.
use Rattle.std.specs.Prelude.{◌≡◌, ℕ, ◌+◌, ◌^◌, ◌<◌, ◌≤◌, List, [], ◌∷◌, length, Some}
use Rattle.rtl_core.specs.declared.machine.Machine.{Machine}
use Rattle.rtl_core.specs.declared.machine.WinShape.{WinShape}
use Rattle.rtl_core.specs.SoundMachine.{HaveSoundWindows}
use Rattle.rtl_core.specs.SoundTerms.{AreWidths, Fit}

-- numbers of 32 bits
abbrev pub AreWords : List ℕ → Type 0
AreWords [] = Unit {0}
AreWords (v ∷ vs) = (v < 2 ^ 32) × AreWords vs

-- what a save keeps of a window of this shape: a number of 32 bits for each local and each in cell
pub record IsWindow (w : WinShape) (kept : List ℕ) : Type 0 where
  pub count : length kept ≡ w.count + w.count
  pub words : AreWords kept

-- all of them are windows of this shape
abbrev pub AreWindows : WinShape → List (List ℕ) → Type 0
AreWindows w [] = Unit {0}
AreWindows w (kept ∷ older) = IsWindow w kept × AreWindows w older

-- saved windows that are those of the machine
pub record HaveShape (m : Machine) (saved : List (List ℕ)) : Type 0 where
  pub all : (w : WinShape) → m.windows ≡ Some w → AreWindows w saved

-- the out, local and in cells of a window of this shape, at most 8 of each, are among so many cells
pub record AreAmong (w : WinShape) (count : ℕ) : Type 0 where
  pub few : w.count ≤ 8
  pub out : w.out_first + w.count ≤ count
  pub local : w.local_first + w.count ≤ count
  pub in_ : w.in_first + w.count ≤ count

-- a machine with well formed widths and windows, cells that fit it, and saved windows that are its own
pub record Fits (m : Machine) (cells : List ℕ) (saved : List (List ℕ)) : Type 0 where
  pub widths : AreWidths m.widths
  pub windows : HaveSoundWindows m m.windows
  pub fit : Fit m cells
  pub shape : HaveShape m saved
