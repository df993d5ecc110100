-- When a machine is sound, alone and with its encodings, and when names name its cells.
use Rattle.std.specs.Prelude.{◌≡◌, ◌≢◌, ℕ, ◌+◌, ◌<◌, ◌≤◌, ◌⊎◌, List, length, map, slice_get, slice_index, Option, Some, None, All}
use Rattle.rtl_core.specs.declared.encodings.Encodings.{Encodings}
use Rattle.rtl_core.specs.declared.machine.Machine.{Machine}
use Rattle.rtl_core.specs.declared.machine.NamedMachine.{NamedMachine}
use Rattle.rtl_core.specs.declared.machine.WinShape.{WinShape}
use Rattle.rtl_core.specs.declared.machine.Form.{Form}
use Rattle.rtl_core.specs.CellNames.{cells_in}
use Rattle.rtl_core.specs.SoundEncodings.{AreTypes, IsKind, IsSoundEncodings, list_size, most_leaves}
use Rattle.rtl_core.specs.SoundTemplates.{IsFile, IsSoundTemplate}
use Rattle.rtl_core.specs.SoundTerms.{AreWidths}
use Rattle.rtl_core.specs.TemplateNodes.{IsCounted}

-- the greatest number of cells
abbrev pub most_cells : ℕ
most_cells = 120

-- the delay, where there is one, is of 1 to 32 bytes
abbrev pub IsDelay : Option ℕ → Type 0
IsDelay None = Unit {0}
IsDelay (Some bytes) = (1 ≤ bytes) × (bytes ≤ 32)

-- the zero cell, where there is one, is a cell
abbrev pub IsZero : List ℕ → Option ℕ → Type 0
IsZero widths None = Unit {0}
IsZero widths (Some c) = c < length widths

-- so many cells from the first on are there, have 32 bits, and none is the zero cell
abbrev pub AreWindowCells : Machine → ℕ → ℕ → Type 0
AreWindowCells m first count = (i : ℕ) → i < count → (first + i < length m.widths) × (slice_index m.widths (first + i) ≡ 32) × (m.zero ≢ Some (first + i))

-- so many cells from two cells on are different cells
abbrev pub AreApart : ℕ → ℕ → ℕ → Type 0
AreApart count a b = (a + count ≤ b) ⊎ (b + count ≤ a)

pub record AreSoundWindows (m : Machine) (w : WinShape) : Type 0 where
  pub some : 1 ≤ w.count
  pub few : w.count ≤ 8
  pub out : AreWindowCells m w.out_first w.count
  pub local : AreWindowCells m w.local_first w.count
  pub in_ : AreWindowCells m w.in_first w.count
  pub out_local : AreApart w.count w.out_first w.local_first
  pub local_in : AreApart w.count w.local_first w.in_first
  pub out_in : AreApart w.count w.out_first w.in_first

-- windows are sound where there are any
abbrev pub HaveSoundWindows : Machine → Option WinShape → Type 0
HaveSoundWindows m windows = (w : WinShape) → windows ≡ Some w → AreSoundWindows m w

-- a constructor's form among the forms of its machine, where `most` are the most numbers of each type
pub record IsSoundForm (m : Machine) (most stands : ℕ → ℕ) (t c : ℕ) (form : Form) : Type 0 where
  pub kinds : All (IsKind m.types c) form.kinds
  pub numbers : list_size most form.kinds ≤ most t
  pub template : IsSoundTemplate m stands t form.kinds form.template

-- a sound machine; `most` are the most numbers of each type, `stands` the width of what its constructors stand for
pub record IsSoundMachine (m : Machine) : Type 0 where
  pub delay : IsDelay m.delay
  pub count : length m.widths ≤ most_cells
  pub widths : AreWidths m.widths
  pub zeroed : IsZero m.widths m.zero
  pub windows : HaveSoundWindows m m.windows
  pub few_files : length m.files ≤ 4096
  pub files : All (IsFile m.widths) m.files
  pub few_forms : length m.forms ≤ 4096
  pub types : AreTypes m.types (length m.forms)
  pub most : ℕ → ℕ
  pub stands : ℕ → ℕ
  pub forms : (c : ℕ) (form : Form) → slice_get m.forms c ≡ Some form → IsSoundForm m most stands (types.type_of c) c form
  pub few : (t : ℕ) → most t ≤ most_leaves
  pub nodes : IsCounted m

-- sound encodings and a sound machine that belong together: one byte order, the same types, and for each
-- constructor a form with the same operands
pub record AreSound (enc : Encodings) (m : Machine) : Type 0 where
  pub encodings : IsSoundEncodings enc
  pub machine : IsSoundMachine m
  pub order : m.order ≡ enc.order
  pub types : m.types ≡ enc.types
  pub kinds : map (λ f. f.kinds) m.forms ≡ map (λ k. k.kinds) enc.constructors

-- the names name cells of the machine
abbrev pub NamesItsCells : NamedMachine → Type 0
NamesItsCells named = All (λ e. (i : ℕ) → i < cells_in e.1 → e.1.first + i < length named.machine.widths) named.names
