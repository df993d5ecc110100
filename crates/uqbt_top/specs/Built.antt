-- What is built of the files of `translate`, and why nothing is.
use Rattle.std.specs.Prelude.{◌≡◌, ℕ, ◌≤◌, ◌-◌, ◌^◌, false, List, [], ◌∷◌, length, map, Ok, Err, Some, All, None}
use Rattle.rtl_core.specs.FirstMemory.{Part}
use Rattle.points.specs.Bundles.{LieInMemory}
use Rattle.points.specs.Machine.{Setting}
use Rattle.decode.specs.At.{AreShort}
use Rattle.elf32.specs.declared.elf.Elf.{Elf}
use Rattle.elf32.specs.Reading.{elf_of}
use Rattle.load_image.specs.declared.image.Image.{Image}
use Rattle.load_image.specs.declared.fault.ImageFault.TheVariants as image
use Rattle.load_image.specs.Areas.{overlap_fault}
use Rattle.load_image.specs.Made.{image_of}
use Rattle.load_image.specs.Mapped.{segment_part}
use Rattle.c_lang.specs.declared.tree.Program.{Program}
use Rattle.stepper.specs.LineEnds.{ends_within}
use Rattle.program_graph.specs.Described.{IsOver, most_points}
use Rattle.translation.specs.Translations.{IsTranslation}
use Rattle.descriptions.specs.declared.described.Described.{Described}
use Rattle.descriptions.specs.declared.fault.DescFault.{DescFault}
use Rattle.descriptions.specs.Accepted.{Describe, IsSledFault, AreNoInstructions, AreNoConventions}
use Rattle.uqbt_top.specs.declared.outcome.FileName.{FileName}
use Rattle.uqbt_top.specs.declared.outcome.FileName.TheVariants.{Sled, Ssl, Conv}
use Rattle.uqbt_top.specs.declared.outcome.ExeFault.{ExeFault}
use Rattle.uqbt_top.specs.declared.outcome.ExeFault.TheVariants.{Elf as InElf, AreaOverlap, TooLarge}
use Rattle.uqbt_top.specs.declared.outcome.Outcome.{Outcome}
use Rattle.uqbt_top.specs.declared.outcome.Outcome.TheVariants.{Description, Executable, NoMemory}

-- ---- descriptions

-- the three descriptions
pub record Descriptions : Type 0 where
  pub sled : List ℕ
  pub ssl : List ℕ
  pub conv : List ℕ

-- their bytes, and those of an executable behind them
abbrev pub of_check : Descriptions → List (List ℕ)
of_check t = t.sled ∷ t.ssl ∷ t.conv ∷ []

abbrev pub with_exe : Descriptions → List ℕ → List (List ℕ)
with_exe t exe = t.sled ∷ t.ssl ∷ t.conv ∷ exe ∷ []

-- they describe this machine
abbrev pub AreOf : Descriptions → Described → Type 0
AreOf t d = Describe t.sled t.ssl t.conv d

-- the first of them with a fault, and its first fault
abbrev pub IsFirstFault : Descriptions → FileName → DescFault → Type 0
IsFirstFault t Sled fault = IsSledFault t.sled fault
IsFirstFault t Ssl fault = AreNoInstructions t.sled t.ssl fault
IsFirstFault t Conv fault = AreNoConventions t.sled t.ssl t.conv fault
IsFirstFault t _ fault = ⊥

-- ---- executables

-- the file is an executable of the machine, none of its segments is in the way of the stack or the heap, and this is its image
pub record IsImageOf (d : Described) (exe : List ℕ) (i : Image) : Type 0 where
  pub elf : Elf
  pub read : elf_of exe d.conv d.named.machine.order ≡ Ok elf
  pub apart : overlap_fault d.conv elf.segments ≡ None
  pub made : i ≡ image_of elf d.conv

-- the machine with an image
abbrev pub setting_with : Described → Image → Setting
setting_with d i = record { encodings = d.encodings; machine = d.named.machine; conv = d.conv; frozen = i.frozen }

-- the segments of an image as parts of its first memory
abbrev pub parts_of : Image → List Part
parts_of i = map segment_part i.segments

-- its first overlap with the stack or the heap is with the segment of this header
pub record Overlaps (d : Described) (exe : List ℕ) (index : ℕ) : Type 0 where
  pub elf : Elf
  pub read : elf_of exe d.conv d.named.machine.order ≡ Ok elf
  pub first : overlap_fault d.conv elf.segments ≡ Some (image.AreaOverlap index)

-- when an image has more points than are built
abbrev pub Extent : Type 1
Extent = Described → Image → Type 0

-- the bodies of all its procedures together have
abbrev pub BodiesAreOver : Extent
BodiesAreOver d i = IsOver (setting_with d i) i.entry i.symbols

-- the straight line from its entry has
abbrev pub LineIsOver : Extent
LineIsOver d i = ends_within (setting_with d i) most_points i.entry ≡ false

-- the executable has an image that is so, and this number is told
pub record IsTooLarge (over : Extent) (d : Described) (exe : List ℕ) (points : ℕ) : Type 0 where
  pub number : points ≡ 131073
  pub image : Image
  pub loaded : IsImageOf d exe image
  pub so : over d image

-- the first fault of an executable that its file shows
abbrev pub IsFileFault : Described → List ℕ → ExeFault → Type 0
IsFileFault d exe (InElf fault) = elf_of exe d.conv d.named.machine.order ≡ Err fault
IsFileFault d exe (AreaOverlap index) = Overlaps d exe index
IsFileFault d exe (TooLarge points) = ⊥

-- the first fault of an executable
abbrev pub IsExeFault : Extent → Described → List ℕ → ExeFault → Type 0
IsExeFault over d exe (TooLarge points) = IsTooLarge over d exe points
IsExeFault over d exe fault = IsFileFault d exe fault

-- the descriptions describe a machine, and the executable has this first fault
pub record IsUnusable (over : Extent) (t : Descriptions) (exe : List ℕ) (fault : ExeFault) : Type 0 where
  pub described : Described
  pub of : AreOf t described
  pub first : IsExeFault over described exe fault

-- the parts of an image are short enough for what is built of them, and lie below 2^32
pub record IsReady (i : Image) : Type 0 where
  pub frozen : AreShort i.frozen
  pub lie : LieInMemory i.frozen
  pub segments : All (λ s. length s.bytes ≤ 2 ^ 32 - 1) i.segments

-- the descriptions describe a machine, the executable has no fault, and this is its image
pub record IsRunnable (over : Extent) (t : Descriptions) (exe : List ℕ) (d : Described) (i : Image) : Type 0 where
  pub of : AreOf t d
  pub loaded : IsImageOf d exe i
  pub within : over d i → ⊥

-- ---- translations

-- p is a translation of the executable, which has no fault, on the described machine: it is the same as the machine with all of
-- control, and no other program has its text
pub record Translates (t : Descriptions) (exe : List ℕ) (p : Program) : Type 0 where
  pub described : Described
  pub image : Image
  pub runnable : IsRunnable BodiesAreOver t exe described image
  pub translation : IsTranslation (setting_with described image) image.entry image.symbols (parts_of image) p

-- why descriptions are refused, by the answer
abbrev pub AreRefused : Descriptions → Outcome → Type 0
AreRefused t (Description file fault) = IsFirstFault t file fault
AreRefused t NoMemory = Unit {0}
AreRefused t _ = ⊥

-- why an executable is refused, by the answer
abbrev pub IsRefusedExe : (ExeFault → Type 0) → Outcome → Type 0
IsRefusedExe first (Executable fault) = first fault
IsRefusedExe first NoMemory = Unit {0}
IsRefusedExe first _ = ⊥

-- why nothing is translated, by the answer
abbrev pub IsRefused : Descriptions → List ℕ → Outcome → Type 0
IsRefused t exe (Description file fault) = IsFirstFault t file fault
IsRefused t exe (Executable fault) = IsUnusable BodiesAreOver t exe fault
IsRefused t exe NoMemory = Unit {0}
IsRefused t exe _ = ⊥

-- why an image has no program, by the answer
abbrev pub IsLong : Described → Image → Outcome → Type 0
IsLong d i (Executable (TooLarge points)) = (points ≡ 131073) × BodiesAreOver d i
IsLong d i NoMemory = Unit {0}
IsLong d i _ = ⊥
