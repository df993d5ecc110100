-- What may become a program, part by part.
use Rattle.std.specs.Prelude.{◌≡◌, ℕ, ◌<◌, ◌^◌, true, None, List, [], ◌∷◌, length, slice_index, ◌==◌, ◌&&◌, ◌||◌}
use Rattle.std.specs.Cmp.Lexicographic.{pointwise}
use Rattle.std.specs.List.{All}
use Rattle.c_lang.specs.declared.tree.Program.{Program}
use Rattle.c_lang.specs.Items.{Array, items, text_of}
use Rattle.c_lang.specs.Spellable.{ItemHasForm}
use Rattle.c_lang.specs.StaticRules.{each_holds, is_flag, is_table, is_whole, rows, static_fault}
use Rattle.c_rules.specs.declared.parts.Parts.{Parts}
use Rattle.c_rules.specs.Texts.{text}
use Rattle.c_read.specs.Combined.{Each}

-- the numbers of `uq_machine`, of at most 32 bits, with its flags
pub record AreHeader (numbers : List ℕ) : Type 0 where
  pub long : length numbers ≡ 14
  pub small : Each (λ n. n < 2 ^ 32) numbers
  pub order : is_flag (slice_index numbers 0) ≡ true
  pub align : is_flag (slice_index numbers 1) ≡ true
  pub carry : is_flag (slice_index numbers 13) ≡ true

-- an array of bytes as long as it declares, of which so many are of the file: all, or none where it is one 0
pub record IsFile (a : Array) (file : ℕ) : Type 0 where
  pub bytes : Each (λ n. n < 256) a.numbers
  pub whole : is_whole a ≡ true
  pub holds_it : ((file == length a.numbers) || ((file == 0) && pointwise (λ m n. m == n) a.numbers (0 ∷ []))) ≡ true

-- an array of bytes as long as it declares, and the four numbers of its row
pub record IsSegmentRow (a : Array) (row : List ℕ) : Type 0 where
  pub bytes : Each (λ n. n < 256) a.numbers
  pub whole : is_whole a ≡ true
  pub four : length row ≡ 4
  pub small : Each (λ n. n < 2 ^ 32) row
  pub holds_it : each_holds (a ∷ []) (rows row) ≡ true

-- arrays of bytes, each as long as it declares, and their table
pub record AreSegments (as' : List Array) (table : Array) : Type 0 where
  pub bytes : Each (λ a. Each (λ n. n < 256) a.numbers) as'
  pub each : Each (λ a. is_whole a ≡ true) as'
  pub whole : is_whole table ≡ true
  pub small : Each (λ n. n < 2 ^ 32) table.numbers
  pub rows_are : is_table as' table ≡ true

-- each item has a form, and no static rule is broken
pub record MayBeProgram (parts : Parts) : Type 0 where
  pub forms : All ItemHasForm (items (text parts))
  pub keeps : static_fault (text parts) ≡ None

-- the program of the parts
abbrev pub IsProgramOf : Parts → Program → Type 0
IsProgramOf parts p = text_of p ≡ text parts
