-- What the names in a convention file stand for.
use Rattle.std.specs.Prelude.{◌≡◌, ℕ, nat_eq, List, [], ◌∷◌, map, slice_get, Option, option_map, unwrap_or}
use Rattle.std.specs.Cmp.Lexicographic.{pointwise}
use Rattle.std.specs.Map.{lookup}
use Rattle.std.specs.Option.{option_or}
use Rattle.rtl_core.specs.declared.encodings.Encodings.{Encodings}
use Rattle.rtl_core.specs.declared.machine.NamedMachine.{NamedMachine}
use Rattle.rtl_core.specs.CellNames.{cell_named}
use Rattle.conv_syntax.specs.declared.line.ConvCell.{ConvCell}

-- the cell of a name, or of a file's name and an index below its count
abbrev pub cell_of : NamedMachine → ConvCell → Option ℕ
cell_of named cell = cell_named named.names cell.name cell.index

-- the name of a constructor
abbrev pub name_of : Encodings → ℕ → List ℕ
name_of enc c = unwrap_or (option_map (λ k. k.name) (slice_get enc.constructors c)) []

-- the constructors of type instruction
abbrev pub instruction_numbers : Encodings → List ℕ
instruction_numbers enc = unwrap_or (slice_get enc.types 0) []

-- the instructions with their names
abbrev pub instructions : Encodings → List (List ℕ × ℕ)
instructions enc = map (λ c. (name_of enc c, c)) (instruction_numbers enc)

-- the instruction of a name, the first where there are more
abbrev pub instruction_of : List (List ℕ × ℕ) → List ℕ → Option ℕ
instruction_of table name = lookup (pointwise nat_eq name) table

-- two lists give each name the same instruction
pub record FindsSame (table other : List (List ℕ × ℕ)) : Type 0 where
  pub found : (name : List ℕ) → instruction_of table name ≡ instruction_of other name

-- one more name, which counts where it is new
pub record Adds (old new : List (List ℕ × ℕ)) (name : List ℕ) (number : ℕ) : Type 0 where
  pub found : (asked : List ℕ) → instruction_of new asked ≡ option_or (instruction_of old asked) (instruction_of ((name, number) ∷ []) asked)
