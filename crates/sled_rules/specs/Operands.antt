-- The operands of a constructor, and which of them a sequence binds.
use Rattle.std.specs.Prelude.{ℕ, ◌+◌, ◌-◌, ◌==◌, nat_eq, Bool, List, [], ◌∷◌, Option, Some, None, is_some, option_to_list, option_and_then, position, count_by, unwrap_or}
use Rattle.std.specs.List.{flat_map, filter_map}
use Rattle.std.specs.Cmp.Lexicographic.{pointwise}
use Rattle.rtl_core.specs.declared.encodings.OperandKind.{OperandKind}
use Rattle.rtl_core.specs.declared.encodings.OperandKind.TheVariants as kinds
use Rattle.sled_syntax.specs.declared.line.Part.{Part}
use Rattle.sled_syntax.specs.declared.line.Part.TheVariants.{Equal, Differs, Lone}
use Rattle.sled_syntax.specs.declared.line.SledItem.{SledItem}
use Rattle.sled_rules.specs.declared.meaning.Meaning.{Meaning}
use Rattle.sled_rules.specs.declared.meaning.Meaning.TheVariants as means
use Rattle.sled_rules.specs.Meanings.{Table, named}
use Rattle.sled_rules.specs.Starts.{parts_of}

-- the place of a name in an operand list
abbrev pub place : List (List ℕ) → List ℕ → Option ℕ
place ops name = position (pointwise nat_eq name) ops

-- the number of an operand that is listed
abbrev pub operand_of : List (List ℕ) → List ℕ → ℕ
operand_of ops name = unwrap_or (place ops name) 0

abbrev pub is_listed : List (List ℕ) → List ℕ → Bool
is_listed ops name = is_some (place ops name)

-- what an operand of this meaning holds: it is a field or a type
abbrev pub kind_of : Option Meaning → Option OperandKind
kind_of (Some (means.Field f)) = Some (kinds.Field (f.hi + 1 - f.lo))
kind_of (Some (means.Type t)) = Some (kinds.Typed t)
kind_of _ = None

-- what the operands hold
abbrev pub kinds_of : Table → List (List ℕ) → List OperandKind
kinds_of names ops = filter_map (λ op. kind_of (named names op)) ops

-- the operand that a name binds: a field or a type that is listed
abbrev pub name_binds : Table → List (List ℕ) → List ℕ → Option ℕ
name_binds names ops name = option_and_then (λ kind. place ops name) (kind_of (named names name))

-- a test binds nothing
abbrev pub part_binds : Table → List (List ℕ) → Part → Option ℕ
part_binds names ops (Equal name value) = None
part_binds names ops (Differs name value) = None
part_binds names ops (Lone name) = name_binds names ops name

abbrev pub item_binds : Table → List (List ℕ) → SledItem → List ℕ
item_binds names ops it = filter_map (part_binds names ops) (parts_of it)

-- the operands that a sequence binds, in order
abbrev pub sequence_binds : Table → List (List ℕ) → List SledItem → List ℕ
sequence_binds names ops items = flat_map (item_binds names ops) items

-- how often a sequence binds an operand
abbrev pub times : Table → List (List ℕ) → List SledItem → List ℕ → ℕ
times names ops items op = count_by (λ j. j == operand_of ops op) (sequence_binds names ops items)
