-- What the lines of a text give.
use Rattle.std.specs.Prelude.{ℕ, ◌+◌, max, nat_eq, Bool, true, false, List, [], ◌∷◌, ◌++◌, Option, Some, None, length, map, fold, slice_get, slice_set, unwrap_or, if◌then◌else◌, codes}
use Rattle.std.specs.Cmp.Lexicographic.{pointwise}
use Rattle.rtl_core.specs.declared.expr.Order.{Order}
use Rattle.rtl_core.specs.declared.expr.Order.TheVariants.{Little, Big}
use Rattle.rtl_core.specs.declared.encodings.OperandKind.{OperandKind}
use Rattle.rtl_core.specs.declared.encodings.OperandKind.TheVariants as kinds
use Rattle.rtl_core.specs.declared.encodings.Coded.{Coded}
use Rattle.rtl_core.specs.SoundEncodings.{list_size}
use Rattle.sled_syntax.specs.declared.line.FieldDef.{FieldDef}
use Rattle.sled_syntax.specs.declared.line.SledBody.{SledBody}
use Rattle.sled_syntax.specs.declared.line.SledBody.TheVariants as body
use Rattle.sled_syntax.specs.declared.line.SledPattern.{SledPattern}
use Rattle.sled_rules.specs.declared.meaning.Token.{Token}
use Rattle.sled_rules.specs.declared.meaning.Start.{Start}
use Rattle.sled_rules.specs.declared.meaning.Start.TheVariants.{Nothing}
use Rattle.sled_rules.specs.declared.meaning.Meaning.{Meaning}
use Rattle.sled_rules.specs.declared.meaning.Meaning.TheVariants as means
use Rattle.sled_rules.specs.declared.facts.Facts.{Facts}
use Rattle.sled_rules.specs.declared.known.Known.{Known}
use Rattle.sled_rules.specs.declared.known.Size.{Size}
use Rattle.sled_rules.specs.Meanings.{Table, named, is_given}
use Rattle.sled_rules.specs.Starts.{join, pattern_start}
use Rattle.sled_rules.specs.Operands.{kinds_of}
use Rattle.sled_rules.specs.Alternatives.{alternatives}
use Rattle.sled_rules.specs.Sizes.{most_of, longest}

-- of a type that has no constructor yet
abbrev pub no_facts : Facts
no_facts = record { start = Nothing; most = 0; longest = 0; used = false }

-- before any line: the type of instructions, number 0, has no constructor
abbrev pub nothing_known : Known
nothing_known = record { order = None; names = []; fields = 0; constructors = []; types = [] ∷ []; facts = no_facts ∷ [] }

-- ---- fields

abbrev pub with_order : Bool → Known → Known
with_order big k = record k { order = Some (if big then Big else Little) }

abbrev pub field_entry : Token → FieldDef → List ℕ × Meaning
field_entry token f = (f.name, means.Field (record { token = token; lo = f.lo; hi = f.hi }))

-- a token is told apart by the place of its name
abbrev pub with_fields : List ℕ → ℕ → List FieldDef → Known → Known
with_fields token width fields k = record k {
  names = k.names ++ (token, means.Token) ∷ map (field_entry (record { place = length k.names; bits = width })) fields;
  fields = k.fields + length fields;
}

-- ---- patterns

abbrev pub with_pattern : List ℕ → SledPattern → Known → Known
with_pattern name p k = record k {
  names = k.names ++ (name, means.Pattern (record { alternatives = alternatives k.names [] p; start = pattern_start k.names k.facts p })) ∷ [];
}

-- ---- constructors

-- a constructor without a type is an instruction
abbrev pub type_name : Option (List ℕ) → List ℕ
type_name None = codes "instruction"
type_name (Some type) = type

abbrev pub is_instruction : List ℕ → Bool
is_instruction type = pointwise nat_eq type (codes "instruction")

-- the number of a type that is not there yet
abbrev pub next_type : List ℕ → Known → ℕ
next_type type k = if is_instruction type then 0 else length k.types

abbrev pub kind_number : ℕ → Option Meaning → ℕ
kind_number next (Some (means.Type t)) = t
kind_number next _ = next

abbrev pub type_number : List ℕ → Known → ℕ
type_number type k = kind_number (next_type type k) (named k.names type)

-- a type more: that of instructions is there from the start
abbrev pub opened : List ℕ → Known → Known
opened type k = record k {
  names = k.names ++ (type, means.Type (next_type type k)) ∷ [];
  types = if is_instruction type then k.types else k.types ++ [] ∷ [];
  facts = if is_instruction type then k.facts else k.facts ++ no_facts ∷ [];
}

-- a type is given by its first constructor
abbrev pub with_type : List ℕ → Known → Known
with_type type k = if is_given k.names type then k else opened type k

-- what is known of a type that is used
abbrev pub mark_type : List Facts → ℕ → Option Facts → List Facts
mark_type facts t None = facts
mark_type facts t (Some f) = slice_set facts t (record f { used = true })

-- an operand uses its type
abbrev pub mark : List Facts → OperandKind → List Facts
mark facts (kinds.Field w) = facts
mark facts (kinds.Typed t) = mark_type facts t (slice_get facts t)

abbrev pub grown : Size → Facts → Facts
grown s f = record f { start = join f.start s.start; most = max f.most s.numbers; longest = max f.longest s.bytes }

abbrev pub grow_type : List Facts → ℕ → Size → Option Facts → List Facts
grow_type facts t s None = facts
grow_type facts t s (Some f) = slice_set facts t (grown s f)

-- a type has one more constructor, of this size
abbrev pub grow : List Facts → ℕ → Size → List Facts
grow facts t s = grow_type facts t s (slice_get facts t)

-- one constructor more of type t
abbrev pub with_coded : ℕ → Size → Coded → Known → Known
with_coded t s c k = record k {
  names = k.names ++ (c.name, means.Constructor) ∷ [];
  constructors = k.constructors ++ c ∷ [];
  types = slice_set k.types t (unwrap_or (slice_get k.types t) [] ++ length k.constructors ∷ []);
  facts = fold mark (grow k.facts t s) c.kinds;
}

abbrev pub coded : List ℕ → List (List ℕ) → SledPattern → Known → Coded
coded name ops p k = record { name = name; kinds = kinds_of k.names ops; alternatives = alternatives k.names ops p }

-- how much a constructor with this pattern takes
abbrev pub size_of : SledPattern → Coded → Known → Size
size_of p c k = record { start = pattern_start k.names k.facts p; numbers = list_size (most_of k.facts) c.kinds; bytes = longest k.facts c.alternatives }

abbrev pub with_constructor : List ℕ → List (List ℕ) → List ℕ → SledPattern → Known → Known
with_constructor name ops type p k = with_coded (type_number type k) (size_of p (coded name ops p k) k) (coded name ops p k) (with_type type k)

-- ---- lines

abbrev pub with_line : Known → SledBody → Known
with_line k (body.ByteOrder big) = with_order big k
with_line k (body.Fields token width fields) = with_fields token width fields k
with_line k (body.Pattern name p) = with_pattern name p k
with_line k (body.Constructor name ops of_type p) = with_constructor name ops (type_name of_type) p k
