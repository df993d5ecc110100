-- When encodings are sound: numbers in range, types in order, each operand bound once, and the limits.
use Rattle.std.specs.Prelude.{◌≡◌, ℕ, ◌+◌, ◌-◌, ◌/◌, ◌^◌, ◌<◌, ◌≤◌, ◌==◌, ◌⊎◌, List, [], ◌∷◌, ◌++◌, length, map, count_by, sum_by, slice_get, Option, Some, None, All, is_some, IsTrue, true}
use Rattle.std.specs.List.{concat, list_any}
use Rattle.rtl_core.specs.declared.encodings.OperandKind.{OperandKind}
use Rattle.rtl_core.specs.declared.encodings.OperandKind.TheVariants.{Field, Typed}
use Rattle.rtl_core.specs.declared.encodings.Test.{Test}
use Rattle.rtl_core.specs.declared.encodings.Bind.{Bind}
use Rattle.rtl_core.specs.declared.encodings.Typed.{Typed as TypedItem}
use Rattle.rtl_core.specs.declared.encodings.Item.{Item}
use Rattle.rtl_core.specs.declared.encodings.Coded.{Coded}
use Rattle.rtl_core.specs.declared.encodings.Encodings.{Encodings}

-- ---- types

-- a type is there, has a constructor, and all its constructors stand before c
abbrev pub IsBefore : List (List ℕ) → ℕ → ℕ → Type 0
IsBefore types c t = (cs : List ℕ) × (slice_get types t ≡ Some cs) × (0 < length cs) × All (λ d. d < c) cs

-- an operand of constructor c: a field of a token, or of a type before c
abbrev pub IsKind : List (List ℕ) → ℕ → OperandKind → Type 0
IsKind types c (Field w) = (1 ≤ w) × (w ≤ 32)
IsKind types c (Typed t) = IsBefore types c t

-- the numbers rise
abbrev pub Rises : List ℕ → Type 0
Rises [] = Unit {0}
Rises (c ∷ cs) = All (λ d. c < d) cs × Rises cs

-- a constructor is among those of a type
abbrev pub IsOf : List (List ℕ) → ℕ → ℕ → Type 0
IsOf types t c = (cs : List ℕ) × (slice_get types t ≡ Some cs) × (list_any (λ d. d == c) cs ≡ true)

-- the types of n constructors: type 0 is there, and each constructor is of one type
pub record AreTypes (types : List (List ℕ)) (n : ℕ) : Type 0 where
  pub first : 0 < length types
  pub type_of : ℕ → ℕ
  pub each : (t : ℕ) (cs : List ℕ) → slice_get types t ≡ Some cs → Rises cs × All (λ c. (c < n) × (type_of c ≡ t)) cs
  pub listed : (c : ℕ) → c < n → IsOf types (type_of c) c

-- the most numbers of an operand, and of an operand list, where `most` is that of each type
abbrev pub kind_size : (ℕ → ℕ) → OperandKind → ℕ
kind_size most (Field w) = 1
kind_size most (Typed t) = 1 + most t

abbrev pub list_size : (ℕ → ℕ) → List OperandKind → ℕ
list_size most kinds = sum_by (kind_size most) kinds

-- the most numbers of an operand list
abbrev pub most_leaves : ℕ
most_leaves = 8

-- ---- patterns

abbrev pub IsSoundTest : ℕ → Test → Type 0
IsSoundTest bits t = (t.lo ≤ t.hi) × (t.hi < bits) × (t.value < 2 ^ (t.hi + 1 - t.lo))

-- the operand is a field of as many bits
abbrev pub IsSoundBind : List OperandKind → ℕ → Bind → Type 0
IsSoundBind kinds bits b = (b.lo ≤ b.hi) × (b.hi < bits) × (slice_get kinds b.operand ≡ Some (Field (b.hi + 1 - b.lo)))

-- the operand is of this type
abbrev pub IsSoundTyped : List OperandKind → Option TypedItem → Type 0
IsSoundTyped kinds None = Unit {0}
IsSoundTyped kinds (Some t) = slice_get kinds t.operand ≡ Some (Typed t.kind)

-- a token of 8, 16 or 32 bits, or none before a typed operand alone
abbrev pub IsToken : ℕ → Option TypedItem → Type 0
IsToken bits typed = (bits ≡ 8) ⊎ (bits ≡ 16) ⊎ (bits ≡ 32) ⊎ ((bits ≡ 0) × IsTrue (is_some typed))

pub record IsSoundItem (kinds : List OperandKind) (it : Item) : Type 0 where
  pub token : IsToken it.bits it.typed
  pub tests : All (IsSoundTest it.bits) it.tests
  pub binds : All (IsSoundBind kinds it.bits) it.binds
  pub typed : IsSoundTyped kinds it.typed

-- the operands that an item and some items bind
abbrev pub item_binds : Item → List ℕ
item_binds it = map (λ b. b.operand) it.binds ++ typed it.typed
  where
    typed : Option TypedItem → List ℕ
    typed None = []
    typed (Some t) = t.operand ∷ []

abbrev pub items_bind : List Item → List ℕ
items_bind items = concat (map item_binds items)

-- the most bytes of an item, where `longest` is that of each type: only a typed operand moves on where there is one
abbrev pub item_size : (ℕ → ℕ) → Item → ℕ
item_size longest it = size it.typed
  where
    size : Option TypedItem → ℕ
    size None = it.bits / 8
    size (Some t) = longest t.kind

-- an alternative of a constructor with these operands: each is bound once
pub record IsSoundAlternative (kinds : List OperandKind) (items : List Item) : Type 0 where
  pub some : 0 < length items
  pub few : length items ≤ 16
  pub each : All (IsSoundItem kinds) items
  pub one : (k : ℕ) → k < length kinds → count_by (λ j. j == k) (items_bind items) ≡ 1

-- ---- encodings

pub record IsSoundCoded (types : List (List ℕ)) (c : ℕ) (k : Coded) : Type 0 where
  pub kinds : All (IsKind types c) k.kinds
  pub some : 0 < length k.alternatives
  pub few : length k.alternatives ≤ 256
  pub each : All (IsSoundAlternative k.kinds) k.alternatives

-- what a constructor can take, against what its type can: so many numbers and so many bytes
pub record IsWithin (most longest : ℕ → ℕ) (t : ℕ) (k : Coded) : Type 0 where
  pub numbers : list_size most k.kinds ≤ most t
  pub bytes : All (λ items. sum_by (item_size longest) items ≤ longest t) k.alternatives

-- sound encodings; `most` and `longest` are the most numbers and bytes of each type
pub record IsSoundEncodings (enc : Encodings) : Type 0 where
  pub count : length enc.constructors ≤ 4096
  pub types : AreTypes enc.types (length enc.constructors)
  pub names : (b c : ℕ) (j k : Coded) → slice_get enc.constructors b ≡ Some j → slice_get enc.constructors c ≡ Some k → j.name ≡ k.name → b ≡ c
  pub each : (c : ℕ) (k : Coded) → slice_get enc.constructors c ≡ Some k → IsSoundCoded enc.types c k
  pub most : ℕ → ℕ
  pub longest : ℕ → ℕ
  pub sizes : (c : ℕ) (k : Coded) → slice_get enc.constructors c ≡ Some k → IsWithin most longest (types.type_of c) k
  pub few : (t : ℕ) → most t ≤ most_leaves
  pub short : (t : ℕ) → longest t ≤ 32
