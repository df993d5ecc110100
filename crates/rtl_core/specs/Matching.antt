-- What a constructor takes from the front of a list of bytes.
use Rattle.std.specs.Prelude.{ℕ, zero, suc, ◌+◌, ◌/◌, ◌==◌, List, [], ◌∷◌, ◌++◌, drop, length, replicate, slice_get, slice_set, Option, None, Some, Bool, not, if◌then◌else◌, nat_le, option_map, option_and_then}
use Rattle.std.specs.List.{list_all}
use Rattle.std.specs.Option.{option_or}
use Rattle.rtl_core.specs.declared.expr.Order.{Order}
use Rattle.rtl_core.specs.declared.encodings.Test.{Test}
use Rattle.rtl_core.specs.declared.encodings.Bind.{Bind}
use Rattle.rtl_core.specs.declared.encodings.Typed.{Typed}
use Rattle.rtl_core.specs.declared.encodings.Item.{Item}
use Rattle.rtl_core.specs.declared.encodings.Encodings.{Encodings}
use Rattle.rtl_core.specs.Access.{number}
use Rattle.rtl_core.specs.Arithmetic.{bits_of}

-- the token of so many bits at the front; none where it runs past the end
abbrev pub token : Order → ℕ → List ℕ → Option ℕ
token order bits bytes = if nat_le (bits / 8) (length bytes) then Some (number order (bits / 8) bytes) else None

-- whether a test holds of a token
abbrev pub holds : ℕ → Test → Bool
holds tok t = if t.equal then bits_of t.lo t.hi tok == t.value else not (bits_of t.lo t.hi tok == t.value)

-- the numbers of each operand, with those that a token binds
abbrev pub bound : ℕ → List Bind → List (List ℕ) → List (List ℕ)
bound tok [] slots = slots
bound tok (b ∷ bs) slots = bound tok bs (slice_set slots b.operand (bits_of b.lo b.hi tok ∷ []))

-- what a match takes: the constructor, the numbers of its operands as one list, and its length
pub record Taken : Type 0 where
  pub constructor : ℕ
  pub leaves : List ℕ
  pub len : ℕ

-- what the constructors of a type take from the front of bytes
abbrev pub Finder : Type 0
Finder = ℕ → List ℕ → Option Taken

-- the typed operand of an item where it has one, else the bytes of its token
abbrev pub rest_taken : Finder → Option Typed → ℕ → List (List ℕ) → List ℕ → Option (List (List ℕ) × ℕ)
rest_taken find None size slots bytes = Some (slots, size)
rest_taken find (Some t) size slots bytes = option_map (λ r. (slice_set slots t.operand (r.constructor ∷ r.leaves), r.len)) (find t.kind bytes)

-- an item at a place: its tests hold and its binds are made on the token there; then its typed operand
abbrev pub item_taken : Finder → Order → Item → List (List ℕ) → List ℕ → Option (List (List ℕ) × ℕ)
item_taken find order it slots bytes =
    option_and_then (λ tok. if list_all (holds tok) it.tests then rest_taken find it.typed (it.bits / 8) (bound tok it.binds slots) bytes else None)
    (token order it.bits bytes)

-- items, one behind another
abbrev pub items_taken : Finder → Order → List Item → List (List ℕ) → ℕ → List ℕ → Option (List (List ℕ) × ℕ)
items_taken find order [] slots n bytes = Some (slots, n)
items_taken find order (it ∷ its) slots n bytes =
    option_and_then (λ r. items_taken find order its r.0 (n + r.1) (drop r.1 bytes)) (item_taken find order it slots bytes)

-- the numbers of all operands in order
abbrev pub joined : List (List ℕ) → List ℕ
joined [] = []
joined (x ∷ xs) = x ++ joined xs

-- the first alternative whose items all match; no other is tried behind it
abbrev pub first_taken : Finder → Order → List (List Item) → List ℕ → Option (List ℕ × ℕ)
first_taken find order [] bytes = None
first_taken find order (a ∷ rest) bytes =
    option_or (option_map (λ r. (joined r.0, r.1)) (items_taken find order a (replicate 8 []) 0 bytes)) (first_taken find order rest bytes)

-- what constructor c takes, where `find` answers for its typed operands
abbrev pub constructor_taken : Finder → Encodings → List ℕ → ℕ → Option Taken
constructor_taken find enc bytes c =
    option_and_then (λ k. option_map (λ r. record { constructor = c; leaves = r.0; len = r.1 }) (first_taken find enc.order k.alternatives bytes)) (slice_get enc.constructors c)

-- the first of some constructors that matches
abbrev pub first_matching : (ℕ → Option Taken) → List ℕ → Option Taken
first_matching taken [] = None
first_matching taken (c ∷ cs) = option_or (taken c) (first_matching taken cs)

-- what a type takes, with typed operands nested less than `deep`; where types are in order the
-- number of constructors is deep enough
unfoldable pub type_taken : ℕ → Encodings → Finder
type_taken zero enc kind bytes = None
type_taken (suc deep) enc kind bytes = option_and_then (first_matching (constructor_taken (type_taken deep enc) enc bytes)) (slice_get enc.types kind)

-- the instruction at the front of bytes: the first constructor of type 0 that matches
abbrev pub instruction : Encodings → List ℕ → Option Taken
instruction enc bytes = type_taken (length enc.constructors) enc 0 bytes
