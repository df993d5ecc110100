-- Which byte a constructor allows at a place, by its tokens and their tests alone.
use Rattle.std.specs.Prelude.{◌≡◌, ◌≢◌, ℕ, ◌+◌, ◌-◌, ◌*◌, ◌/◌, ◌==◌, List, [], ◌∷◌, Bool, true, false, not, ◌&&◌, if◌then◌else◌, nat_lt, nat_le, min, max, Option, None, Some, map, slice_get}
use Rattle.std.specs.List.{list_all, list_any, range_with_len}
use Rattle.rtl_core.specs.declared.expr.Order.{Order}
use Rattle.rtl_core.specs.declared.expr.Order.TheVariants.{Little, Big}
use Rattle.rtl_core.specs.declared.encodings.Test.{Test}
use Rattle.rtl_core.specs.declared.encodings.Typed.{Typed}
use Rattle.rtl_core.specs.declared.encodings.Item.{Item}
use Rattle.rtl_core.specs.declared.encodings.Coded.{Coded}
use Rattle.rtl_core.specs.declared.encodings.Encodings.{Encodings}
use Rattle.rtl_core.specs.Arithmetic.{bits_of}
use Rattle.sled_match.specs.Pruned.{answer_in, allowed_in}

-- the lowest bit of the byte at a place of a token of so many bytes
abbrev pub low_bit : Order → ℕ → ℕ → ℕ
low_bit Little size place = 8 * place
low_bit Big size place = 8 * (size - 1 - place)

-- the bits a to b, which both have, are the same
abbrev pub shared_allow : ℕ → ℕ → ℕ → ℕ → Test → Bool
shared_allow a b low byte t = if nat_le a b then bits_of (a - low) (b - low) byte == bits_of (a - t.lo) (b - t.lo) t.value else true

-- a byte whose lowest bit is `low` against a test that the bits are a value: those that both have are the same
abbrev pub equal_allows : ℕ → ℕ → Test → Bool
equal_allows low byte t = shared_allow (max t.lo low) (min t.hi (low + 7)) low byte t

-- against a test that they are not: it says something where all bits are the byte's
abbrev pub unequal_allows : ℕ → ℕ → Test → Bool
unequal_allows low byte t = if nat_le low t.lo && nat_le t.hi (low + 7) then not (bits_of (t.lo - low) (t.hi - low) byte == t.value) else true

abbrev pub test_allows : ℕ → ℕ → Test → Bool
test_allows low byte t = if t.equal then equal_allows low byte t else unequal_allows low byte t

-- a token of so many bytes: it does not end early, and each test allows the byte
abbrev pub token_allows : Order → ℕ → List Test → ℕ → ℕ → Bool
token_allows order size tests place key = if nat_le 256 key then false else list_all (test_allows (low_bit order size place) key) tests

-- behind a typed operand any byte may stand
abbrev pub beyond : Option Typed → Bool → Bool
beyond None rest = rest
beyond (Some t) rest = true

abbrev pub items_allow : Order → List Item → ℕ → ℕ → Bool
items_allow order [] place key = true
items_allow order (it ∷ its) place key =
    if nat_lt place (it.bits / 8) then token_allows order (it.bits / 8) it.tests place key else beyond it.typed (items_allow order its (place - it.bits / 8) key)

-- a constructor: one of its alternatives does
abbrev pub coded_allows : Order → Coded → ℕ → ℕ → Bool
coded_allows order coded place key = list_any (λ items. items_allow order items place key) coded.alternatives

-- the answers for each of the 257 keys at a place, and for each of the four places
abbrev pub keys_of : Order → Coded → ℕ → List Bool
keys_of order coded place = map (coded_allows order coded place) (range_with_len 0 257)

abbrev pub places_of : Order → Coded → List (List Bool)
places_of order coded = map (keys_of order coded) (range_with_len 0 4)

-- a row of a table is right: what it does not allow, the constructor does not
abbrev pub IsRow : Order → Coded → List (List Bool) → Type 0
IsRow order coded row = (place k : ℕ) → answer_in place k (Some row) ≢ true → coded_allows order coded place k ≡ false

-- the row of each constructor is right
abbrev pub AreRows : Encodings → List (List (List Bool)) → Type 0
AreRows enc rows = (c : ℕ) (coded : Coded) → slice_get enc.constructors c ≡ Some coded
    → (place k : ℕ) → allowed_in rows c place k ≢ true → coded_allows enc.order coded place k ≡ false
