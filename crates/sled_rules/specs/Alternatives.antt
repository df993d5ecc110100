-- The alternatives that a pattern stands for: named patterns put in, and every choice made, the leftmost part slowest.
use Rattle.std.specs.Prelude.{ℕ, ◌+◌, ◌%◌, ◌^◌, max, Bool, true, false, List, [], ◌∷◌, ◌++◌, Option, Some, None, map, fold}
use Rattle.std.specs.List.{flat_map}
use Rattle.std.specs.Option.{option_or}
use Rattle.rtl_core.specs.declared.encodings.Item.{Item}
use Rattle.rtl_core.specs.declared.encodings.Typed.{Typed}
use Rattle.sled_syntax.specs.declared.line.Part.{Part}
use Rattle.sled_syntax.specs.declared.line.Part.TheVariants.{Equal, Differs, Lone}
use Rattle.sled_syntax.specs.declared.line.SledItem.{SledItem}
use Rattle.sled_syntax.specs.declared.line.SledPattern.{SledPattern}
use Rattle.sled_rules.specs.declared.meaning.Field.{Field}
use Rattle.sled_rules.specs.declared.meaning.Meaning.{Meaning}
use Rattle.sled_rules.specs.declared.meaning.Meaning.TheVariants as means
use Rattle.sled_rules.specs.Meanings.{Table, named}
use Rattle.sled_rules.specs.Operands.{operand_of}
use Rattle.sled_rules.specs.Starts.{parts_of}

-- ---- one item

-- no token, and nothing asked of it
abbrev pub nothing_asked : Item
nothing_asked = record { bits = 0; tests = []; binds = []; typed = None }

-- a token with one test; a value that fits its field is below 2^32
abbrev pub tested : Bool → ℕ → Field → Item
tested equal value f =
    record { bits = f.token.bits; tests = record { lo = f.lo; hi = f.hi; equal = equal; value = value % 2 ^ 32 } ∷ []; binds = []; typed = None }

-- a token whose field is an operand
abbrev pub bound : ℕ → Field → Item
bound k f = record { bits = f.token.bits; tests = []; binds = record { lo = f.lo; hi = f.hi; operand = k } ∷ []; typed = None }

-- a typed operand
abbrev pub typed_item : ℕ → ℕ → Item
typed_item k t = record { bits = 0; tests = []; binds = []; typed = Some (record { kind = t; operand = k }) }

-- what two items ask of one token
abbrev pub both : Item → Item → Item
both a b = record { bits = max a.bits b.bits; tests = a.tests ++ b.tests; binds = a.binds ++ b.binds; typed = option_or a.typed b.typed }

-- an item put onto the first of a sequence
abbrev pub onto_first : List Item → List Item → List Item
onto_first (a ∷ _) (b ∷ bs) = both a b ∷ bs
onto_first [] bs = bs
onto_first (a ∷ _) [] = []

-- ---- choices

-- each of the first with each of the second, the first slowest
abbrev pub choices : (List Item → List Item → List Item) → List (List Item) → List (List Item) → List (List Item)
choices together xs ys = flat_map (λ x. map (together x) ys) xs

abbrev pub test_choices : Bool → ℕ → Option Meaning → List (List Item)
test_choices equal value (Some (means.Field f)) = (tested equal value f ∷ []) ∷ []
test_choices equal value _ = []

-- a lone name: the operand of this number, or a pattern
abbrev pub lone_choices : ℕ → Option Meaning → List (List Item)
lone_choices k (Some (means.Field f)) = (bound k f ∷ []) ∷ []
lone_choices k (Some (means.Pattern p)) = p.alternatives
lone_choices k (Some (means.Type t)) = (typed_item k t ∷ []) ∷ []
lone_choices k _ = []

abbrev pub part_choices : Table → List (List ℕ) → Part → List (List Item)
part_choices names ops (Equal name value) = test_choices true value (named names name)
part_choices names ops (Differs name value) = test_choices false value (named names name)
part_choices names ops (Lone name) = lone_choices (operand_of ops name) (named names name)

-- the parts of an item, over one token
abbrev pub item_choices : Table → List (List ℕ) → SledItem → List (List Item)
item_choices names ops it = fold (λ xs part. choices onto_first xs (part_choices names ops part)) ((nothing_asked ∷ []) ∷ []) (parts_of it)

-- items, one behind another
abbrev pub sequence_choices : Table → List (List ℕ) → List SledItem → List (List Item)
sequence_choices names ops items = fold (λ xs it. choices ◌++◌ xs (item_choices names ops it)) ([] ∷ []) items

-- the alternatives of a pattern, where the operands are these
abbrev pub alternatives : Table → List (List ℕ) → SledPattern → List (List Item)
alternatives names ops p = flat_map (sequence_choices names ops) p.alternatives
