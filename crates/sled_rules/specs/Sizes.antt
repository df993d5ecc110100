-- How much a constructor or a pattern can take.
use Rattle.std.specs.Prelude.{ℕ, ◌||◌, max, Bool, List, [], ◌∷◌, Option, Some, None, length, fold, slice_get, sum_by, nat_lt}
use Rattle.std.specs.List.{list_any}
use Rattle.std.specs.Option.{option_map_or}
use Rattle.rtl_core.specs.declared.encodings.Item.{Item}
use Rattle.rtl_core.specs.SoundEncodings.{item_size}
use Rattle.sled_rules.specs.declared.facts.Facts.{Facts}

-- the most numbers in the operand list of a type's constructors so far
abbrev pub most_of : List Facts → ℕ → ℕ
most_of facts t = option_map_or (λ f. f.most) (slice_get facts t) 0

-- the most bytes that a type's constructors so far take
abbrev pub longest_of : List Facts → ℕ → ℕ
longest_of facts t = option_map_or (λ f. f.longest) (slice_get facts t) 0

-- the most bytes that an alternative takes
abbrev pub bytes_of : List Facts → List Item → ℕ
bytes_of facts items = sum_by (item_size (longest_of facts)) items

-- the most bytes that some alternative takes
abbrev pub longest : List Facts → List (List Item) → ℕ
longest facts xs = fold (λ most items. max most (bytes_of facts items)) 0 xs

-- over 16 items or over 32 bytes
abbrev pub is_long : List Facts → List Item → Bool
is_long facts items = nat_lt 16 (length items) || nat_lt 32 (bytes_of facts items)

-- over 256 alternatives, or one that is too long
abbrev pub is_large : List Facts → List (List Item) → Bool
is_large facts xs = nat_lt 256 (length xs) || list_any (is_long facts) xs
