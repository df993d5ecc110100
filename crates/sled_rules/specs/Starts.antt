-- Over which token patterns start.
use Rattle.std.specs.Prelude.{ℕ, ◌==◌, ◌&&◌, List, [], ◌∷◌, ◌++◌, Option, Some, None, fold, slice_get, if◌then◌else◌}
use Rattle.std.specs.Option.{option_map_or}
use Rattle.sled_syntax.specs.declared.line.Part.{Part}
use Rattle.sled_syntax.specs.declared.line.Part.TheVariants.{Equal, Differs, Lone}
use Rattle.sled_syntax.specs.declared.line.SledItem.{SledItem}
use Rattle.sled_syntax.specs.declared.line.SledPattern.{SledPattern}
use Rattle.sled_rules.specs.declared.meaning.Token.{Token}
use Rattle.sled_rules.specs.declared.meaning.Start.{Start}
use Rattle.sled_rules.specs.declared.meaning.Start.TheVariants.{Nothing, One, Several}
use Rattle.sled_rules.specs.declared.meaning.Meaning.{Meaning}
use Rattle.sled_rules.specs.declared.meaning.Meaning.TheVariants as means
use Rattle.sled_rules.specs.declared.facts.Facts.{Facts}
use Rattle.sled_rules.specs.Meanings.{Table, named}

-- what starts over the tokens of both
abbrev pub join : Start → Start → Start
join Nothing s = s
join (One t) Nothing = One t
join (One t) (One u) = if (t.place == u.place) && (t.bits == u.bits) then One t else Several
join (One t) Several = Several
join Several s = Several

-- the name behind `... &` as a part
abbrev pub rest_part : Option (List ℕ) → List Part
rest_part None = []
rest_part (Some type) = Lone type ∷ []

-- the parts of an item, with the name behind `... &` as the last
abbrev pub parts_of : SledItem → List Part
parts_of it = it.parts ++ rest_part it.rest

-- the token that the constructors of a type start with
abbrev pub start_of : List Facts → ℕ → Start
start_of facts t = option_map_or (λ f. f.start) (slice_get facts t) Nothing

-- the token of a field, or that which a pattern or a type starts with
abbrev pub meaning_start : List Facts → Option Meaning → Start
meaning_start facts (Some (means.Field f)) = One f.token
meaning_start facts (Some (means.Pattern p)) = p.start
meaning_start facts (Some (means.Type t)) = start_of facts t
meaning_start facts _ = Nothing

abbrev pub part_name : Part → List ℕ
part_name (Equal name value) = name
part_name (Differs name value) = name
part_name (Lone name) = name

abbrev pub part_start : Table → List Facts → Part → Start
part_start names facts part = meaning_start facts (named names (part_name part))

-- the token that all parts of an item start with
abbrev pub item_start : Table → List Facts → SledItem → Start
item_start names facts it = fold (λ s part. join s (part_start names facts part)) Nothing (parts_of it)

-- a sequence starts with its first item
abbrev pub sequence_start : Table → List Facts → List SledItem → Start
sequence_start names facts items = option_map_or (item_start names facts) (slice_get items 0) Nothing

-- the token that all alternatives of a pattern start with
abbrev pub pattern_start : Table → List Facts → SledPattern → Start
pattern_start names facts p = fold (λ s items. join s (sequence_start names facts items)) Nothing p.alternatives
