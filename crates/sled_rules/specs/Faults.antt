-- What refuses a line, by what the lines before it give.
use Rattle.std.specs.Prelude.{ℕ, ◌+◌, ◌-◌, ◌^◌, ◌==◌, ◌&&◌, ◌||◌, not, nat_lt, nat_le, nat_eq, Bool, true, false, List, [], ◌∷◌, ◌++◌, Option, Some, None, is_some, is_none, length, map, option_to_list, if◌then◌else◌}
use Rattle.std.specs.List.{list_any, list_all}
use Rattle.std.specs.Cmp.Lexicographic.{pointwise}
use Rattle.std.specs.Option.{option_map_or, option_or}
use Rattle.std.specs.Prelude.{slice_get}
use Rattle.rtl_core.specs.SoundEncodings.{list_size, most_leaves}
use Rattle.sled_syntax.specs.declared.line.Part.{Part}
use Rattle.sled_syntax.specs.declared.line.Part.TheVariants.{Equal, Differs, Lone}
use Rattle.sled_syntax.specs.declared.line.SledItem.{SledItem}
use Rattle.sled_syntax.specs.declared.line.SledPattern.{SledPattern}
use Rattle.sled_syntax.specs.declared.line.FieldDef.{FieldDef}
use Rattle.sled_syntax.specs.declared.line.SledBody.{SledBody}
use Rattle.sled_syntax.specs.declared.line.SledBody.TheVariants as body
use Rattle.sled_rules.specs.declared.fault.SledFault.{SledFault}
use Rattle.sled_rules.specs.declared.fault.SledFault.TheVariants as faults
use Rattle.sled_rules.specs.declared.meaning.Meaning.{Meaning}
use Rattle.sled_rules.specs.declared.meaning.Meaning.TheVariants as means
use Rattle.sled_rules.specs.declared.meaning.Start.{Start}
use Rattle.sled_rules.specs.declared.meaning.Start.TheVariants.{Nothing, One, Several}
use Rattle.sled_rules.specs.declared.facts.Facts.{Facts}
use Rattle.sled_rules.specs.declared.known.Known.{Known}
use Rattle.sled_rules.specs.Meanings.{Table, named, is_given, is_taken, is_field, is_type}
use Rattle.sled_rules.specs.Starts.{item_start}
use Rattle.sled_rules.specs.Operands.{place, is_listed, kind_of, kinds_of, times}
use Rattle.sled_rules.specs.Alternatives.{alternatives}
use Rattle.sled_rules.specs.Sizes.{most_of, is_large}
use Rattle.sled_rules.specs.Known.{type_name}

-- ---- unknown names

-- a lone name: a pattern, or a field or a type that is listed
abbrev pub is_lone : List (List ℕ) → List ℕ → Option Meaning → Bool
is_lone ops name (Some (means.Field f)) = is_listed ops name
is_lone ops name (Some (means.Pattern p)) = true
is_lone ops name (Some (means.Type t)) = is_listed ops name
is_lone ops name _ = false

-- a name with a test is a field
abbrev pub is_known_part : Table → List (List ℕ) → Part → Bool
is_known_part names ops (Equal name value) = is_field (named names name)
is_known_part names ops (Differs name value) = is_field (named names name)
is_known_part names ops (Lone name) = is_lone ops name (named names name)

-- the name behind `... &` is a type that is listed
abbrev pub is_known_rest : Table → List (List ℕ) → Option (List ℕ) → Bool
is_known_rest names ops None = true
is_known_rest names ops (Some type) = is_type (named names type) && is_listed ops type

abbrev pub is_known_item : Table → List (List ℕ) → SledItem → Bool
is_known_item names ops it = list_all (is_known_part names ops) it.parts && is_known_rest names ops it.rest

abbrev pub is_known_pattern : Table → List (List ℕ) → SledPattern → Bool
is_known_pattern names ops p = list_all (list_all (is_known_item names ops)) p.alternatives

-- an operand is a field or a type
abbrev pub are_known_operands : Table → List (List ℕ) → Bool
are_known_operands names ops = list_all (λ op. is_some (kind_of (named names op))) ops

-- a sequence does not bind some operand, or binds one more than once
abbrev pub lacks : Table → List (List ℕ) → List SledItem → Bool
lacks names ops items = list_any (λ op. times names ops items op == 0) ops

abbrev pub repeats : Table → List (List ℕ) → List SledItem → Bool
repeats names ops items = list_any (λ op. nat_lt 1 (times names ops items op)) ops

-- so does some sequence of a pattern
abbrev pub some_unbound : Table → List (List ℕ) → SledPattern → Bool
some_unbound names ops p = list_any (lacks names ops) p.alternatives

abbrev pub some_bound_twice : Table → List (List ℕ) → SledPattern → Bool
some_bound_twice names ops p = list_any (repeats names ops) p.alternatives

-- ---- names given twice

-- a name of a list that is taken, or stands in the list or in `seen` before
abbrev pub some_taken : Table → List (List ℕ) → List (List ℕ) → Bool
some_taken names seen [] = false
some_taken names seen (name ∷ more) = is_taken names name || list_any (pointwise nat_eq name) seen || some_taken names (seen ++ name ∷ []) more

-- an operand that stands in the list twice
abbrev pub some_listed_twice : List (List ℕ) → Bool
some_listed_twice [] = false
some_listed_twice (op ∷ ops) = is_listed ops op || some_listed_twice ops

-- a constructor gives its name and, where no earlier one did, its type
abbrev pub names_given : Table → List ℕ → List ℕ → List (List ℕ)
names_given names name type = if is_type (named names type) then name ∷ [] else type ∷ name ∷ []

-- ---- ranges

abbrev pub is_token_width : ℕ → Bool
is_token_width width = (width == 8) || (width == 16) || (width == 32)

-- bits that no token of this width has, or none
abbrev pub is_outside : ℕ → FieldDef → Bool
is_outside width f = nat_lt f.hi f.lo || nat_le width f.hi

abbrev pub some_outside : ℕ → List FieldDef → Bool
some_outside width fields = not (is_token_width width) || list_any (is_outside width) fields

-- a number that does not fit this field
abbrev pub is_over : ℕ → Option Meaning → Bool
is_over value (Some (means.Field f)) = nat_le (2 ^ (f.hi + 1 - f.lo)) value
is_over value _ = false

abbrev pub is_over_part : Table → Part → Bool
is_over_part names (Equal name value) = is_over value (named names name)
is_over_part names (Differs name value) = is_over value (named names name)
is_over_part names (Lone name) = false

abbrev pub some_over : Table → SledPattern → Bool
some_over names p = list_any (list_any (λ it. list_any (is_over_part names) it.parts)) p.alternatives

-- ---- tokens

-- a lone name and nothing else may stand for a sequence, or for a typed operand
abbrev pub is_whole : SledItem → Bool
is_whole it = (length it.parts == 1) && is_none it.rest

-- what can't stand over one token with other parts: a type, or a pattern with a sequence
abbrev pub is_longer : Option Meaning → Bool
is_longer (Some (means.Pattern p)) = list_any (λ items. not (length items == 1)) p.alternatives
is_longer (Some (means.Type t)) = true
is_longer _ = false

abbrev pub is_longer_part : Table → Part → Bool
is_longer_part names (Equal name value) = false
is_longer_part names (Differs name value) = false
is_longer_part names (Lone name) = is_longer (named names name)

abbrev pub is_several : Start → Bool
is_several Several = true
is_several _ = false

-- parts over two tokens, or some that can't stand over one
abbrev pub is_mixed : Table → List Facts → SledItem → Bool
is_mixed names facts it = not (is_whole it) && (list_any (is_longer_part names) it.parts || is_several (item_start names facts it))

abbrev pub some_mixed : Table → List Facts → SledPattern → Bool
some_mixed names facts p = list_any (list_any (is_mixed names facts)) p.alternatives

-- ---- types

abbrev pub is_used : List Facts → ℕ → Bool
is_used facts t = option_map_or (λ f. f.used) (slice_get facts t) false

-- a type that an earlier line uses as operand, or this one
abbrev pub is_late : List Facts → List (List ℕ) → List ℕ → Option Meaning → Bool
is_late facts ops type (Some (means.Type t)) = is_used facts t || is_listed ops type
is_late facts ops type _ = false

-- ---- lines

-- the first of some checks that fails
abbrev pub first_broken : List (Bool × SledFault) → Option SledFault
first_broken [] = None
first_broken (c ∷ cs) = if c.0 then Some c.1 else first_broken cs

abbrev pub fields_checks : Known → ℕ → List ℕ → ℕ → List FieldDef → List (Bool × SledFault)
fields_checks k line token width fields =
    (is_none k.order, faults.Unknown line)
    ∷ (some_taken k.names [] (token ∷ map (λ f. f.name) fields), faults.Twice line)
    ∷ (some_outside width fields, faults.FieldRange line)
    ∷ (nat_lt 4096 (k.fields + length fields), faults.TooMany line)
    ∷ []

abbrev pub fields_fault : Known → ℕ → List ℕ → ℕ → List FieldDef → Option SledFault
fields_fault k line token width fields = first_broken (fields_checks k line token width fields)

-- the checks of a pattern line before that of its size
abbrev pub pattern_checks : Known → ℕ → List ℕ → SledPattern → List (Bool × SledFault)
pattern_checks k line name p =
    (not (is_known_pattern k.names [] p), faults.Unknown line)
    ∷ (is_taken k.names name, faults.Twice line)
    ∷ (some_over k.names p, faults.FieldRange line)
    ∷ (some_mixed k.names k.facts p, faults.TokenMixed line)
    ∷ []

-- a pattern that is too large
abbrev pub large_fault : Known → ℕ → List (List ℕ) → SledPattern → Option SledFault
large_fault k line ops p = if is_large k.facts (alternatives k.names ops p) then Some (faults.TooMany line) else None

abbrev pub pattern_fault : Known → ℕ → List ℕ → SledPattern → Option SledFault
pattern_fault k line name p = option_or (first_broken (pattern_checks k line name p)) (large_fault k line [] p)

abbrev pub is_unknown : Table → List (List ℕ) → SledPattern → Bool
is_unknown names ops p = not (are_known_operands names ops && is_known_pattern names ops p) || some_unbound names ops p

abbrev pub is_twice : Table → List ℕ → List (List ℕ) → List ℕ → SledPattern → Bool
is_twice names name ops type p =
    some_taken names [] (names_given names name type) || some_listed_twice ops || some_bound_twice names ops p

-- the checks of a constructor before that of its size
abbrev pub constructor_checks : Known → ℕ → List ℕ → List (List ℕ) → List ℕ → SledPattern → List (Bool × SledFault)
constructor_checks k line name ops type p =
    (is_unknown k.names ops p, faults.Unknown line)
    ∷ (is_twice k.names name ops type p, faults.Twice line)
    ∷ (some_over k.names p, faults.FieldRange line)
    ∷ (some_mixed k.names k.facts p, faults.TokenMixed line)
    ∷ (is_late k.facts ops type (named k.names type), faults.TypeOrder line)
    ∷ (nat_lt most_leaves (list_size (most_of k.facts) (kinds_of k.names ops)), faults.TooManyOperands line)
    ∷ []

-- one constructor too many, or a pattern that is too large
abbrev pub size_fault : Known → ℕ → List (List ℕ) → SledPattern → Option SledFault
size_fault k line ops p =
    if nat_le 4096 (length k.constructors) || is_large k.facts (alternatives k.names ops p) then Some (faults.TooMany line) else None

abbrev pub constructor_fault : Known → ℕ → List ℕ → List (List ℕ) → List ℕ → SledPattern → Option SledFault
constructor_fault k line name ops type p = option_or (first_broken (constructor_checks k line name ops type p)) (size_fault k line ops p)

-- the fault of one line: that of its first check that fails
abbrev pub line_fault : Known → ℕ → SledBody → Option SledFault
line_fault k line (body.ByteOrder big) = if is_some k.order then Some (faults.Twice line) else None
line_fault k line (body.Fields token width fields) = fields_fault k line token width fields
line_fault k line (body.Pattern name p) = pattern_fault k line name p
line_fault k line (body.Constructor name ops of_type p) = constructor_fault k line name ops (type_name of_type) p
