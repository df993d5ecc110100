-- Names that are given before, and names on one line.
use Rattle.std.proofs.Common.{◌≡◌, ℕ, ◌+◌, ◌<◌, Bool, true, false, ◌||◌, cond, is_some, List, [], ◌∷◌, ◌++◌, length, get_or, take, drop, map, Some, refl, sym, ap, ◌∙◌, nat_eq}
use Rattle.std.proofs.lemmas.List.{map-append, drop_more, take_more, append_assoc}
use Rattle.std.proofs.lemmas.List.Folds.{list_any-append}
use Rattle.std.specs.List.{list_any}
use Rattle.std.specs.Cmp.Lexicographic.{pointwise}
use Rattle.sled_syntax.specs.declared.line.FieldDef.{FieldDef}
use Rattle.sled_rules.specs.declared.meaning.Meaning.{Meaning}
use Rattle.sled_rules.specs.declared.meaning.Meaning.TheVariants as means
use Rattle.sled_rules.specs.declared.meaning.Token.{Token}
use Rattle.sled_rules.specs.Meanings.{Table, named, is_given, is_taken}
use Rattle.sled_rules.specs.Known.{field_entry}
use Rattle.sled_rules.specs.Faults.{some_taken}

-- a name is given where it is among the names
pub given_by_names : (name : List ℕ) (es : Table) → is_given es name ≡ list_any (pointwise nat_eq name) (map (λ e. e.0) es)
given_by_names name [] = refl
given_by_names name (e ∷ es) = by (pointwise nat_eq name e.0) (given_by_names name es)
  where
    by : (b : Bool) → is_given es name ≡ list_any (pointwise nat_eq name) (map (λ e. e.0) es) → is_some (cond b (Some e.1) (named es name)) ≡ (b || list_any (pointwise nat_eq name) (map (λ e. e.0) es))
    by true h = refl
    by false h = h

pub or_false : (a b : Bool) → (a || b) ≡ false → (a ≡ false) × (b ≡ false)
or_false true b h = cc
or_false false b h = (refl, h)

-- given before or behind
pub given-append : (name : List ℕ) (es fs : Table) → is_given es name ≡ false → is_given fs name ≡ false → is_given (es ++ fs) name ≡ false
given-append name es fs e f =
    given_by_names name (es ++ fs) ∙ ap (list_any (pointwise nat_eq name)) (map-append (λ e. e.0) es fs)
    ∙ list_any-append (pointwise nat_eq name) (map (λ e. e.0) es) (map (λ e. e.0) fs)
    ∙ rw (← given_by_names name es, ← given_by_names name fs, e, f) refl

-- what is said of the first of the names to come
pub record IsFresh (names : Table) (seen : List (List ℕ)) (name : List ℕ) (more : List (List ℕ)) : Type 0 where
  pub taken : is_taken names name ≡ false
  pub unseen : list_any (pointwise nat_eq name) seen ≡ false
  pub rest : some_taken names (seen ++ name ∷ []) more ≡ false

pub fresh_first : (names : Table) (seen : List (List ℕ)) (name : List ℕ) (more : List (List ℕ)) → some_taken names seen (name ∷ more) ≡ false → IsFresh names seen name more
fresh_first names seen name more h =
    let a = or_false (is_taken names name || list_any (pointwise nat_eq name) seen) (some_taken names (seen ++ name ∷ []) more) h in
    let b = or_false (is_taken names name) (list_any (pointwise nat_eq name) seen) a.0 in
    record { taken = b.0; unseen = b.1; rest = a.1 }

-- a name that is neither taken nor seen is passed over
pub passed : (names : Table) (seen : List (List ℕ)) (name : List ℕ) (more : List (List ℕ)) → is_taken names name ≡ false
    → list_any (pointwise nat_eq name) seen ≡ false → some_taken names seen (name ∷ more) ≡ some_taken names (seen ++ name ∷ []) more
passed names seen name more t s = rw (t, s) refl

-- a name that is taken or seen settles the answer
pub settled : (names : Table) (seen : List (List ℕ)) (name : List ℕ) (more : List (List ℕ)) → (is_taken names name || list_any (pointwise nat_eq name) seen) ≡ true
    → some_taken names seen (name ∷ more) ≡ true
settled names seen name more h = rw h refl

-- the names of entries of fields
pub names_of_entries : (token : Token) (fields : List FieldDef) → map (λ e. e.0) (map (field_entry token) fields) ≡ map (λ f. f.name) fields
names_of_entries token [] = refl
names_of_entries token (f ∷ fs) = ap (λ ns. f.name ∷ ns) (names_of_entries token fs)

-- a fresh name is not among the names of this line
pub fresh-line : (names : Table) (token_name name : List ℕ) (token : Token) (fields : List FieldDef) → is_given names name ≡ false
    → list_any (pointwise nat_eq name) (token_name ∷ map (λ f. f.name) fields) ≡ false
    → is_given (names ++ (token_name, means.Token) ∷ map (field_entry token) fields) name ≡ false
fresh-line names token_name name token fields g s =
    given-append name names ((token_name, means.Token) ∷ map (field_entry token) fields) g
    (given_by_names name ((token_name, means.Token) ∷ map (field_entry token) fields)
    ∙ ap (λ ns. list_any (pointwise nat_eq name) (token_name ∷ ns)) (names_of_entries token fields) ∙ s)

-- a name that is not taken is not given
pub not_given : (names : Table) (name : List ℕ) → is_taken names name ≡ false → is_given names name ≡ false
not_given names name h = (or_false (is_given names name) _ h).0

-- ---- one field after another

pub line_settled : (names : Table) (seen : List (List ℕ)) (fields : List FieldDef) (i : ℕ) (f : FieldDef) (all : Bool) → i < length fields → f ≡ get_or fields i f
    → some_taken names seen (map (λ f. f.name) (drop i fields)) ≡ all → (is_taken names f.name || list_any (pointwise nat_eq f.name) seen) ≡ true → true ≡ all
line_settled names seen fields i f all h e s t =
    let d : drop i fields ≡ f ∷ drop (i + 1) fields = drop_more fields i f h ∙ ap (λ x. x ∷ drop (i + 1) fields) (sym e) in
    sym (settled names seen f.name (map (λ f. f.name) (drop (i + 1) fields)) t) ∙ ap (λ fs. some_taken names seen (map (λ f. f.name) fs)) (sym d) ∙ s

pub line_passed : (names : Table) (seen : List (List ℕ)) (fields : List FieldDef) (i : ℕ) (f : FieldDef) (all : Bool) → i < length fields → f ≡ get_or fields i f
    → some_taken names seen (map (λ f. f.name) (drop i fields)) ≡ all → (is_taken names f.name || list_any (pointwise nat_eq f.name) seen) ≡ false
    → some_taken names (seen ++ f.name ∷ []) (map (λ f. f.name) (drop (i + 1) fields)) ≡ all
line_passed names seen fields i f all h e s t =
    let d : drop i fields ≡ f ∷ drop (i + 1) fields = drop_more fields i f h ∙ ap (λ x. x ∷ drop (i + 1) fields) (sym e) in
    let both = or_false (is_taken names f.name) (list_any (pointwise nat_eq f.name) seen) t in
    sym (passed names seen f.name (map (λ f. f.name) (drop (i + 1) fields)) both.0 both.1) ∙ ap (λ fs. some_taken names seen (map (λ f. f.name) fs)) (sym d) ∙ s

-- a name that is not repeated is not seen
pub not_seen : (names seen : Table) (name : List ℕ) → (is_taken names name || list_any (pointwise nat_eq name) (map (λ e. e.0) seen)) ≡ false → is_given seen name ≡ false
not_seen names seen name h = given_by_names name seen ∙ (or_false (is_taken names name) (list_any (pointwise nat_eq name) (map (λ e. e.0) seen)) h).1
