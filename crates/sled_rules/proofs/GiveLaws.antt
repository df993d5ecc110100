-- Giving a token and one field after another.
use Rattle.std.proofs.Common.{◌≡◌, ℕ, ◌+◌, ◌<◌, ◌≤◌, Bool, true, false, List, [], ◌∷◌, ◌++◌, length, get_or, take, drop, map, refl, sym, ap, ◌∙◌, append_assoc}
use Rattle.std.proofs.lemmas.List.{drop_more, take_more, take_all, map_push}
use Rattle.std.specs.List.{list_any}
use Rattle.sled_syntax.specs.declared.line.FieldDef.{FieldDef}
use Rattle.sled_rules.specs.declared.meaning.Token.{Token}
use Rattle.sled_rules.specs.declared.meaning.Meaning.{Meaning}
use Rattle.sled_rules.specs.declared.meaning.Meaning.TheVariants as means
use Rattle.sled_rules.specs.Meanings.{Table, is_given}
use Rattle.sled_rules.specs.Known.{field_entry}
use Rattle.sled_rules.specs.Faults.{is_outside, some_outside, some_taken}
use Rattle.sled_rules.proofs.TakenLaws.{or_false, fresh_first, fresh-line, not_given}

abbrev names_of : List FieldDef → List (List ℕ)
names_of fields = map (λ f. f.name) fields

-- the token and i fields are given
pub record IsGiving (names : Table) (token_name : List ℕ) (token : Token) (fields : List FieldDef) (i : ℕ) (now : Table) : Type 0 where
  pub given : now ≡ names ++ (token_name, means.Token) ∷ map (field_entry token) (take i fields)
  pub fresh : some_taken names (token_name ∷ map (λ f. f.name) (take i fields)) (map (λ f. f.name) (drop i fields)) ≡ false
  pub inside : list_any (is_outside token.bits) (drop i fields) ≡ false

pub giving_none : (names now : Table) (token_name : List ℕ) (token : Token) (fields : List FieldDef) → some_taken names [] (token_name ∷ map (λ f. f.name) fields) ≡ false
    → list_any (is_outside token.bits) fields ≡ false → now ≡ names ++ (token_name, means.Token) ∷ [] → IsGiving names token_name token fields 0 now
giving_none names now token_name token fields h inside e =
    record { given = e; fresh = (fresh_first names [] token_name (names_of fields) h).rest; inside = inside }

-- the next field has a fresh name, and lies in its token
pub record IsFineField (now : Table) (token : Token) (f : FieldDef) : Type 0 where
  pub fresh : is_given now f.name ≡ false
  pub inside : is_outside token.bits f ≡ false

pub giving_fine : (names now : Table) (token_name : List ℕ) (token : Token) (fields : List FieldDef) (i : ℕ) (f : FieldDef) → i < length fields → f ≡ get_or fields i f
    → IsGiving names token_name token fields i now → IsFineField now token f
giving_fine names now token_name token fields i f h e s =
    let d : drop i fields ≡ f ∷ drop (i + 1) fields = drop_more fields i f h ∙ ap (λ x. x ∷ drop (i + 1) fields) (sym e) in
    let first = fresh_first names (token_name ∷ names_of (take i fields)) f.name (names_of (drop (i + 1) fields))
    (ap (λ fs. some_taken names (token_name ∷ names_of (take i fields)) (names_of fs)) (sym d) ∙ s.fresh) in
    let bits = or_false (is_outside token.bits f) (list_any (is_outside token.bits) (drop (i + 1) fields)) (ap (list_any (is_outside token.bits)) (sym d) ∙ s.inside) in
    record {
      fresh = ap (λ t. is_given t f.name) s.given ∙ fresh-line names token_name f.name token (take i fields) (not_given names f.name first.taken) first.unseen;
      inside = bits.0;
    }

pub giving_more : (names now next : Table) (token_name : List ℕ) (token : Token) (fields : List FieldDef) (i : ℕ) (f : FieldDef) → i < length fields → f ≡ get_or fields i f
    → IsGiving names token_name token fields i now → next ≡ now ++ field_entry token f ∷ [] → IsGiving names token_name token fields (i + 1) next
giving_more names now next token_name token fields i f h e s step =
    let d : drop i fields ≡ f ∷ drop (i + 1) fields = drop_more fields i f h ∙ ap (λ x. x ∷ drop (i + 1) fields) (sym e) in
    let t : take (i + 1) fields ≡ take i fields ++ f ∷ [] = take_more fields i f h ∙ ap (λ x. take i fields ++ x ∷ []) (sym e) in
    let first = fresh_first names (token_name ∷ names_of (take i fields)) f.name (names_of (drop (i + 1) fields))
    (ap (λ fs. some_taken names (token_name ∷ names_of (take i fields)) (names_of fs)) (sym d) ∙ s.fresh) in
    let bits = or_false (is_outside token.bits f) (list_any (is_outside token.bits) (drop (i + 1) fields)) (ap (list_any (is_outside token.bits)) (sym d) ∙ s.inside) in
    let entries : map (field_entry token) (take i fields) ++ field_entry token f ∷ [] ≡ map (field_entry token) (take (i + 1) fields) =
    sym (map_push (field_entry token) (take i fields) f) ∙ ap (map (field_entry token)) (sym t) in
    let seen : names_of (take i fields) ++ f.name ∷ [] ≡ names_of (take (i + 1) fields) = sym (map_push (λ f. f.name) (take i fields) f) ∙ ap names_of (sym t) in
    record {
      given = step ∙ ap (λ t. t ++ field_entry token f ∷ []) s.given
          ∙ append_assoc names ((token_name, means.Token) ∷ map (field_entry token) (take i fields)) (field_entry token f ∷ [])
          ∙ ap (λ es. names ++ (token_name, means.Token) ∷ es) entries;
      fresh = ap (λ ns. some_taken names (token_name ∷ ns) (names_of (drop (i + 1) fields))) (sym seen) ∙ first.rest;
      inside = bits.1;
    }

pub giving_all : (names now : Table) (token_name : List ℕ) (token : Token) (fields : List FieldDef) (i : ℕ) → length fields ≤ i → IsGiving names token_name token fields i now
    → now ≡ names ++ (token_name, means.Token) ∷ map (field_entry token) fields
giving_all names now token_name token fields i h s = s.given ∙ ap (λ fs. names ++ (token_name, means.Token) ∷ map (field_entry token) fs) (take_all i fields h)
