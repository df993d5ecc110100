-- What holds where a line has no fault.
use Rattle.std.proofs.Common.{◌≡◌, ℕ, zero, suc, ◌+◌, ◌<◌, ◌≤◌, ◌||◌, ◌&&◌, not, Bool, true, false, cond, List, [], ◌∷◌, ◌++◌, length, map, Option, None, Some, is_none, is_some, refl, sym, ap, ◌∙◌, arith, eqb, ltb, leb, nat_eq}
use Rattle.std.specs.Prelude.{sum_by}
use Rattle.std.specs.List.{list_any, list_all, filter_map, cons_option}
use Rattle.std.specs.Cmp.Lexicographic.{pointwise}
use Rattle.std.proofs.lemmas.List.Sums.{sum_by-cons}
use Rattle.std.proofs.lemmas.Bool.Decides.{nat_tests}
use Rattle.std.proofs.lemmas.Bool.{true≢false}
use Rattle.rtl_core.specs.declared.encodings.OperandKind.{OperandKind}
use Rattle.rtl_core.specs.declared.encodings.OperandKind.TheVariants as kinds
use Rattle.rtl_core.specs.SoundEncodings.{kind_size, list_size, most_leaves}
use Rattle.sled_syntax.specs.declared.line.FieldDef.{FieldDef}
use Rattle.sled_syntax.specs.declared.line.SledPattern.{SledPattern}
use Rattle.sled_rules.specs.declared.meaning.Meaning.{Meaning}
use Rattle.sled_rules.specs.declared.meaning.Meaning.TheVariants as means
use Rattle.sled_rules.specs.declared.known.Known.{Known}
use Rattle.sled_rules.specs.Meanings.{Table, named, is_given, is_taken, is_type}
use Rattle.sled_rules.specs.Operands.{kind_of, kinds_of}
use Rattle.sled_rules.specs.Sizes.{most_of, is_long, is_large}
use Rattle.sled_rules.specs.Alternatives.{alternatives}
use Rattle.sled_rules.specs.Known.{is_instruction, next_type, opened, with_type}
use Rattle.sled_rules.specs.Faults.{are_known_operands, constructor_checks, fields_checks, fields_fault, first_broken, is_known_pattern, is_outside, is_token_width, is_twice, is_unknown, names_given, pattern_checks, some_bound_twice, some_listed_twice, some_outside, some_taken, some_unbound}
use Rattle.sled_rules.proofs.BrokenLaws.{AllHold, all_hold}
use Rattle.sled_rules.proofs.TakenLaws.{or_false, given-append, given_by_names, not_given, fresh_first}

-- ---- fields

pub record FineFields (k : Known) (token : List ℕ) (width : ℕ) (fields : List FieldDef) : Type 0 where
  pub fresh : some_taken k.names [] (token ∷ map (λ f. f.name) fields) ≡ false
  pub inside : some_outside width fields ≡ false
  pub few : ltb 4096 (k.fields + length fields) ≡ false

pub fine_fields : (k : Known) (line : ℕ) (token : List ℕ) (width : ℕ) (fields : List FieldDef) → fields_fault k line token width fields ≡ None → FineFields k token width fields
fine_fields k line token width fields h =
    let all : AllHold (fields_checks k line token width fields) = all_hold (fields_checks k line token width fields) h in
    record { fresh = all.1.0; inside = all.1.1.0; few = all.1.1.1.0 }

pub record IsInside (width : ℕ) (fields : List FieldDef) : Type 0 where
  pub width_fits : width ≤ 32
  pub each : list_any (is_outside width) fields ≡ false

small_width : (width : ℕ) → is_token_width width ≡ true → width ≤ 32
small_width width h = grind (arith, nat_tests)

not_false : (b : Bool) → not b ≡ false → b ≡ true
not_false true h = refl
not_false false h = cc

pub inside_all : (width : ℕ) (fields : List FieldDef) → some_outside width fields ≡ false → IsInside width fields
inside_all width fields h =
    let parts = or_false (not (is_token_width width)) (list_any (is_outside width) fields) h in
    record { width_fits = small_width width (not_false (is_token_width width) parts.0); each = parts.1 }

-- ---- patterns

pub fine_pattern : (k : Known) (line : ℕ) (name : List ℕ) (p : SledPattern) → first_broken (pattern_checks k line name p) ≡ None → is_given k.names name ≡ false
fine_pattern k line name p h =
    let all : AllHold (pattern_checks k line name p) = all_hold (pattern_checks k line name p) h in
    not_given k.names name all.1.0

-- ---- constructors

pub record FineConstructor (k : Known) (name : List ℕ) (ops : List (List ℕ)) (type : List ℕ) : Type 0 where
  pub operands : are_known_operands k.names ops ≡ true
  pub fresh : some_taken k.names [] (names_given k.names name type) ≡ false
  pub numbers : list_size (most_of k.facts) (kinds_of k.names ops) ≤ 8

pub not_over : (a b : ℕ) → ltb a b ≡ false → b ≤ a
not_over a b h = grind (arith, nat_tests)

and_true : (a b : Bool) → (a && b) ≡ true → a ≡ true
and_true true b h = refl
and_true false b h = cc

pub fine_constructor : (k : Known) (line : ℕ) (name : List ℕ) (ops : List (List ℕ)) (type : List ℕ) (p : SledPattern)
    → first_broken (constructor_checks k line name ops type p) ≡ None → FineConstructor k name ops type
fine_constructor k line name ops type p h =
    let all : AllHold (constructor_checks k line name ops type p) = all_hold (constructor_checks k line name ops type p) h in
    let unknown = or_false (not (are_known_operands k.names ops && is_known_pattern k.names ops p)) (some_unbound k.names ops p) all.0 in
    let twice = or_false (some_taken k.names [] (names_given k.names name type) || some_listed_twice ops) (some_bound_twice k.names ops p) all.1.0 in
    record {
      operands = and_true (are_known_operands k.names ops) (is_known_pattern k.names ops p) (not_false (are_known_operands k.names ops && is_known_pattern k.names ops p) unknown.0);
      fresh = (or_false (some_taken k.names [] (names_given k.names name type)) (some_listed_twice ops) twice.0).0;
      numbers = not_over 8 (list_size (most_of k.facts) (kinds_of k.names ops)) all.1.1.1.1.1.0;
    }

-- each operand is at least one number
kind_size_some : (most : ℕ → ℕ) (kind : OperandKind) → 1 ≤ kind_size most kind
kind_size_some most (kinds.Field w) = omega arith
kind_size_some most (kinds.Typed t) = omega arith

length-list_size : (most : ℕ → ℕ) (ks : List OperandKind) → length ks ≤ list_size most ks
length-list_size most [] = omega arith
length-list_size most (kind ∷ ks) = omega (arith, sum_by-cons (kind_size most) kind ks, kind_size_some most kind, length-list_size most ks)

more_kinds : (o : Option OperandKind) (known : Bool) (n : ℕ) (ks : List OperandKind) → (is_some o && known) ≡ true → (known ≡ true → n ≤ length ks) → suc n ≤ length (cons_option o ks)
more_kinds None known n ks h more = cc
more_kinds (Some kind) known n ks h more = let rest : n ≤ length ks = more h in omega arith

known_kinds : (names : Table) (ops : List (List ℕ)) → are_known_operands names ops ≡ true → length ops ≤ length (kinds_of names ops)
known_kinds names [] h = omega arith
known_kinds names (op ∷ ops) h =
    more_kinds (kind_of (named names op)) (are_known_operands names ops) (length ops) (kinds_of names ops) h (known_kinds names ops)

-- so there are at most eight
pub few_operands : (k : Known) (name : List ℕ) (ops : List (List ℕ)) (type : List ℕ) → FineConstructor k name ops type → length ops ≤ 8
few_operands k name ops type fine =
    omega (arith, known_kinds k.names ops fine.operands, length-list_size (most_of k.facts) (kinds_of k.names ops), fine.numbers)

-- ---- a type, and then the name

type_is_given : (names : Table) (type : List ℕ) → is_type (named names type) ≡ true → is_given names type ≡ true
type_is_given names type h = by (named names type) h
  where
    by : (o : Option Meaning) → is_type o ≡ true → is_some o ≡ true
    by None h = cc
    by (Some m) h = refl

-- the name is still fresh where the type is given
pub fresh_behind_type : (k : Known) (name type : List ℕ) → some_taken k.names [] (names_given k.names name type) ≡ false → is_given (with_type type k).names name ≡ false
fresh_behind_type k name type h = by (is_type (named k.names type)) refl h
  where
    given : (b : Bool) → is_given k.names type ≡ b → is_given k.names name ≡ false → (b ≡ false → is_given (opened type k).names name ≡ false)
        → is_given (cond b k (opened type k)).names name ≡ false
    given true e fresh new = fresh
    given false e fresh new = new refl

    by : (b : Bool) → is_type (named k.names type) ≡ b → some_taken k.names [] (cond b (name ∷ []) (type ∷ name ∷ [])) ≡ false
        → is_given (with_type type k).names name ≡ false
    by true e h =
        let fresh : is_given k.names name ≡ false = not_given k.names name (fresh_first k.names [] name [] h).taken in
        let there : is_given k.names type ≡ true = type_is_given k.names type e in
        given (is_given k.names type) refl fresh (λ absent. absurd (true≢false (sym there ∙ absent)))
    by false e h =
        let first = fresh_first k.names [] type (name ∷ []) h in
        let second = fresh_first k.names (type ∷ []) name [] first.rest in
        let fresh : is_given k.names name ≡ false = not_given k.names name second.taken in
        given (is_given k.names type) refl fresh
        (λ absent. given-append name k.names ((type, means.Type (next_type type k)) ∷ []) fresh
        (given_by_names name ((type, means.Type (next_type type k)) ∷ []) ∙ second.unseen))
