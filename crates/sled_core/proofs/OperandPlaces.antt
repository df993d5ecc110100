-- The operands of a constructor: each has its kind at its place, and each place is that of its operand.
use Rattle.std.proofs.Common.{◌≡◌, ℕ, zero, suc, ◌+◌, ◌-◌, ◌<◌, ◌≤◌, ◌==◌, ◌&&◌, ◌||◌, cond, Bool, true, false, List, [], ◌∷◌, ◌++◌, Option, Some, None, length, get_or, is_some, ap, refl, sym, subst, ◌∙◌, arith, nat_eq, ltb}
use Rattle.std.specs.Prelude.{slice_get, unwrap_or}
use Rattle.std.specs.List.{cons_option, position_from}
use Rattle.std.specs.Cmp.Lexicographic.{pointwise, same_text}
use Rattle.std.proofs.lemmas.Iterator.Adapters.{position_from-zero}
use Rattle.std.proofs.lemmas.Cmp.{nat_list_eq_equiv}
use Rattle.rtl_core.specs.declared.encodings.OperandKind.{OperandKind}
use Rattle.sled_rules.specs.Meanings.{Table, named}
use Rattle.sled_rules.specs.Operands.{is_listed, kind_of, kinds_of, operand_of, place}
use Rattle.sled_rules.specs.Faults.{are_known_operands, some_listed_twice}
use Rattle.sled_rules.proofs.TakenLaws.{or_false}
use Rattle.sled_core.proofs.Items.{and_both}

pub same_name : (name : List ℕ) → pointwise nat_eq name name ≡ true
same_name name = nat_list_eq_equiv.refl name

-- the place of a name, counted from i on
abbrev place_from : ℕ → List (List ℕ) → List ℕ → Option ℕ
place_from i ops name = position_from (pointwise nat_eq name) i ops

place_is : (ops : List (List ℕ)) (name : List ℕ) → place ops name ≡ place_from 0 ops name
place_is ops name = position_from-zero (pointwise nat_eq name) ops

-- one operand more, which has a kind
cons_kind : (o : Option OperandKind) (ks : List OperandKind) (n : ℕ) → is_some o ≡ true → slice_get (cons_option o ks) (suc n) ≡ slice_get ks n
cons_kind None ks n h = cc
cons_kind (Some kind) ks n h = refl

cons_length : (o : Option OperandKind) (ks : List OperandKind) → is_some o ≡ true → length (cons_option o ks) ≡ suc (length ks)
cons_length None ks h = cc
cons_length (Some kind) ks h = refl

pub kinds_length : (names : Table) (ops : List (List ℕ)) → are_known_operands names ops ≡ true → length (kinds_of names ops) ≡ length ops
kinds_length names [] h = refl
kinds_length names (op ∷ ops) h =
    let two = and_both (is_some (kind_of (named names op))) (are_known_operands names ops) h in
    cons_length (kind_of (named names op)) (kinds_of names ops) two.0 ∙ ap suc (kinds_length names ops two.1)

-- the kind at a place that is found from i on
record IsAt (kinds : List OperandKind) (i j : ℕ) (kind : OperandKind) : Type 0 where
  from : i ≤ j
  at : slice_get kinds (j - i) ≡ Some kind

kind_from : (names : Table) (ops : List (List ℕ)) (i j : ℕ) (name : List ℕ) (kind : OperandKind) → are_known_operands names ops ≡ true → kind_of (named names name) ≡ Some kind
    → place_from i ops name ≡ Some j → IsAt (kinds_of names ops) i j kind
kind_from names [] i j name kind known is found = cc
kind_from names (op ∷ ops) i j name kind known is found =
    let two = and_both (is_some (kind_of (named names op))) (are_known_operands names ops) known in
    by (pointwise nat_eq name op) refl found two.0 (λ rest. kind_from names ops (i + 1) j name kind two.1 is rest)
  where
    by : (b : Bool) → pointwise nat_eq name op ≡ b → cond b (Some i) (place_from (i + 1) ops name) ≡ Some j → is_some (kind_of (named names op)) ≡ true
        → (place_from (i + 1) ops name ≡ Some j → IsAt (kinds_of names ops) (i + 1) j kind) → IsAt (kinds_of names (op ∷ ops)) i j kind
    by true e found there behind =
        let same : name ≡ op = same_text name op (sym e) in
        let k : kind_of (named names op) ≡ Some kind = subst (λ n. kind_of (named names n) ≡ Some kind) same is in
        let here : i ≡ j = cc found in
        let none : j - i ≡ 0 = omega (arith, here) in
        record {
          from = omega (arith, here);
          at = ap (slice_get (kinds_of names (op ∷ ops))) none ∙ ap (λ o. slice_get (cons_option o (kinds_of names ops)) 0) k;
        }
    by false e found there behind =
        let rest : IsAt (kinds_of names ops) (i + 1) j kind = behind found in
        let more : j - i ≡ suc (j - (i + 1)) = omega (arith, rest.from) in
        record {
          from = omega (arith, rest.from);
          at = ap (slice_get (kinds_of names (op ∷ ops))) more ∙ cons_kind (kind_of (named names op)) (kinds_of names ops) (j - (i + 1)) there ∙ rest.at;
        }

some_value : (o : Option ℕ) → is_some o ≡ true → o ≡ Some (unwrap_or o 0)
some_value None h = cc
some_value (Some k) h = refl

-- each operand that is listed has its kind at its place
no_less : (n : ℕ) → n - 0 ≡ n
no_less n = omega arith

pub kinds_at : (names : Table) (ops : List (List ℕ)) (name : List ℕ) (kind : OperandKind) → are_known_operands names ops ≡ true → is_listed ops name ≡ true → kind_of (named names name) ≡ Some kind
    → slice_get (kinds_of names ops) (operand_of ops name) ≡ Some kind
kinds_at names ops name kind known listed is =
    let found : place_from 0 ops name ≡ Some (operand_of ops name) = sym (place_is ops name) ∙ some_value (place ops name) listed in
    ap (slice_get (kinds_of names ops)) (sym (no_less (operand_of ops name))) ∙ (kind_from names ops 0 (operand_of ops name) name kind known is found).at

-- ---- where no operand is listed twice, the operand at k has the number k

place_at : (ops : List (List ℕ)) (i k : ℕ) (d : List ℕ) → some_listed_twice ops ≡ false → k < length ops → place_from i ops (get_or ops k d) ≡ Some (i + k)
place_at [] i k d once h = absurd (omega (arith, h))
place_at (op ∷ ops) i zero d once h = ap (λ b. cond b (Some i) (place_from (i + 1) ops op)) (same_name op) ∙ ap Some (omega arith)
place_at (op ∷ ops) i (suc k) d once h =
    let two = or_false (is_listed ops op) (some_listed_twice ops) once in
    let rest : (j : ℕ) → place_from j ops (get_or ops k d) ≡ Some (j + k) = λ j. place_at ops j k d two.1 (omega (arith, h)) in
    by (pointwise nat_eq (get_or ops k d) op) refl two.0 (rest 0) (rest (i + 1))
  where
    by : (b : Bool) → pointwise nat_eq (get_or ops k d) op ≡ b → is_listed ops op ≡ false → place_from 0 ops (get_or ops k d) ≡ Some (0 + k)
        → place_from (i + 1) ops (get_or ops k d) ≡ Some (i + 1 + k) → cond b (Some i) (place_from (i + 1) ops (get_or ops k d)) ≡ Some (i + suc k)
    by false e absent first rest = rest ∙ ap Some (omega arith)
    by true e absent first rest =
        let same : get_or ops k d ≡ op = same_text (get_or ops k d) op (sym e) in
        let there : is_listed ops (get_or ops k d) ≡ true = ap is_some (place_is ops (get_or ops k d) ∙ first) in
        let no : is_listed ops op ≡ true = subst (λ n. is_listed ops n ≡ true) same there in
        cc (no, absent)

pub operand_at : (ops : List (List ℕ)) (k : ℕ) (d : List ℕ) → some_listed_twice ops ≡ false → k < length ops → operand_of ops (get_or ops k d) ≡ k
operand_at ops k d once h = ap (λ o. unwrap_or o 0) (place_is ops (get_or ops k d) ∙ place_at ops 0 k d once h) ∙ omega arith

-- ---- operands that are listed

found_anywhere : (ops : List (List ℕ)) (i j : ℕ) (name : List ℕ) → is_some (place_from i ops name) ≡ is_some (place_from j ops name)
found_anywhere [] i j name = refl
found_anywhere (op ∷ ops) i j name = by (pointwise nat_eq name op) (found_anywhere ops (i + 1) (j + 1) name)
  where
    by : (b : Bool) → is_some (place_from (i + 1) ops name) ≡ is_some (place_from (j + 1) ops name)
        → is_some (cond b (Some i) (place_from (i + 1) ops name)) ≡ is_some (cond b (Some j) (place_from (j + 1) ops name))
    by true rest = refl
    by false rest = rest

pub listed_first : (op : List ℕ) (ops : List (List ℕ)) → is_listed (op ∷ ops) op ≡ true
listed_first op ops = ap is_some (place_is (op ∷ ops) op) ∙ ap (λ b. is_some (cond b (Some 0) (place_from 1 ops op))) (same_name op)

pub listed_behind : (op : List ℕ) (ops : List (List ℕ)) (name : List ℕ) → is_listed ops name ≡ true → is_listed (op ∷ ops) name ≡ true
listed_behind op ops name h = ap is_some (place_is (op ∷ ops) name) ∙ by (pointwise nat_eq name op)
  where
    by : (b : Bool) → is_some (cond b (Some 0) (place_from 1 ops name)) ≡ true
    by true = refl
    by false = found_anywhere ops 1 0 name ∙ ap is_some (sym (place_is ops name)) ∙ h
