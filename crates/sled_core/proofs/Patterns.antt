-- Whole patterns: the alternatives of a named pattern, and those of a constructor.
use Rattle.std.proofs.Common.{◌≡◌, ℕ, zero, suc, ◌+◌, ◌<◌, ◌≤◌, ◌==◌, ◌&&◌, ◌||◌, not, cond, Bool, true, false, List, [], ◌∷◌, ◌++◌, Option, Some, None, length, get_or, fold, ap, refl, sym, subst, ◌∙◌, arith, nat_eq, ltb}
use Rattle.std.specs.Prelude.{All, IfSome, count_by, nat_lt}
use Rattle.std.specs.List.{list_all, list_any, flat_map}
use Rattle.std.proofs.lemmas.List.Elements.{All-nil, All-cons, All-head, All-tail, All-append, All-weaker}
use Rattle.std.proofs.lemmas.List.{length-append}
use Rattle.std.proofs.lemmas.List.Folds.{list_any_at}
use Rattle.std.proofs.lemmas.Bool.Decides.{nat_tests}
use Rattle.line_reading.specs.Spelling.{is_empty}
use Rattle.rtl_core.specs.declared.encodings.OperandKind.{OperandKind}
use Rattle.rtl_core.specs.declared.encodings.Item.{Item}
use Rattle.rtl_core.specs.SoundEncodings.{IsSoundAlternative, IsSoundItem, items_bind}
use Rattle.sled_syntax.specs.declared.line.SledItem.{SledItem}
use Rattle.sled_syntax.specs.declared.line.SledPattern.{SledPattern}
use Rattle.sled_syntax.specs.Lines.{is_item, is_pattern, is_sequence}
use Rattle.sled_rules.specs.declared.facts.Facts.{Facts}
use Rattle.sled_rules.specs.declared.meaning.Token.{Token}
use Rattle.sled_rules.specs.declared.meaning.Start.{Start}
use Rattle.sled_rules.specs.declared.meaning.Start.TheVariants.{Nothing, One, Several}
use Rattle.sled_rules.specs.Meanings.{Table, named}
use Rattle.sled_rules.specs.Operands.{kinds_of, operand_of, sequence_binds, times}
use Rattle.sled_rules.specs.Starts.{join, pattern_start, sequence_start}
use Rattle.sled_rules.specs.Alternatives.{alternatives, sequence_choices}
use Rattle.sled_rules.specs.Sizes.{bytes_of, is_large, is_long}
use Rattle.sled_rules.specs.Faults.{are_known_operands, is_known_item, is_known_pattern, is_mixed, is_over_part, lacks, repeats, some_bound_twice, some_listed_twice, some_mixed, some_over, some_unbound}
use Rattle.sled_rules.proofs.TakenLaws.{or_false}
use Rattle.sled_core.proofs.Full.{Full, full_append, full_weaker}
use Rattle.sled_core.proofs.Rows.{IsPlainRow, IsRow, IsSoundMeaning, StartsWith, first_bits, plain_binds}
use Rattle.sled_core.proofs.Parts.{IsScene}
use Rattle.sled_core.proofs.Items.{and_both}
use Rattle.sled_core.proofs.Sequences.{IsFineItem, sequence_rows}
use Rattle.sled_core.proofs.OperandPlaces.{kinds_length, operand_at}

-- ---- the checks of a pattern, sequence by sequence

fine_items : (names : Table) (facts : List Facts) (ops : List (List ℕ)) (items : List SledItem) → list_all (is_known_item names ops) items ≡ true
    → list_any (λ it. list_any (is_over_part names) it.parts) items ≡ false → list_any (is_mixed names facts) items ≡ false → list_all is_item items ≡ true
    → All (IsFineItem names facts ops) items
fine_items names facts ops [] known over mixed some = All-nil (IsFineItem names facts ops)
fine_items names facts ops (it ∷ items) known over mixed some =
    let k = and_both (is_known_item names ops it) (list_all (is_known_item names ops) items) known in
    let o = or_false (list_any (is_over_part names) it.parts) (list_any (λ it. list_any (is_over_part names) it.parts) items) over in
    let m = or_false (is_mixed names facts it) (list_any (is_mixed names facts) items) mixed in
    let s = and_both (is_item it) (list_all is_item items) some in
    All-cons (IsFineItem names facts ops) it items (record { known = k.0; over = o.0; mixed = m.0; some = s.0 }) (fine_items names facts ops items k.1 o.1 m.1 s.1)

pub record IsFineSequence (names : Table) (facts : List Facts) (ops : List (List ℕ)) (items : List SledItem) : Type 0 where
  pub some : 0 < length items
  pub each : All (IsFineItem names facts ops) items

not_empty : {X : Type 0} (xs : List X) → not (is_empty xs) ≡ true → 0 < length xs
not_empty [] h = cc
not_empty (x ∷ xs) h = omega arith

fine_sequences : (names : Table) (facts : List Facts) (ops : List (List ℕ)) (rows : List (List SledItem)) → list_all (list_all (is_known_item names ops)) rows ≡ true
    → list_any (list_any (λ it. list_any (is_over_part names) it.parts)) rows ≡ false → list_any (list_any (is_mixed names facts)) rows ≡ false → list_all is_sequence rows ≡ true
    → All (IsFineSequence names facts ops) rows
fine_sequences names facts ops [] known over mixed some = All-nil (IsFineSequence names facts ops)
fine_sequences names facts ops (items ∷ rows) known over mixed some =
    let k = and_both (list_all (is_known_item names ops) items) (list_all (list_all (is_known_item names ops)) rows) known in
    let o = or_false (list_any (λ it. list_any (is_over_part names) it.parts) items) (list_any (list_any (λ it. list_any (is_over_part names) it.parts)) rows) over in
    let m = or_false (list_any (is_mixed names facts) items) (list_any (list_any (is_mixed names facts)) rows) mixed in
    let s = and_both (is_sequence items) (list_all is_sequence rows) some in
    let f = and_both (not (is_empty items)) (list_all is_item items) s.0 in
    All-cons (IsFineSequence names facts ops) items rows (record { some = not_empty items f.0; each = fine_items names facts ops items k.0 o.0 m.0 f.1 })
    (fine_sequences names facts ops rows k.1 o.1 m.1 s.1)

-- a pattern whose parts are known, in range and over one token
pub record IsFinePattern (names : Table) (facts : List Facts) (ops : List (List ℕ)) (p : SledPattern) : Type 0 where
  pub some : 0 < length p.alternatives
  pub each : All (IsFineSequence names facts ops) p.alternatives

pub fine_pattern : (names : Table) (facts : List Facts) (ops : List (List ℕ)) (p : SledPattern) → is_known_pattern names ops p ≡ true → some_over names p ≡ false → some_mixed names facts p ≡ false
    → is_pattern p ≡ true → IsFinePattern names facts ops p
fine_pattern names facts ops p known over mixed formed =
    let two = and_both (not (is_empty p.alternatives)) (list_all is_sequence p.alternatives) formed in
    record { some = not_empty p.alternatives two.0; each = fine_sequences names facts ops p.alternatives known over mixed two.1 }

-- ---- a named pattern

join_keeps : (s u : Start) (bits : ℕ) → StartsWith s bits → StartsWith (join s u) bits
join_keeps Nothing u bits h = absurd h
join_keeps (One t) Nothing bits h = h
join_keeps (One t) Several bits h = tt
join_keeps Several u bits h = tt
join_keeps (One t) (One u) bits h = by ((t.place == u.place) && (t.bits == u.bits))
  where
    by : (b : Bool) → StartsWith (cond b (One t) Several) bits
    by true = h
    by false = tt

join_takes : (s u : Start) (bits : ℕ) → StartsWith u bits → StartsWith (join s u) bits
join_takes Nothing u bits h = h
join_takes (One t) Nothing bits h = absurd h
join_takes (One t) Several bits h = tt
join_takes Several u bits h = tt
join_takes (One t) (One u) bits h = by ((t.place == u.place) && (t.bits == u.bits)) refl
  where
    by : (b : Bool) → ((t.place == u.place) && (t.bits == u.bits)) ≡ b → StartsWith (cond b (One t) Several) bits
    by true e = let same : t.bits ≡ u.bits = grind (arith, nat_tests, and_both (t.place == u.place) (t.bits == u.bits) e) in same ∙ h
    by false e = tt

abbrev rows_start : Table → List Facts → Start → List (List SledItem) → Start
rows_start names facts s rows = fold (λ s items. join s (sequence_start names facts items)) s rows

start_stays : (names : Table) (facts : List Facts) (rows : List (List SledItem)) (s : Start) (bits : ℕ) → StartsWith s bits → StartsWith (rows_start names facts s rows) bits
start_stays names facts [] s bits h = h
start_stays names facts (items ∷ rows) s bits h = start_stays names facts rows (join s (sequence_start names facts items)) bits (join_keeps s (sequence_start names facts items) bits h)

-- there are no operands
abbrev NoNames : Type 0
NoNames = ◌≡◌ {A = List (List ℕ)} [] []

-- without operands a row binds nothing
plain_row : (s u : Start) (bs : List ℕ) (items : List Item) → ((bits : ℕ) → StartsWith s bits → StartsWith u bits) → IsRow NoNames [] s bs items → IsPlainRow u items
plain_row s u bs items h r = record {
  some = r.some;
  each = r.each;
  bound = plain_binds items r.each;
  starts = λ one. h (first_bits items) (r.starts refl);
}

plain_rows : (names : Table) (facts : List Facts) (rows : List (List SledItem)) (s : Start) → IsScene names [] [] → All (IsFineSequence names facts []) rows
    → All (IsPlainRow (rows_start names facts s rows)) (flat_map (sequence_choices names []) rows)
plain_rows names facts [] s scene fine = All-nil (IsPlainRow s)
plain_rows names facts (items ∷ rows) s scene fine =
    let one = All-head (IsFineSequence names facts []) items rows fine in
    let u : Start = sequence_start names facts items in
    let all : Start = rows_start names facts (join s u) rows in
    let here = sequence_rows names facts [] [] items one.some scene one.each in
    All-append (IsPlainRow all) (sequence_choices names [] items) (flat_map (sequence_choices names []) rows)
    (All-weaker (IsRow NoNames [] u (sequence_binds names [] items)) (IsPlainRow all)
    (plain_row_of u all (sequence_binds names [] items) (λ bits h. start_stays names facts rows (join s u) bits (join_takes s u bits h)))
    (sequence_choices names [] items) here.each)
    (plain_rows names facts rows (join s u) scene (All-tail (IsFineSequence names facts []) items rows fine))
  where
    plain_row_of : (s u : Start) (bs : List ℕ) → ((bits : ℕ) → StartsWith s bits → StartsWith u bits) → (xs : List Item) → IsRow NoNames [] s bs xs → IsPlainRow u xs
    plain_row_of s u bs h xs r = plain_row s u bs xs h r

some_rows : (names : Table) (facts : List Facts) (ops : List (List ℕ)) (kinds : List OperandKind) (rows : List (List SledItem)) → 0 < length rows → IsScene names ops kinds
    → All (IsFineSequence names facts ops) rows → 0 < length (flat_map (sequence_choices names ops) rows)
some_rows names facts ops kinds [] some scene fine = absurd (omega (arith, some))
some_rows names facts ops kinds (items ∷ rows) some scene fine =
    let one = All-head (IsFineSequence names facts ops) items rows fine in
    let here = sequence_rows names facts ops kinds items one.some scene one.each in
    omega (arith, length-append (sequence_choices names ops items) (flat_map (sequence_choices names ops) rows), here.some)

-- its alternatives
pub sound_pattern : (names : Table) (facts : List Facts) (p : SledPattern) → IsScene names [] [] → IsFinePattern names facts [] p
    → Full (IsPlainRow (pattern_start names facts p)) (alternatives names [] p)
sound_pattern names facts p scene fine = record {
  some = some_rows names facts [] [] p.alternatives fine.some scene fine.each;
  each = plain_rows names facts p.alternatives Nothing scene fine.each;
}

-- ---- a constructor

-- each operand is bound once
pub record IsBound (kinds : List OperandKind) (items : List Item) : Type 0 where
  pub some : 0 < length items
  pub each : All (IsSoundItem kinds) items
  pub one : (k : ℕ) → k < length kinds → count_by (λ j. j == k) (items_bind items) ≡ 1

-- each operand has its number, and a sequence binds it neither never nor twice
record BindsOnce (names : Table) (ops : List (List ℕ)) (items : List SledItem) : Type 0 where
  least : lacks names ops items ≡ false
  most : repeats names ops items ≡ false

passes_none : {X : Type 0} (p : X → Bool) (xs : List X) (k : ℕ) (d : X) → list_any p xs ≡ false → k < length xs → p (get_or xs k d) ≡ false
passes_none p xs k d h lt = by (p (get_or xs k d)) refl
  where
    by : (b : Bool) → p (get_or xs k d) ≡ b → p (get_or xs k d) ≡ false
    by false e = e
    by true e = let yes_ : list_any p xs ≡ true = list_any_at p xs k d lt e in cc (yes_, h)

exactly_one : (n : ℕ) → (n == 0) ≡ false → ltb 1 n ≡ false → n ≡ 1
exactly_one n a b = grind (arith, nat_tests)

bound_once : (names : Table) (ops : List (List ℕ)) (items : List SledItem) (k : ℕ) → BindsOnce names ops items → some_listed_twice ops ≡ false → k < length ops
    → count_by (λ j. j == k) (sequence_binds names ops items) ≡ 1
bound_once names ops items k binds once h =
    let op : List ℕ = get_or ops k [] in
    let a : (times names ops items op == 0) ≡ false = passes_none (λ op. times names ops items op == 0) ops k [] binds.least h in
    let b : ltb 1 (times names ops items op) ≡ false = passes_none (λ op. ltb 1 (times names ops items op)) ops k [] binds.most h in
    let n : times names ops items op ≡ 1 = exactly_one (times names ops items op) a b in
    subst (λ i. count_by (λ j. j == i) (sequence_binds names ops items) ≡ 1) (operand_at ops k [] once h) n

bound_rows : (names : Table) (facts : List Facts) (ops : List (List ℕ)) (rows : List (List SledItem)) → IsScene names ops (kinds_of names ops) → are_known_operands names ops ≡ true
    → some_listed_twice ops ≡ false → list_any (lacks names ops) rows ≡ false → list_any (repeats names ops) rows ≡ false → All (IsFineSequence names facts ops) rows
    → All (IsBound (kinds_of names ops)) (flat_map (sequence_choices names ops) rows)
bound_rows names facts ops [] scene known once least most fine = All-nil (IsBound (kinds_of names ops))
bound_rows names facts ops (items ∷ rows) scene known once least most fine =
    let kinds : List OperandKind = kinds_of names ops in
    let a = or_false (lacks names ops items) (list_any (lacks names ops) rows) least in
    let b = or_false (repeats names ops items) (list_any (repeats names ops) rows) most in
    let one = All-head (IsFineSequence names facts ops) items rows fine in
    let here = sequence_rows names facts ops kinds items one.some scene one.each in
    let binds : BindsOnce names ops items = record { least = a.0; most = b.0 } in
    All-append (IsBound kinds) (sequence_choices names ops items) (flat_map (sequence_choices names ops) rows)
    (All-weaker (IsRow (ops ≡ []) kinds (sequence_start names facts items) (sequence_binds names ops items)) (IsBound kinds) (bound_row binds) (sequence_choices names ops items) here.each)
    (bound_rows names facts ops rows scene known once a.1 b.1 (All-tail (IsFineSequence names facts ops) items rows fine))
  where
    bound_row : BindsOnce names ops items → (xs : List Item) → IsRow (ops ≡ []) (kinds_of names ops) (sequence_start names facts items) (sequence_binds names ops items) xs
        → IsBound (kinds_of names ops) xs
    bound_row binds xs r = record {
      some = r.some;
      each = r.each;
      one = λ k h.
          subst (λ bs. count_by (λ j. j == k) bs ≡ 1) (sym r.bound)
          (bound_once names ops items k binds once (subst (λ n. k < n) (kinds_length names ops known) h));
    }

-- its alternatives, where they are not too large
pub sound_alternatives : (names : Table) (facts : List Facts) (ops : List (List ℕ)) (p : SledPattern) → IsScene names ops (kinds_of names ops) → are_known_operands names ops ≡ true
    → some_listed_twice ops ≡ false → some_unbound names ops p ≡ false → some_bound_twice names ops p ≡ false → IsFinePattern names facts ops p
    → Full (IsBound (kinds_of names ops)) (alternatives names ops p)
sound_alternatives names facts ops p scene known once least most fine = record {
  some = some_rows names facts ops (kinds_of names ops) p.alternatives fine.some scene fine.each;
  each = bound_rows names facts ops p.alternatives scene known once least most fine.each;
}

-- ---- sizes

pub record IsShort (facts : List Facts) (items : List Item) : Type 0 where
  pub few : length items ≤ 16
  pub bytes : bytes_of facts items ≤ 32

pub at_most : (a b : ℕ) → ltb a b ≡ false → b ≤ a
at_most a b h = grind (arith, nat_tests)

pub all_short : (facts : List Facts) (rows : List (List Item)) → list_any (is_long facts) rows ≡ false → All (IsShort facts) rows
all_short facts [] h = All-nil (IsShort facts)
all_short facts (items ∷ rows) h =
    let two = or_false (is_long facts items) (list_any (is_long facts) rows) h in
    let both = or_false (ltb 16 (length items)) (ltb 32 (bytes_of facts items)) two.0 in
    All-cons (IsShort facts) items rows (record { few = at_most 16 (length items) both.0; bytes = at_most 32 (bytes_of facts items) both.1 }) (all_short facts rows two.1)

pub all_both : {X : Type 0} (P Q R : X → Type 0) (xs : List X) → ((x : X) → P x → Q x → R x) → All P xs → All Q xs → All R xs
all_both P Q R [] h p q = All-nil R
all_both P Q R (x ∷ xs) h p q = All-cons R x xs (h x (All-head P x xs p) (All-head Q x xs q)) (all_both P Q R xs h (All-tail P x xs p) (All-tail Q x xs q))

-- alternatives that are bound and short are sound
pub sound_rows : (kinds : List OperandKind) (facts : List Facts) (rows : List (List Item)) → All (IsBound kinds) rows → All (IsShort facts) rows → All (IsSoundAlternative kinds) rows
sound_rows kinds facts rows bound short =
    all_both (IsBound kinds) (IsShort facts) (IsSoundAlternative kinds) rows
    (λ items b s. record { some = b.some; few = s.few; each = b.each; one = b.one }) bound short
