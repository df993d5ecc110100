-- Which token the bytes of a word are.
use Rattle.std.proofs.Common.{◌≡◌, ℕ, ◌+◌, ◌/◌, ◌%◌, ◌<◌, ◌^◌, Bool, true, false, zero, suc, cond, List, [], ◌∷◌, ◌++◌, length, map, take, drop, Some, refl, sym, ap, ◌∙◌, subst, arith, ⊎_elim, mod-lt}
use Rattle.std.specs.Prelude.{codes, ◌==◌}
use Rattle.std.specs.Char.{is_ascii_digit, digit_value}
use Rattle.std.specs.Fmt.{decimal, digits, digits_onto, digit_glyph}
use Rattle.std.specs.Int.Digits.{digits_of, number_from_digits, AllBelowBase}
use Rattle.std.specs.List.{list_all, list_any}
use Rattle.std.specs.Str.{bytes_eq, all_ascii_digits}
use Rattle.std.specs.Str.Parse.{digits_value}
use Rattle.std.proofs.lemmas.Bool.{and_parts, or_cases}
use Rattle.std.proofs.lemmas.Fmt.{digits_decimal, digits_value-decimal, decimal_nonempty}
use Rattle.std.proofs.lemmas.Int.Digits.{number_digits_of, all_below_base_digits_of, digits_value_is}
use Rattle.std.proofs.lemmas.List.{append-nil, take_at, drop_at}
use Rattle.std.proofs.lemmas.Slice.Eq.{bytes_eq-Decides}
use Rattle.std.proofs.lemmas.Str.Parse.{IsNumeralModel, numerals_by_value, tells_all_ascii_digits}
use Rattle.c_text.specs.Tokens.{name, plain, long, sign, is_letter, is_word, is_sign, signs, number_of, digit_count, word_token}
use Rattle.c_text.specs.Atoms.{is_name}
use Rattle.rtl_core.specs.declared.point.Point.{Point}
use Rattle.rtl_core.specs.declared.point.Slot.{Slot}
use Rattle.rtl_core.specs.declared.point.Slot.TheVariants.{Seq, To, Dyn, CallTo, CallDyn, Ret}
use Rattle.c_text.specs.Words.{hex_digits, hex, slot_word, label_word}

pub name_token : (w : List ℕ) → is_name w ≡ true → word_token w ≡ Some (name w)
unfolding word_token
name_token [] h = cc
name_token (b ∷ bs) h = let parts = and_parts (is_letter b) (list_all is_word bs) h in rw (parts.0, parts.1) refl

abbrev Each : (List ℕ → Type 0) → List (List ℕ) → Type 0
Each P [] = Unit {0}
Each P (x ∷ xs) = P x × Each P xs

-- each sign is the token that it is
own_tokens : Each (λ s. word_token s ≡ Some (sign s)) signs
unfolding word_token
own_tokens = (refl, (refl, (refl, (refl, (refl, (refl, (refl, (refl, (refl, (refl, (refl, (refl, (refl, (refl, (refl, (refl, (refl, (refl, (refl, (refl, (refl, (refl, (refl, (refl, (refl, tt)))))))))))))))))))))))))

found_token : (w : List ℕ) (ss : List (List ℕ)) → Each (λ s. word_token s ≡ Some (sign s)) ss → list_any (λ s. bytes_eq s w) ss ≡ true → word_token w ≡ Some (sign w)
found_token w [] each h = cc
found_token w (s ∷ ss) each h =
    ⊎_elim
    (λ e. subst (λ v. word_token v ≡ Some (sign v)) ((bytes_eq-Decides s w).0 e) each.0)
    (λ e. found_token w ss each.1 e)
    (or_cases (bytes_eq s w) (list_any (λ s. bytes_eq s w) ss) h)

pub sign_token : (w : List ℕ) → is_sign w ≡ true → word_token w ≡ Some (sign w)
sign_token w h = found_token w signs own_tokens h

digit_no_letter : (c : ℕ) → is_ascii_digit c ≡ true → is_letter c ≡ false
digit_no_letter c h = grind arith

digits_at : (ds behind : List ℕ) → all_ascii_digits ds ≡ true → digit_count behind ≡ 0 → digit_count (ds ++ behind) ≡ length ds
digits_at [] behind h e = e
digits_at (d ∷ ds) behind h e = let parts = and_parts (is_ascii_digit d) (all_ascii_digits ds) h in rw parts.0 (let r = digits_at ds behind parts.1 e in omega (arith, r))

-- digits and what is no digit behind them
number_token : (ds behind : List ℕ) → all_ascii_digits ds ≡ true → 0 < length ds → digit_count behind ≡ 0 → word_token (ds ++ behind) ≡ number_of ds behind
unfolding word_token
number_token [] behind h l e = absurd (omega arith)
number_token (d ∷ ds) behind h l e =
    let parts = and_parts (is_ascii_digit d) (all_ascii_digits ds) h in
    let count = rw parts.0 at (digits_at (d ∷ ds) behind h e) in
    let cut : (k : ℕ) → k ≡ length (d ∷ ds) → number_of (take k (d ∷ ds ++ behind)) (drop k (d ∷ ds ++ behind)) ≡ number_of (d ∷ ds) behind = λ k q. (λ i. number_of (take_at (d ∷ ds) behind k (sym q) i) (drop_at (d ∷ ds) behind k (sym q) i)) in
    rw (digit_no_letter d parts.0, parts.0) (cut _ count)

-- digits, as a plain number and as a long one
pub plain_digits : (ds : List ℕ) → all_ascii_digits ds ≡ true → 0 < length ds → word_token ds ≡ Some (plain (digits_value 10 ds))
plain_digits ds h l = ap word_token (sym (append-nil ds)) ∙ number_token ds [] h l refl

pub long_digits : (ds : List ℕ) → all_ascii_digits ds ≡ true → 0 < length ds → word_token (ds ++ codes "ull") ≡ Some (long (digits_value 10 ds))
long_digits ds h l = number_token ds (codes "ull") h l refl

own : IsNumeralModel (λ ds. all_ascii_digits ds ≡ true) (digits_value 10)
own = numerals_by_value _ tells_all_ascii_digits

pub plain_token : (n : ℕ) → n < 2 ^ 64 → word_token (decimal n) ≡ Some (plain n)
plain_token n h = plain_digits (decimal n) (digits_decimal own n h) (decimal_nonempty n h) ∙ ap (λ v. Some (plain v)) (digits_value-decimal own n h)

pub long_token : (n : ℕ) → n < 2 ^ 64 → word_token (decimal n ++ codes "ull") ≡ Some (long n)
long_token n h = long_digits (decimal n) (digits_decimal own n h) (decimal_nonempty n h) ∙ ap (λ v. Some (long v)) (digits_value-decimal own n h)

-- digits of a number, however large
abbrev pub any_digits : ℕ → List ℕ
any_digits n = 48 ∷ map (λ d. 48 + d) (digits_of 10 n)

shifted_digit : (d : ℕ) → d < 10 → is_ascii_digit (48 + d) ≡ true
shifted_digit d l = grind arith

shifted_value : (d : ℕ) → d < 10 → digit_value (48 + d) ≡ d
shifted_value d l = grind arith

shifted_digits : (ds : List ℕ) → AllBelowBase 10 ds → (all_ascii_digits (map (λ d. 48 + d) ds) ≡ true) × (map digit_value (map (λ d. 48 + d) ds) ≡ ds)
shifted_digits [] a = (refl, refl)
shifted_digits (d ∷ ds) a =
    let behind = shifted_digits ds a.1 in
    (rw (shifted_digit d a.0) behind.0, rw (shifted_value d a.0) (ap (λ xs. d ∷ xs) behind.1))

any_value : (n : ℕ) → digits_value 10 (any_digits n) ≡ n
any_value n = digits_value_is 10 (any_digits n) ∙ ap (λ ds. number_from_digits 10 (0 ∷ ds)) (shifted_digits (digits_of 10 n) (all_below_base_digits_of 10 n (omega arith))).1 ∙ number_digits_of 10 n (omega arith)

pub any_plain : (n : ℕ) → word_token (any_digits n) ≡ Some (plain n)
any_plain n = plain_digits (any_digits n) (shifted_digits (digits_of 10 n) (all_below_base_digits_of 10 n (omega arith))).0 (omega arith) ∙ ap (λ v. Some (plain v)) (any_value n)

pub any_long : (n : ℕ) → word_token (any_digits n ++ codes "ull") ≡ Some (long n)
any_long n = long_digits (any_digits n) (shifted_digits (digits_of 10 n) (all_below_base_digits_of 10 n (omega arith))).0 (omega arith) ∙ ap (λ v. Some (long v)) (any_value n)

-- the bytes of names
words_both : (v w : List ℕ) → list_all is_word v ≡ true → list_all is_word w ≡ true → list_all is_word (v ++ w) ≡ true
words_both [] w h k = k
words_both (x ∷ v) w h k = let parts = and_parts (is_word x) (list_all is_word v) h in rw parts.0 (words_both v w parts.1 k)

decimal_glyph : (d : ℕ) → d < 10 → is_word (digit_glyph false d) ≡ true
decimal_glyph d l = grind arith

hex_glyph : (d : ℕ) → d < 16 → is_word (digit_glyph true d) ≡ true
hex_glyph d l = grind arith

digits_words : (k n : ℕ) (behind : List ℕ) → list_all is_word behind ≡ true → list_all is_word (digits_onto k 10 false n behind) ≡ true
digits_words zero n behind h = h
digits_words (suc k) n behind h =
    let one : list_all is_word (digit_glyph false (n % 10) ∷ behind) ≡ true = rw (decimal_glyph (n % 10) (mod-lt n (omega arith))) h in
    by (n / 10 == 0) _ _ one (digits_words k (n / 10) _ one)
  where
    by : (t : Bool) (v w : List ℕ) → list_all is_word v ≡ true → list_all is_word w ≡ true → list_all is_word (cond t v w) ≡ true
    by true v w a b = a
    by false v w a b = b

pub decimal_words : (n : ℕ) → list_all is_word (decimal n) ≡ true
unfolding digits
decimal_words n = digits_words 64 n [] refl

hex_digits_words : (k n : ℕ) → list_all is_word (hex_digits k n) ≡ true
hex_digits_words zero n = refl
hex_digits_words (suc k) n = words_both (hex_digits k (n / 16)) (digit_glyph true (n % 16) ∷ []) (hex_digits_words k (n / 16)) (rw (hex_glyph (n % 16) (mod-lt n (omega arith))) refl)

pub hex_words : (n : ℕ) → list_all is_word (hex n) ≡ true
unfolding hex
hex_words n = hex_digits_words 8 n

-- a name with more behind it
pub name_both : (v w : List ℕ) → is_name v ≡ true → list_all is_word w ≡ true → is_name (v ++ w) ≡ true
name_both [] w h k = cc
name_both (b ∷ v) w h k = let parts = and_parts (is_letter b) (list_all is_word v) h in rw parts.0 (words_both v w parts.1 k)

pub joined_token : (v w : List ℕ) → is_name v ≡ true → list_all is_word w ≡ true → word_token (v ++ w) ≡ Some (name (v ++ w))
joined_token v w h k = name_token (v ++ w) (name_both v w h k)

slot_words : (s : Slot) → list_all is_word (slot_word s) ≡ true
slot_words Seq = refl
slot_words (To target) = hex_words target
slot_words (Dyn from) = hex_words from
slot_words (CallTo target back) = words_both (codes "_C_" ++ hex target) (codes "_" ++ hex back) (hex_words target) (hex_words back)
slot_words (CallDyn back) = hex_words back
slot_words Ret = refl

pub label_words : (p : Point) → list_all is_word (hex p.pc ++ slot_word p.slot) ≡ true
label_words p = words_both (hex p.pc) (slot_word p.slot) (hex_words p.pc) (slot_words p.slot)

pub label_token : (p : Point) → word_token (label_word p) ≡ Some (name (label_word p))
label_token p = name_token (label_word p) (label_words p)
