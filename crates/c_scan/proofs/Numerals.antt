-- The numbers that digits spell.
use Rattle.std.proofs.Common.{◌≡◌, ℕ, ◌+◌, ◌-◌, ◌*◌, ◌<◌, ◌≤◌, ◌^◌, Bool, true, false, cond, zero, suc, List, [], ◌∷◌, length, take, drop, get_or, Option, Some, None, refl, sym, ap, ◌∙◌, subst, arith, ◌⊎◌, inl, inr}
use Rattle.std.specs.Prelude.{nat_lt}
use Rattle.std.specs.Fmt.{decimal}
use Rattle.std.specs.Int.{IsInRange}
use Rattle.std.specs.Str.{all_ascii_digits, bytes_eq}
use Rattle.std.specs.Str.Parse.{digits_value}
use Rattle.std.proofs.lemmas.Bool.{cases_Bool, le-ltb, lt-ltb, ltb-true, true≢false, false_from_ne_true}
use Rattle.std.proofs.lemmas.Fmt.{digits_decimal}
use Rattle.std.proofs.lemmas.List.{take_all}
use Rattle.std.proofs.lemmas.Slice.Eq.{bytes_eq-Decides}
use Rattle.std.proofs.lemmas.Str.{digit_value_digit}
use Rattle.std.proofs.lemmas.Str.Parse.{digit_at, digits_value-take-le, IsNumeralModel, numerals_by_value, tells_all_ascii_digits}
use Rattle.std.proofs.lemmas.Int.Digits.{digits_value_more}
use Rattle.c_text.specs.Words.{hex}
use Rattle.c_scan.specs.Names.{hex_address, decimal_number, when_below, hex_digit_value, hex_number}

own : IsNumeralModel (λ digits. all_ascii_digits digits ≡ true) (digits_value 10)
own = numerals_by_value _ tells_all_ascii_digits

pub fits : (bound n : ℕ) → n < bound → Some n ≡ when_below bound n
fits bound n l = ap (λ t. cond t (Some n) None) (sym (lt-ltb n bound l))

pub exceeds : (bound n : ℕ) → bound ≤ n → None ≡ when_below bound n
exceeds bound n l = ap (λ t. cond t (Some n) None) (sym (le-ltb n bound l))

module _ (digits : List ℕ) (i : ℕ) (h : all_ascii_digits digits ≡ true) (l : i < length digits) where
  pub digit_bounds : IsInRange 48 57 (get_or digits i 0)
  digit_bounds = digit_at digits i (own.to digits h) l

  pub value_grows : digits_value 10 (take (i + 1) digits) ≡ digits_value 10 (take i digits) * 10 + (get_or digits i 0 - 48)
  value_grows = digits_value_more 10 digits i l ∙ ap (λ d. digits_value 10 (take i digits) * 10 + d) (omega (arith, digit_value_digit (get_or digits i 0) digit_bounds))

  -- a front that is too large makes the whole too large
  pub value_exceeds : 2 ^ 64 ≤ digits_value 10 (take i digits) * 10 + (get_or digits i 0 - 48) → None ≡ when_below (2 ^ 64) (digits_value 10 digits)
  value_exceeds big = exceeds (2 ^ 64) (digits_value 10 digits) (omega (arith, big, value_grows, digits_value-take-le 10 digits (i + 1) (omega arith)))

pub value_is : (digits : List ℕ) (i v : ℕ) → length digits ≤ i → v ≡ digits_value 10 (take i digits) → v < 2 ^ 64 → Some v ≡ when_below (2 ^ 64) (digits_value 10 digits)
value_is digits i v l e small =
    let all : v ≡ digits_value 10 digits = e ∙ ap (digits_value 10) (take_all i digits l) in
    ap Some all ∙ fits (2 ^ 64) (digits_value 10 digits) (omega arith)

-- ---- numbers in names

other_bytes : (a b : List ℕ) → (a ≡ b → ⊥) → bytes_eq a b ≡ false
other_bytes a b n = false_from_ne_true (bytes_eq a b) (λ e. n ((bytes_eq-Decides a b).0 e))

none_either : (t : Bool) → ◌≡◌ {A = Option ℕ} None (cond t None None)
none_either true = refl
none_either false = refl

some_none : (n : ℕ) → ◌≡◌ {A = Option ℕ} None (Some n) → ⊥
some_none n e = cc

-- bytes that are not all digits spell no number
pub no_digits : (digits : List ℕ) → all_ascii_digits digits ≡ false → None ≡ decimal_number (2 ^ 64) digits
no_digits digits h = by (cases_Bool (nat_lt (digits_value 10 digits) (2 ^ 64)))
  where
    by : (nat_lt (digits_value 10 digits) (2 ^ 64) ≡ true) ⊎ (nat_lt (digits_value 10 digits) (2 ^ 64) ≡ false) → None ≡ decimal_number (2 ^ 64) digits
    by (inl e) =
        let other = other_bytes (decimal (digits_value 10 digits)) digits (λ q. true≢false (sym (subst (λ w. all_ascii_digits w ≡ true) q (digits_decimal own (digits_value 10 digits) (ltb-true (digits_value 10 digits) (2 ^ 64) e))) ∙ h)) in
        rw other refl
    by (inr e) = rw e (none_either (bytes_eq (decimal (digits_value 10 digits)) digits))

pub too_long : (digits : List ℕ) → None ≡ when_below (2 ^ 64) (digits_value 10 digits) → None ≡ decimal_number (2 ^ 64) digits
too_long digits e = by (bytes_eq (decimal (digits_value 10 digits)) digits)
  where
    by : (t : Bool) → None ≡ cond t (when_below (2 ^ 64) (digits_value 10 digits)) None
    by true = e
    by false = refl

pub other_digits : (v : ℕ) (digits : List ℕ) → Some v ≡ when_below (2 ^ 64) (digits_value 10 digits) → bytes_eq (decimal v) digits ≡ false → None ≡ decimal_number (2 ^ 64) digits
other_digits v digits e h = let same = fitted (2 ^ 64) v (digits_value 10 digits) e in rw (subst (λ n. bytes_eq (decimal n) digits ≡ false) same h) refl
  where
    fitted : (bound v n : ℕ) → Some v ≡ when_below bound n → v ≡ n
    fitted bound v n e = by (nat_lt n bound) e
      where
        by : (t : Bool) → Some v ≡ cond t (Some n) None → v ≡ n
        by true e = cc
        by false e = cc

pub own_digits : (v : ℕ) (digits : List ℕ) → Some v ≡ when_below (2 ^ 64) (digits_value 10 digits) → bytes_eq (decimal v) digits ≡ true → Some v ≡ decimal_number (2 ^ 64) digits
own_digits v digits e h = by (nat_lt (digits_value 10 digits) (2 ^ 64)) e
  where
    by : (t : Bool) → Some v ≡ cond t (Some (digits_value 10 digits)) None → Some v ≡ cond (bytes_eq (decimal (digits_value 10 digits)) digits) (cond t (Some (digits_value 10 digits)) None) None
    by true e = let same : v ≡ digits_value 10 digits = cc in e ∙ rw (subst (λ n. bytes_eq (decimal n) digits ≡ true) same h) refl
    by false e = absurd cc

-- a smaller bound
pub below_bound : (bound : ℕ) (v : ℕ) (digits : List ℕ) → bound ≤ 2 ^ 64 → Some v ≡ decimal_number (2 ^ 64) digits → when_below bound v ≡ decimal_number bound digits
below_bound bound v digits l e = by (bytes_eq (decimal (digits_value 10 digits)) digits) (nat_lt (digits_value 10 digits) (2 ^ 64)) e
  where
    by : (s t : Bool) → Some v ≡ cond s (cond t (Some (digits_value 10 digits)) None) None → when_below bound v ≡ cond s (when_below bound (digits_value 10 digits)) None
    by true true e = let same : v ≡ digits_value 10 digits = cc in ap (when_below bound) same
    by true false e = absurd cc
    by false t e = absurd cc

pub above_bound : (bound : ℕ) (digits : List ℕ) → bound ≤ 2 ^ 64 → None ≡ decimal_number (2 ^ 64) digits → None ≡ decimal_number bound digits
above_bound bound digits l e = by (bytes_eq (decimal (digits_value 10 digits)) digits) (cases_Bool (nat_lt (digits_value 10 digits) (2 ^ 64))) e
  where
    by : (s : Bool) → (nat_lt (digits_value 10 digits) (2 ^ 64) ≡ true) ⊎ (nat_lt (digits_value 10 digits) (2 ^ 64) ≡ false) → None ≡ cond s (when_below (2 ^ 64) (digits_value 10 digits)) None → None ≡ cond s (when_below bound (digits_value 10 digits)) None
    by false t e = refl
    by true (inl t) e = absurd (some_none (digits_value 10 digits) (rw t at e))
    by true (inr t) e = exceeds bound (digits_value 10 digits) (omega (arith, not_below (digits_value 10 digits) (2 ^ 64) t))
      where
        not_below : (n m : ℕ) → nat_lt n m ≡ false → m ≤ n
        not_below n m e = grind arith

-- ---- addresses

pub hex_more : (n : ℕ) (digits : List ℕ) (i : ℕ) → i < length digits → hex_number n (take (i + 1) digits) ≡ hex_number n (take i digits) * 16 + hex_digit_value (get_or digits i 0)
hex_more n [] i l = absurd (omega arith)
hex_more n (b ∷ digits) zero l = refl
hex_more n (b ∷ digits) (suc i) l = let one : suc i + 1 ≡ suc (i + 1) = omega arith in rw one (hex_more (n * 16 + hex_digit_value b) digits i (omega arith))

grows : (n : ℕ) (digits : List ℕ) → n ≤ hex_number n digits
grows n [] = omega arith
grows n (b ∷ digits) = omega (arith, grows (n * 16 + hex_digit_value b) digits)

hex_split : (n : ℕ) (digits : List ℕ) (i : ℕ) → hex_number n digits ≡ hex_number (hex_number n (take i digits)) (drop i digits)
hex_split n digits zero = refl
hex_split n [] (suc i) = refl
hex_split n (b ∷ digits) (suc i) = hex_split (n * 16 + hex_digit_value b) digits i

pub hex_large : (digits : List ℕ) (i v : ℕ) → v ≡ hex_number 0 (take i digits) → 2 ^ 32 ≤ v → None ≡ when_below (2 ^ 32) (hex_number 0 digits)
hex_large digits i v e l = exceeds (2 ^ 32) (hex_number 0 digits) (omega (arith, e, hex_split 0 digits i, grows (hex_number 0 (take i digits)) (drop i digits)))

pub hex_all : (digits : List ℕ) (i v : ℕ) → length digits ≤ i → v ≡ hex_number 0 (take i digits) → v < 2 ^ 32 → Some v ≡ when_below (2 ^ 32) (hex_number 0 digits)
hex_all digits i v l e small =
    let all : v ≡ hex_number 0 digits = e ∙ ap (hex_number 0) (take_all i digits l) in
    ap Some all ∙ fits (2 ^ 32) (hex_number 0 digits) (omega arith)

pub no_address : (digits : List ℕ) → None ≡ when_below (2 ^ 32) (hex_number 0 digits) → None ≡ hex_address digits
no_address digits e = by (bytes_eq (hex (hex_number 0 digits)) digits)
  where
    by : (t : Bool) → None ≡ cond t (when_below (2 ^ 32) (hex_number 0 digits)) None
    by true = e
    by false = refl

pub other_address : (v : ℕ) (digits : List ℕ) → Some v ≡ when_below (2 ^ 32) (hex_number 0 digits) → bytes_eq (hex v) digits ≡ false → None ≡ hex_address digits
other_address v digits e h = by (nat_lt (hex_number 0 digits) (2 ^ 32)) e
  where
    by : (t : Bool) → Some v ≡ cond t (Some (hex_number 0 digits)) None → None ≡ cond (bytes_eq (hex (hex_number 0 digits)) digits) (cond t (Some (hex_number 0 digits)) None) None
    by true e = let same : v ≡ hex_number 0 digits = cc in rw (subst (λ n. bytes_eq (hex n) digits ≡ false) same h) refl
    by false e = absurd cc

pub own_address : (v : ℕ) (digits : List ℕ) → Some v ≡ when_below (2 ^ 32) (hex_number 0 digits) → bytes_eq (hex v) digits ≡ true → Some v ≡ hex_address digits
own_address v digits e h = by (nat_lt (hex_number 0 digits) (2 ^ 32)) e
  where
    by : (t : Bool) → Some v ≡ cond t (Some (hex_number 0 digits)) None → Some v ≡ cond (bytes_eq (hex (hex_number 0 digits)) digits) (cond t (Some (hex_number 0 digits)) None) None
    by true e = let same : v ≡ hex_number 0 digits = cc in e ∙ rw (subst (λ n. bytes_eq (hex n) digits ≡ true) same h) refl
    by false e = absurd cc
