-- Numbers of at most 20 digits.
use Rattle.std.proofs.Common.{◌≡◌, ℕ, Bool, zero, suc, ◌+◌, ◌*◌, ◌<◌, ◌≤◌, ◌^◌, true, List, [], ◌∷◌, length, take, get_or, arith, refl}
use Rattle.std.specs.Char.{is_digit, digit_value}
use Rattle.std.specs.List.{list_all}
use Rattle.std.specs.Str.Parse.{digits_value}
use Rattle.std.proofs.Math.Nat.{pow-suc, pow-le-pow_right}
use Rattle.std.proofs.lemmas.Str.{digit_value_digit}
use Rattle.std.proofs.lemmas.Str.Parse.{digit_from_value}
use Rattle.std.proofs.lemmas.Int.Digits.{digits_value_more}
use Rattle.std.proofs.lemmas.Bool.{and_parts, ltb-true}

-- a number of fewer than 20 digits
pub few_fit : (v i n : ℕ) → v < 10 ^ i → i < n → n ≤ 20 → v < 10000000000000000000
few_fit v i n fits below few =
    let ten : 0 < 10 = omega arith in
    let le : i ≤ 19 = omega (arith, below, few) in
    let most : 10 ^ i ≤ 10 ^ 19 = pow-le-pow_right ten le in
    let is : 10 ^ 19 ≡ 10000000000000000000 = refl in
    omega (arith, fits, most, is)

-- each byte passes
passes_at : (p : ℕ → Bool) (ds : List ℕ) (i : ℕ) → list_all p ds ≡ true → i < length ds → p (get_or ds i 0) ≡ true
passes_at p [] i h l = absurd (omega arith)
passes_at p (d ∷ ds) zero h l = (and_parts _ _ h).0
passes_at p (d ∷ ds) (suc i) h l = passes_at p ds i (and_parts _ _ h).1 (omega arith)

digit_fits : (radix : ℕ) (ds : List ℕ) (i : ℕ) → list_all (λ b. is_digit b radix) ds ≡ true → i < length ds → digit_value (get_or ds i 0) < radix
digit_fits radix ds i h l = ltb-true (digit_value (get_or ds i 0)) radix (passes_at (λ b. is_digit b radix) ds i h l)

module _ (ds : List ℕ) (i : ℕ) (all : list_all (λ b. is_digit b 10) ds ≡ true) (below : i < length ds) where
  -- a digit is its value and that of `0`
  pub digit_is : digit_value (get_or ds i 0) + 48 ≡ get_or ds i 0
  digit_is = digit_value_digit (get_or ds i 0) (digit_from_value (get_or ds i 0) (digit_fits 10 ds i all below))

  pub digit_small : digit_value (get_or ds i 0) < 10
  digit_small = digit_fits 10 ds i all below

  -- one digit more
  pub digit_more : (v d : ℕ) → v ≡ digits_value 10 (take i ds) → d + 48 ≡ get_or ds i 0 → v * 10 + d ≡ digits_value 10 (take (i + 1) ds)
  digit_more v d is digit = omega (arith, is, digit, digit_is, digits_value_more 10 ds i below)

  pub more_fits : (v d : ℕ) → v < 10 ^ i → d + 48 ≡ get_or ds i 0 → v * 10 + d < 10 ^ (i + 1)
  more_fits v d fits digit =
      let e : 10 ^ suc i ≡ 10 ^ i * 10 = pow-suc 10 i in
      let s : i + 1 ≡ suc i = omega arith in
      let more : v * 10 + d < 10 ^ i * 10 = omega (arith, fits, digit, digit_is, digit_small) in
      rw (s, e) more
