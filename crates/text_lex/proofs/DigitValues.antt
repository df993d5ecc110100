-- The number that digits write, one digit more.
use Rattle.std.proofs.Common.{◌≡◌, ℕ, ◌+◌, ◌*◌, ◌<◌, ◌≤◌, ◌^◌, Bool, true, cond, zero, suc, List, [], ◌∷◌, length, take, get_or, Some, None, sym, ap, ◌∙◌, arith}
use Rattle.std.specs.Char.{is_digit, digit_value}
use Rattle.std.specs.List.{list_all}
use Rattle.std.specs.Str.Parse.{digits_value}
use Rattle.std.proofs.lemmas.Bool.{and_parts, le-ltb, lt-ltb, ltb-true}
use Rattle.std.proofs.lemmas.List.{take_all}
use Rattle.std.proofs.lemmas.Str.Parse.{digits_value-take-le}
use Rattle.std.proofs.lemmas.Int.Digits.{digits_value_more}
use Rattle.text_lex.specs.Lexemes.{value_below}

-- each digit passes
pub passes_at : (p : ℕ → Bool) (ds : List ℕ) (i : ℕ) → list_all p ds ≡ true → i < length ds → p (get_or ds i 0) ≡ true
passes_at p [] i h l = absurd (omega arith)
passes_at p (d ∷ ds) zero h l = (and_parts _ _ h).0
passes_at p (d ∷ ds) (suc i) h l = passes_at p ds i (and_parts _ _ h).1 (omega arith)

pub digit_fits : (radix : ℕ) (ds : List ℕ) (i : ℕ) → list_all (λ b. is_digit b radix) ds ≡ true → i < length ds → digit_value (get_or ds i 0) < radix
digit_fits radix ds i h l = ltb-true (digit_value (get_or ds i 0)) radix (passes_at (λ b. is_digit b radix) ds i h l)

-- too large so far
pub too_large : (radix : ℕ) (ds : List ℕ) (i : ℕ) → 1 ≤ radix → i < length ds → 2 ^ 64 ≤ digits_value radix (take i ds) * radix + digit_value (get_or ds i 0) → None ≡ value_below (digits_value radix ds)
too_large radix ds i r l big =
    ap (λ t. cond t (Some (digits_value radix ds)) None)
    (sym (le-ltb (digits_value radix ds) (2 ^ 64) (omega (arith, big, digits_value_more radix ds i l, digits_value-take-le radix ds (i + 1) r))))

pub value_all : (radix : ℕ) (ds : List ℕ) (i v : ℕ) → length ds ≤ i → v ≡ digits_value radix (take i ds) → v < 2 ^ 64 → Some v ≡ value_below (digits_value radix ds)
value_all radix ds i v l e small =
    let all : v ≡ digits_value radix ds = e ∙ ap (digits_value radix) (take_all i ds l) in
    ap Some all ∙ ap (λ t. cond t (Some (digits_value radix ds)) None) (sym (lt-ltb (digits_value radix ds) (2 ^ 64) (omega arith)))

pub product : (v w r s : ℕ) → v ≡ w → r ≡ s → v * r ≡ w * s
product v w r s e f = λ i. e i * f i
