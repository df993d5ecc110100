-- Lists of a known length by their numbers, and the header.
use Rattle.std.proofs.Common.{◌≡◌, ℕ, ◌+◌, ◌<◌, ◌^◌, true, zero, suc, List, [], ◌∷◌, length, get_or, drop, refl, sym, ap, ◌∙◌, arith}
use Rattle.std.specs.Prelude.{◌==◌}
use Rattle.std.proofs.Math.Seq.{drop-cons}
use Rattle.std.proofs.lemmas.Bool.{ltb-true}
use Rattle.std.proofs.lemmas.List.{drop_all}
use Rattle.rtl_core.specs.Arithmetic.{flag}
use Rattle.c_lang.specs.StaticRules.{is_flag}
use Rattle.c_read.specs.Combined.{Each}
use Rattle.c_read.specs.Programs.{AreHeader}

pub each_at : (P : ℕ → Type 0) (ns : List ℕ) (i : ℕ) → Each P ns → i < length ns → P (get_or ns i 0)
each_at P [] i h l = absurd (omega arith)
each_at P (n ∷ ns) zero h l = h.0
each_at P (n ∷ ns) (suc i) h l = each_at P ns i h.1 (omega arith)

pub number_small : (ns : List ℕ) (i : ℕ) → AreHeader ns → i < length ns → get_or ns i 0 < 2 ^ 32
number_small ns i h l = each_at (λ n. n < 2 ^ 32) ns i h.small l

pub byte_small : (ns : List ℕ) (i : ℕ) → Each (λ n. n < 256) ns → i < length ns → get_or ns i 0 < 256
byte_small ns i h l = each_at (λ n. n < 256) ns i h l

pub flag_small : (n : ℕ) → is_flag n ≡ true → n < 2
flag_small n h = ltb-true n 2 h

pub flag_is : (n : ℕ) → is_flag n ≡ true → flag (n == 1) ≡ n
flag_is zero h = refl
flag_is (suc zero) h = refl
flag_is (suc (suc n)) h = absurd (omega (arith, flag_small (suc (suc n)) h))

-- so many numbers of a list, from a place on
abbrev numbers_from : ℕ → ℕ → List ℕ → List ℕ
numbers_from zero i ns = []
numbers_from (suc k) i ns = get_or ns i 0 ∷ numbers_from k (i + 1) ns

numbers_are : (k i : ℕ) (ns : List ℕ) → i + k ≡ length ns → numbers_from k i ns ≡ drop i ns
numbers_are zero i ns e = sym (drop_all i ns (omega (arith, e)))
numbers_are (suc k) i ns e =
    let one : i + 1 ≡ suc i = omega arith in
    ap (λ l. get_or ns i 0 ∷ l) (numbers_are k (i + 1) ns (omega (arith, e)) ∙ ap (λ j. drop j ns) one) ∙ sym (drop-cons ns i 0 (omega (arith, e)))

pub header_is : (ns : List ℕ) (order align carry : ℕ) → length ns ≡ 14 → order ≡ get_or ns 0 0 → align ≡ get_or ns 1 0 → carry ≡ get_or ns 13 0
    → order ∷ align ∷ get_or ns 2 0 ∷ get_or ns 3 0 ∷ get_or ns 4 0 ∷ get_or ns 5 0 ∷ get_or ns 6 0 ∷ get_or ns 7 0 ∷ get_or ns 8 0 ∷ get_or ns 9 0 ∷ get_or ns 10 0 ∷ get_or ns 11 0 ∷ get_or ns 12 0 ∷ carry ∷ [] ≡ ns
header_is ns order align carry e o a c =
    (λ i. o i ∷ a i ∷ get_or ns 2 0 ∷ get_or ns 3 0 ∷ get_or ns 4 0 ∷ get_or ns 5 0 ∷ get_or ns 6 0 ∷ get_or ns 7 0 ∷ get_or ns 8 0 ∷ get_or ns 9 0 ∷ get_or ns 10 0 ∷ get_or ns 11 0 ∷ get_or ns 12 0 ∷ c i ∷ [])
    ∙ numbers_are 14 0 ns (omega (arith, e))

pub row_is : (ns : List ℕ) (write file : ℕ) → length ns ≡ 4 → write ≡ get_or ns 1 0 → file ≡ get_or ns 2 0 → get_or ns 0 0 ∷ write ∷ file ∷ get_or ns 3 0 ∷ [] ≡ ns
row_is ns write file e w f = (λ i. get_or ns 0 0 ∷ w i ∷ f i ∷ get_or ns 3 0 ∷ []) ∙ numbers_are 4 0 ns (omega (arith, e))
