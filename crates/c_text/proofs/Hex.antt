-- The digits of an address, from the last one on.
use Rattle.std.proofs.Common.{◌≡◌, ℕ, ◌+◌, ◌-◌, ◌/◌, ◌%◌, ◌<◌, ◌≤◌, true, zero, suc, List, [], ◌∷◌, ◌++◌, length, drop, sym, ap, ◌∙◌, arith, append_assoc}
use Rattle.std.specs.Prelude.{slice_set}
use Rattle.std.specs.Fmt.{digit_glyph}
use Rattle.std.proofs.lemmas.List.{drop-set}
use Rattle.c_text.specs.Words.{hex_digits, hex}

pub hex_step : (left place : ℕ) (digits : List ℕ) → 0 < place → place ≤ length digits → hex_digits place left ++ drop place digits ≡ hex_digits (place - 1) (left / 16) ++ drop (place - 1) (slice_set digits (place - 1) (digit_glyph true (left % 16)))
hex_step left zero digits p l = absurd (omega arith)
hex_step left (suc k) digits p l =
    let less : suc k - 1 ≡ k = omega arith in
    let more : k + 1 ≡ suc k = omega arith in
    rw less (append_assoc (hex_digits k (left / 16)) (digit_glyph true (left % 16) ∷ []) (drop (suc k) digits)
    ∙ ap (λ ds. hex_digits k (left / 16) ++ ds) (sym (drop-set digits k (digit_glyph true (left % 16)) (omega arith) ∙ ap (λ i. digit_glyph true (left % 16) ∷ drop i digits) more)))

pub hex_end : (n left place : ℕ) (digits : List ℕ) → place ≤ 0 → hex_digits 8 n ≡ hex_digits place left ++ drop place digits → digits ≡ hex n
unfolding hex
hex_end n left zero digits l e = sym e
hex_end n left (suc k) digits l e = absurd (omega arith)
