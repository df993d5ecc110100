-- Digits determine a number.
use Rattle.std.proofs.Common.{◌≡◌, ℕ, ◌/◌, ◌%◌, ◌<◌, ◌^◌, true, zero, suc, List, [], ◌∷◌, ◌++◌, sym, ◌∙◌, arith, append_assoc}
use Rattle.std.specs.Fmt.{digit_glyph}
use Rattle.c_text.specs.Words.{hex_digits, hex}
use Rattle.c_unique.proofs.Alike.{Alike}

glyph_same : (a b : ℕ) → a < 16 → b < 16 → digit_glyph true a ≡ digit_glyph true b → a ≡ b
glyph_same a b l m e = grind arith

-- the number has k hexadecimal digits
abbrev HasDigits : ℕ → ℕ → Type 0
HasDigits zero n = n ≡ 0
HasDigits (suc k) n = HasDigits k (n / 16)

hex_parts : (k a b : ℕ) (r s : List ℕ) → HasDigits k a → HasDigits k b → hex_digits k a ++ r ≡ hex_digits k b ++ s → Alike a b r s
hex_parts zero a b r s l m e = record { same = omega arith; rest = e }
hex_parts (suc k) a b r s l m e =
    let x = digit_glyph true (a % 16) in
    let y = digit_glyph true (b % 16) in
    let before = hex_parts k (a / 16) (b / 16) (x ∷ r) (y ∷ s) l m (sym (append_assoc (hex_digits k (a / 16)) (x ∷ []) r) ∙ e ∙ append_assoc (hex_digits k (b / 16)) (y ∷ []) s) in
    let high : a / 16 ≡ b / 16 = before.same in
    let glyphs : x ∷ r ≡ y ∷ s = before.rest in
    let one : digit_glyph true (a % 16) ≡ digit_glyph true (b % 16) = cc in
    let low : a % 16 ≡ b % 16 = glyph_same (a % 16) (b % 16) (omega arith) (omega arith) one in
    record { same = omega arith; rest = cc }

has_digits : (n : ℕ) → n < 2 ^ 32 → HasDigits 8 n
has_digits n l = omega arith

pub hex_same : (a b : ℕ) (r s : List ℕ) → a < 2 ^ 32 → b < 2 ^ 32 → hex a ++ r ≡ hex b ++ s → Alike a b r s
unfolding hex
hex_same a b r s l m e = hex_parts 8 a b r s (has_digits a l) (has_digits b m) e
