-- Numbers modulo 2^64 under masks.
use Rattle.std.proofs.Common.{◌≡◌, ℕ, zero, suc, ◌+◌, ◌-◌, ◌*◌, ◌/◌, ◌^◌, ◌%◌, ◌<◌, ◌≤◌, sym, ap, ◌∙◌, subst, arith}
use Rattle.std.specs.Prelude.{bit_and}
use Rattle.std.proofs.lemmas.Nat.{and_mask, pow_pos, pow-add}
use Rattle.std.proofs.Math.Pow.{mod-mod-pow}
use Rattle.std.proofs.Math.Nat.{mod-eq_of_lt, add-mod_right, mul-le-mul_left}
use Rattle.rtl_core.proofs.Ranges.{pow_le}

pub masked_word : (x w : ℕ) → w ≤ 64 → bit_and (x % 2 ^ 64) (2 ^ w - 1) ≡ x % 2 ^ w
masked_word x w le =
    let e : 64 - w + w ≡ 64 = omega arith in
    and_mask (x % 2 ^ 64) w ∙ ap (λ k. x % 2 ^ k % 2 ^ w) (sym e) ∙ mod-mod-pow x (64 - w) w

pub mod_more : (k a m : ℕ) → (a + k * m) % m ≡ a % m
mod_more zero a m = let e : a + 0 * m ≡ a = omega arith in ap (λ x. x % m) e
mod_more (suc k) a m =
    let e : a + suc k * m ≡ a + k * m + m = omega arith in
    ap (λ x. x % m) e ∙ add-mod_right (a + k * m) m ∙ mod_more k a m

pub word_parts : (w : ℕ) → w ≤ 64 → (k : ℕ) × (2 ^ 64 ≡ 2 ^ w + k * 2 ^ w)
word_parts w le =
    let e : 64 ≡ 64 - w + w = omega arith in
    let p = pow_pos (64 - w) in
    (2 ^ (64 - w) - 1, ap (λ k. 2 ^ k) e ∙ pow-add 2 (64 - w) w ∙ split (2 ^ (64 - w)) (2 ^ w) p)
  where
    split : (a b : ℕ) → 0 < a → a * b ≡ b + (a - 1) * b
    split zero b p = absurd (omega arith)
    split (suc a) b p =
        let e : suc a - 1 ≡ a = omega arith in let f : suc a * b ≡ b + a * b = omega arith in
        subst (λ z. suc a * b ≡ b + z * b) (sym e) f

-- a difference under a mask
pub masked_minus : (x y w : ℕ) → w ≤ 64 → y ≤ 2 ^ w
    → bit_and ((x + (2 ^ 64 - y)) % 2 ^ 64) (2 ^ w - 1) ≡ (x + (2 ^ w - y)) % 2 ^ w
masked_minus x y w le h =
    let p = word_parts w le in
    masked_word (x + (2 ^ 64 - y)) w le ∙ moved (2 ^ 64) (2 ^ w) p.0 p.1 h
  where
    moved : (W m k : ℕ) → W ≡ m + k * m → y ≤ m → (x + (W - y)) % m ≡ (x + (m - y)) % m
    moved W m k e h =
        let f : x + (W - y) ≡ x + (m - y) + k * m = omega arith in ap (λ z. z % m) f ∙ mod_more k (x + (m - y)) m

pub masked_opposite : (y w : ℕ) → w ≤ 64 → y ≤ 2 ^ w
    → bit_and ((0 + (2 ^ 64 - y)) % 2 ^ 64) (2 ^ w - 1) ≡ (2 ^ w - y) % 2 ^ w
masked_opposite y w le h =
    let e : 0 + (2 ^ w - y) ≡ 2 ^ w - y = omega arith in masked_minus 0 y w le h ∙ ap (λ z. z % 2 ^ w) e

-- a difference that doesn't wrap
pub minus_word : (x y W : ℕ) → y ≤ x → x < W → (x + (W - y)) % W ≡ x - y
minus_word x y W le lt =
    let e : x + (W - y) ≡ x - y + W = omega arith in
    let s : x - y < W = omega arith in
    ap (λ z. z % W) e ∙ add-mod_right (x - y) W ∙ mod-eq_of_lt s

pub in_word : (x w : ℕ) → w ≤ 64 → x < 2 ^ w → x < 2 ^ 64
in_word x w le lt = omega (arith, pow_le w 64 le)

-- bits taken out and put in
pub bits_low : (lo n x : ℕ) → x / 2 ^ lo % 2 ^ n * 2 ^ lo ≤ x
bits_low lo n x = lower_le (2 ^ lo) (2 ^ n) (pow_pos lo) (pow_pos n)
  where
    lower_le : (a b : ℕ) → 0 < a → 0 < b → x / a % b * a ≤ x
    lower_le a b p q =
        let d : b * (x / a / b) + x / a % b ≡ x / a = omega arith in let le : x / a % b ≤ x / a = omega arith in
        omega (arith, mul-le-mul_left a le)
