-- What the operators make of numbers of w bits fits the width of the result.
use Rattle.std.proofs.Common.{◌≡◌, ◌≢◌, ℕ, ap, ◌∙◌, ⊎_elim, ◌+◌, ◌-◌, ◌*◌, ◌/◌, ◌^◌, ◌%◌, ◌<◌, ◌≤◌, ◌==◌, Bool, true, false, not, if◌then◌else◌, arith, nat_lt}
use Rattle.std.specs.Prelude.{nat_le}
use Rattle.std.proofs.lemmas.Nat.{pow-add, or_lt, xor_lt, and_le_l, pow_pos, shr_le}
use Rattle.std.proofs.Math.Nat.{mod-lt, mod-eq_of_lt, div-le_self, mod-le, pow-le-pow_right, mul-le-mul_left}
use Rattle.std.proofs.lemmas.Bool.{cases_lt}
use Rattle.rtl_core.specs.declared.expr.Un.{Un}
use Rattle.rtl_core.specs.declared.expr.Un.TheVariants.{Not, Neg}
use Rattle.rtl_core.specs.declared.expr.Bin.{Bin}
use Rattle.rtl_core.specs.declared.expr.Bin.TheVariants.{Add, Sub, Mul, DivU, DivS, RemU, RemS, And, Or, Xor, Shl, ShrU, ShrS, Eq, Ne, LtU, LtS, LeU, LeS}
use Rattle.rtl_core.specs.Arithmetic.{flag, is_plus, opposite, complement, size, same_sign, shifted_right, binary, unary, result_width, with_bits, sign_extended}

pub pow_le : (v w : ℕ) → v ≤ w → 2 ^ v ≤ 2 ^ w
pow_le v w le = let two : 0 < 2 = omega arith in pow-le-pow_right two le

pub opposite_pos : (w y : ℕ) → 0 < y → y < 2 ^ w → opposite w y ≡ 2 ^ w - y
opposite_pos w y pos lt = let s : 2 ^ w - y < 2 ^ w = omega arith in mod-eq_of_lt s

pub complement_lt : (w x : ℕ) → complement w x < 2 ^ w
complement_lt w x = omega (arith, pow_pos w)

pub opposite_lt : (w x : ℕ) → opposite w x < 2 ^ w
opposite_lt w x = mod-lt (2 ^ w - x) (pow_pos w)

pub size_lt : (w x : ℕ) → x < 2 ^ w → size w x < 2 ^ w
size_lt w x lt = by (is_plus w x)
  where
    by : (t : Bool) → (if t then x else opposite w x) < 2 ^ w
    by true = lt
    by false = opposite_lt w x

pub size_ne : (w y : ℕ) → y ≢ 0 → y < 2 ^ w → size w y ≢ 0
size_ne w y ne lt = by (is_plus w y)
  where
    by : (t : Bool) → (if t then y else opposite w y) ≢ 0
    by true = ne
    by false = let p : 0 < y = omega arith in let e = opposite_pos w y p lt in λ h. absurd (omega (arith, e))

pub shifted_lt : (w x y : ℕ) → x < 2 ^ w → shifted_right w x y < 2 ^ w
shifted_lt w x y lt = by (nat_lt y w)
  where
    by : (t : Bool) → (if t then x / 2 ^ y else 0) < 2 ^ w
    by true = omega (arith, shr_le x y)
    by false = pow_pos w

pub flag_lt : (t : Bool) → flag t < 2 ^ 1
flag_lt true = omega arith
flag_lt false = omega arith

pub if_lt : (t : Bool) (x y m : ℕ) → x < m → y < m → (if t then x else y) < m
if_lt true x y m p q = p
if_lt false x y m p q = q

pub binary_lt : (w : ℕ) (op : Bin) (x y : ℕ) → x < 2 ^ w → y < 2 ^ w → binary op w x y < 2 ^ result_width op w
unfolding binary
binary_lt w Add x y p q = mod-lt (x + y) (pow_pos w)
binary_lt w Sub x y p q = mod-lt (x + (2 ^ w - y)) (pow_pos w)
binary_lt w Mul x y p q = mod-lt (x * y) (pow_pos w)
binary_lt w DivU x y p q = let d = div-le_self x y in omega arith
binary_lt w DivS x y p q = let s = size_lt w x p in let d = div-le_self (size w x) (size w y) in if_lt (same_sign w x y) (size w x / size w y) (opposite w (size w x / size w y)) (2 ^ w) (omega arith) (opposite_lt w (size w x / size w y))
binary_lt w RemU x y p q = let d = mod-le x y in omega arith
binary_lt w RemS x y p q = let s = size_lt w x p in let d = mod-le (size w x) (size w y) in if_lt (is_plus w x) (size w x % size w y) (opposite w (size w x % size w y)) (2 ^ w) (omega arith) (opposite_lt w (size w x % size w y))
binary_lt w And x y p q = let d = and_le_l x y in omega arith
binary_lt w Or x y p q = or_lt w x y p q
binary_lt w Xor x y p q = xor_lt w x y p q
binary_lt w Shl x y p q = if_lt (nat_lt y w) ((x * 2 ^ y) % 2 ^ w) 0 (2 ^ w) (mod-lt (x * 2 ^ y) (pow_pos w)) (pow_pos w)
binary_lt w ShrU x y p q = shifted_lt w x y p
binary_lt w ShrS x y p q = if_lt (is_plus w x) (shifted_right w x y) (complement w (shifted_right w (complement w x) y)) (2 ^ w) (shifted_lt w x y p) (complement_lt w (shifted_right w (complement w x) y))
binary_lt w Eq x y p q = flag_lt (x == y)
binary_lt w Ne x y p q = flag_lt (not (x == y))
binary_lt w LtU x y p q = flag_lt (nat_lt x y)
binary_lt w LtS x y p q = if_lt (same_sign w x y) (flag (nat_lt x y)) (flag (is_plus w y)) (2 ^ 1) (flag_lt (nat_lt x y)) (flag_lt (is_plus w y))
binary_lt w LeU x y p q = flag_lt (nat_le x y)
binary_lt w LeS x y p q = if_lt (same_sign w x y) (flag (nat_le x y)) (flag (is_plus w y)) (2 ^ 1) (flag_lt (nat_le x y)) (flag_lt (is_plus w y))

pub unary_lt : (w : ℕ) (op : Un) (x : ℕ) → unary op w x < 2 ^ w
unfolding unary
unary_lt w Not x = complement_lt w x
unary_lt w Neg x = opposite_lt w x

pub sign_extended_lt : (v w x : ℕ) → v ≤ w → x < 2 ^ v → sign_extended v w x < 2 ^ w
sign_extended_lt v w x le lt = let p = pow_le v w le in if_lt (is_plus v x) x (x + (2 ^ w - 2 ^ v)) (2 ^ w) (omega arith) (omega arith)

pub with_bits_lt : (lo hi w x y : ℕ) → lo ≤ hi → hi < w → x < 2 ^ w → y < 2 ^ (hi + 1 - lo) → with_bits lo hi x y < 2 ^ w
with_bits_lt lo hi w x y le below p q =
    let n = hi + 1 - lo in
    let e : w ≡ lo + (n + (w - lo - n)) = omega arith in
    let f = ap (λ k. 2 ^ k) e ∙ pow-add 2 lo (n + (w - lo - n)) ∙ ap (λ k. 2 ^ lo * k) (pow-add 2 n (w - lo - n)) in
    plain (2 ^ lo) (2 ^ n) (2 ^ (w - lo - n)) (2 ^ w) (pow_pos lo) (pow_pos n) f p q
  where
    plain : (L M K W : ℕ) → 0 < L → 0 < M → W ≡ L * (M * K) → x < W → y < M → x - x / L % M * L + y * L < W
    plain L M K W lp mp e p q =
        let a : L * (x / L) + x % L ≡ x = omega arith in
        let b : M * (x / L / M) + x / L % M ≡ x / L = omega arith in
        let r : x % L < L = omega arith in
        let g : L * (M * (x / L / M) + x / L % M) ≡ L * (x / L) = ap (λ k. L * k) b in
        let y1 : y + 1 ≤ M = omega arith in
        let c = mul-le-mul_left L y1 in
        let h : x / L / M < K = ⊎_elim (λ lt. lt) (λ ge. absurd (let k = mul-le-mul_left M ge in let j = mul-le-mul_left L k in omega arith)) (cases_lt (x / L / M) K) in
        let h1 : x / L / M + 1 ≤ K = omega arith in
        let k = mul-le-mul_left M h1 in
        let j = mul-le-mul_left L k in
        omega arith
