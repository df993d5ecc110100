-- Results of arithmetic fit.
use Rattle.std.proofs.Common.{◌≡◌, ◌≢◌, ℕ, ◌+◌, ◌-◌, ◌*◌, ◌/◌, ◌%◌, ◌^◌, ◌<◌, ◌≤◌, ◌==◌, Bool, true, false, if◌then◌else◌, arith}
use Rattle.std.specs.Prelude.{nat_lt, nat_le, not}
use Rattle.std.proofs.lemmas.Nat.{and_le_l, or_lt, xor_lt, pow_pos, shr_le}
use Rattle.std.proofs.Math.Nat.{mod-eq_of_lt, mod-lt, mod-le, div-le_self, pow-le-pow_right}
use Rattle.rtl_core.specs.declared.expr.Un.{Un}
use Rattle.rtl_core.specs.declared.expr.Un.TheVariants.{Not, Neg}
use Rattle.rtl_core.specs.declared.expr.Bin.{Bin}
use Rattle.rtl_core.specs.declared.expr.Bin.TheVariants.{Add, Sub, Mul, DivU, DivS, RemU, RemS, And, Or, Xor, Shl, ShrU, ShrS, Eq, Ne, LtU, LtS, LeU, LeS}
use Rattle.rtl_core.specs.Arithmetic.{flag, is_plus, opposite, complement, size, same_sign, signed, shifted_right, binary, unary, result_width, bits_of, sign_extended}

pub two_pos : 0 < 2
two_pos = omega arith

pub pow_le : (v w : ℕ) → v ≤ w → 2 ^ v ≤ 2 ^ w
pow_le v w le = pow-le-pow_right two_pos le

-- a choice is below what both are below
pub if_lt : (t : Bool) (x y m : ℕ) → x < m → y < m → (if t then x else y) < m
if_lt true x y m p q = p
if_lt false x y m p q = q

pub flag_lt : (t : Bool) → flag t < 2 ^ 1
flag_lt t = if_lt t 1 0 (2 ^ 1) (omega arith) (omega arith)

pub opposite_lt : (w x : ℕ) → opposite w x < 2 ^ w
opposite_lt w x = mod-lt (2 ^ w - x) (pow_pos w)

pub complement_lt : (w x : ℕ) → complement w x < 2 ^ w
complement_lt w x = omega (arith, pow_pos w)

pub size_lt : (w x : ℕ) → x < 2 ^ w → size w x < 2 ^ w
size_lt w x lt = if_lt (is_plus w x) x (opposite w x) (2 ^ w) lt (opposite_lt w x)

-- only 0 has the size 0
pub size_ne : (w y : ℕ) → y ≢ 0 → y < 2 ^ w → size w y ≢ 0
size_ne w y ne lt = by (is_plus w y)
  where
    by : (t : Bool) → (if t then y else opposite w y) ≢ 0
    by true = ne
    by false =
        let p : 2 ^ w - y < 2 ^ w = omega arith in
        let e : (2 ^ w - y) % 2 ^ w ≡ 2 ^ w - y = mod-eq_of_lt p in
        λ h. absurd (omega (arith, e, h))

pub signed_lt : (w : ℕ) (plus : Bool) (n : ℕ) → n < 2 ^ w → signed w plus n < 2 ^ w
signed_lt w plus n lt = if_lt plus n (opposite w n) (2 ^ w) lt (opposite_lt w n)

pub shifted_lt : (w x y : ℕ) → x < 2 ^ w → shifted_right w x y < 2 ^ w
shifted_lt w x y lt = let s = shr_le x y in if_lt (nat_lt y w) (x / 2 ^ y) 0 (2 ^ w) (omega arith) (pow_pos w)

-- the result of an operator fits its width
pub binary_lt : (op : Bin) (w x y : ℕ) → x < 2 ^ w → y < 2 ^ w → binary op w x y < 2 ^ result_width op w
unfolding binary
binary_lt Add w x y p q = mod-lt (x + y) (pow_pos w)
binary_lt Sub w x y p q = mod-lt (x + (2 ^ w - y)) (pow_pos w)
binary_lt Mul w x y p q = mod-lt (x * y) (pow_pos w)
binary_lt DivU w x y p q = let d = div-le_self x y in omega arith
binary_lt DivS w x y p q = let s = size_lt w x p in let d = div-le_self (size w x) (size w y) in signed_lt w (same_sign w x y) (size w x / size w y) (omega arith)
binary_lt RemU w x y p q = let d = mod-le x y in omega arith
binary_lt RemS w x y p q = let s = size_lt w x p in let d = mod-le (size w x) (size w y) in signed_lt w (is_plus w x) (size w x % size w y) (omega arith)
binary_lt And w x y p q = let d = and_le_l x y in omega arith
binary_lt Or w x y p q = or_lt w x y p q
binary_lt Xor w x y p q = xor_lt w x y p q
binary_lt Shl w x y p q = if_lt (nat_lt y w) ((x * 2 ^ y) % 2 ^ w) 0 (2 ^ w) (mod-lt (x * 2 ^ y) (pow_pos w)) (pow_pos w)
binary_lt ShrU w x y p q = shifted_lt w x y p
binary_lt ShrS w x y p q = if_lt (is_plus w x) (shifted_right w x y) (complement w (shifted_right w (complement w x) y)) (2 ^ w) (shifted_lt w x y p) (complement_lt w (shifted_right w (complement w x) y))
binary_lt Eq w x y p q = flag_lt (x == y)
binary_lt Ne w x y p q = flag_lt (not (x == y))
binary_lt LtU w x y p q = flag_lt (nat_lt x y)
binary_lt LtS w x y p q = if_lt (same_sign w x y) (flag (nat_lt x y)) (flag (is_plus w y)) (2 ^ 1) (flag_lt (nat_lt x y)) (flag_lt (is_plus w y))
binary_lt LeU w x y p q = flag_lt (nat_le x y)
binary_lt LeS w x y p q = if_lt (same_sign w x y) (flag (nat_le x y)) (flag (is_plus w y)) (2 ^ 1) (flag_lt (nat_le x y)) (flag_lt (is_plus w y))

pub unary_lt : (op : Un) (w x : ℕ) → unary op w x < 2 ^ w
unfolding unary
unary_lt Not w x = complement_lt w x
unary_lt Neg w x = opposite_lt w x

pub bits_lt : (lo hi x : ℕ) → bits_of lo hi x < 2 ^ (hi + 1 - lo)
bits_lt lo hi x = mod-lt (x / 2 ^ lo) (pow_pos (hi + 1 - lo))

pub sign_extended_lt : (v w x : ℕ) → v ≤ w → x < 2 ^ v → sign_extended v w x < 2 ^ w
sign_extended_lt v w x le lt = let p = pow_le v w le in if_lt (is_plus v x) x (x + (2 ^ w - 2 ^ v)) (2 ^ w) (omega arith) (omega arith)
