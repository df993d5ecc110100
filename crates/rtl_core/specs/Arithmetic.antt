-- Arithmetic on numbers of w bits, read as two's complement where an operator is signed.
use Rattle.std.specs.Prelude.{ℕ, ◌+◌, ◌-◌, ◌*◌, ◌/◌, ◌%◌, ◌^◌, ◌==◌, nat_lt, nat_le, Bool, true, false, not, if◌then◌else◌, bit_and, bit_or, bit_xor}
use Rattle.rtl_core.specs.declared.expr.Un.{Un}
use Rattle.rtl_core.specs.declared.expr.Un.TheVariants.{Not, Neg}
use Rattle.rtl_core.specs.declared.expr.Bin.{Bin}
use Rattle.rtl_core.specs.declared.expr.Bin.TheVariants.{Add, Sub, Mul, DivU, DivS, RemU, RemS, And, Or, Xor, Shl, ShrU, ShrS, Eq, Ne, LtU, LtS, LeU, LeS}

-- 1 where it is so, else 0
abbrev pub flag : Bool → ℕ
flag b = if b then 1 else 0

-- whether the sign bit is 0
abbrev pub is_plus : ℕ → ℕ → Bool
is_plus w x = nat_lt x (2 ^ (w - 1))

-- the negative, modulo 2^w
abbrev pub opposite : ℕ → ℕ → ℕ
opposite w x = (2 ^ w - x) % 2 ^ w

-- every bit turned round
abbrev pub complement : ℕ → ℕ → ℕ
complement w x = 2 ^ w - 1 - x

-- the absolute value
abbrev pub size : ℕ → ℕ → ℕ
size w x = if is_plus w x then x else opposite w x

-- whether both have one sign
abbrev pub same_sign : ℕ → ℕ → ℕ → Bool
same_sign w x y = flag (is_plus w x) == flag (is_plus w y)

-- the number of this size, with a plus or a minus before it
abbrev pub signed : ℕ → Bool → ℕ → ℕ
signed w plus n = if plus then n else opposite w n

-- a shift to the right that brings zeros in
abbrev pub shifted_right : ℕ → ℕ → ℕ → ℕ
shifted_right w x y = if nat_lt y w then x / 2 ^ y else 0

-- what an operator makes of two numbers of w bits; of a division by 0 nothing is meant
unfoldable pub binary : Bin → ℕ → ℕ → ℕ → ℕ
binary Add w x y = (x + y) % 2 ^ w
binary Sub w x y = (x + (2 ^ w - y)) % 2 ^ w
binary Mul w x y = (x * y) % 2 ^ w
binary DivU w x y = x / y
binary DivS w x y = signed w (same_sign w x y) (size w x / size w y)
binary RemU w x y = x % y
binary RemS w x y = signed w (is_plus w x) (size w x % size w y)
binary And w x y = bit_and x y
binary Or w x y = bit_or x y
binary Xor w x y = bit_xor x y
binary Shl w x y = if nat_lt y w then (x * 2 ^ y) % 2 ^ w else 0
binary ShrU w x y = shifted_right w x y
binary ShrS w x y = if is_plus w x then shifted_right w x y else complement w (shifted_right w (complement w x) y)
binary Eq w x y = flag (x == y)
binary Ne w x y = flag (not (x == y))
binary LtU w x y = flag (nat_lt x y)
binary LtS w x y = if same_sign w x y then flag (nat_lt x y) else flag (is_plus w y)
binary LeU w x y = flag (nat_le x y)
binary LeS w x y = if same_sign w x y then flag (nat_le x y) else flag (is_plus w y)

-- what an operator makes of one number of w bits
unfoldable pub unary : Un → ℕ → ℕ → ℕ
unary Not w x = complement w x
unary Neg w x = opposite w x

-- whether the second operand may not be 0
abbrev pub is_division : Bin → Bool
is_division DivU = true
is_division DivS = true
is_division RemU = true
is_division RemS = true
is_division _ = false

-- whether the result is 1 bit
abbrev pub is_comparison : Bin → Bool
is_comparison Eq = true
is_comparison Ne = true
is_comparison LtU = true
is_comparison LtS = true
is_comparison LeU = true
is_comparison LeS = true
is_comparison _ = false

-- the width of a result, from that of the operands
abbrev pub result_width : Bin → ℕ → ℕ
result_width op w = if is_comparison op then 1 else w

-- the bits lo to hi of a number, both included
abbrev pub bits_of : ℕ → ℕ → ℕ → ℕ
bits_of lo hi x = x / 2 ^ lo % 2 ^ (hi + 1 - lo)

-- the number x with its bits lo to hi taken out and v put in
abbrev pub with_bits : ℕ → ℕ → ℕ → ℕ → ℕ
with_bits lo hi x v = x - bits_of lo hi x * 2 ^ lo + v * 2 ^ lo

-- a number of v bits, its sign repeated up to w bits
abbrev pub sign_extended : ℕ → ℕ → ℕ → ℕ
sign_extended v w x = if is_plus v x then x else x + (2 ^ w - 2 ^ v)
