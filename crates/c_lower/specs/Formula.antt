-- The C of one operator, over operands that are computed and may be repeated; it stands for the number of the same name.
use Rattle.std.specs.Prelude.{ℕ, ◌+◌, ◌-◌, ◌^◌}
use Rattle.rtl_core.specs.declared.expr.Un.{Un}
use Rattle.rtl_core.specs.declared.expr.Un.TheVariants.{Not, Neg}
use Rattle.rtl_core.specs.declared.expr.Bin.{Bin}
use Rattle.rtl_core.specs.declared.expr.Bin.TheVariants.{Add, Sub, Mul, DivU, DivS, RemU, RemS, And, Or, Xor, Shl, ShrU, ShrS, Eq, Ne, LtU, LtS, LeU, LeS}
use Rattle.c_lang.specs.declared.tree.COp.TheVariants.{Add as Plus, Sub as Minus, Mul as Times, Div as Over, Rem as Rest, And as Both, Or as Either, Xor as Differ, Shl as Up, Shr as Down, Eq as Same, Ne as Other, Lt as Less, Le as AtMost}
use Rattle.c_lang.specs.declared.tree.CExpr.{CExpr}
use Rattle.c_lang.specs.declared.tree.CExpr.TheVariants.{Num, Bin as Op, Choose}

-- the low w bits
abbrev pub masked_c : ℕ → CExpr → CExpr
masked_c w a = Op Both a (Num (2 ^ w - 1))

-- whether the sign bit is 0
abbrev pub is_plus_c : ℕ → CExpr → CExpr
is_plus_c w a = Op Less a (Num (2 ^ (w - 1)))

-- the negative, modulo 2^w
abbrev pub opposite_c : ℕ → CExpr → CExpr
opposite_c w a = masked_c w (Op Minus (Num 0) a)

-- every bit turned round
abbrev pub complement_c : ℕ → CExpr → CExpr
complement_c w a = Op Minus (Num (2 ^ w - 1)) a

-- the absolute value
abbrev pub size_c : ℕ → CExpr → CExpr
size_c w a = Choose (is_plus_c w a) a (opposite_c w a)

-- whether both have one sign
abbrev pub same_sign_c : ℕ → CExpr → CExpr → CExpr
same_sign_c w a b = Op Same (is_plus_c w a) (is_plus_c w b)

-- the number of this size, with a plus or a minus before it
abbrev pub signed_c : ℕ → CExpr → CExpr → CExpr
signed_c w plus n = Choose plus n (opposite_c w n)

-- a shift to the right that brings zeros in
abbrev pub shifted_right_c : ℕ → CExpr → CExpr → CExpr
shifted_right_c w a b = Choose (Op Less b (Num w)) (Op Down a b) (Num 0)

-- an operator of two numbers of w bits; the second operand of a division is not 0
unfoldable pub binary_c : Bin → ℕ → CExpr → CExpr → CExpr
binary_c Add w a b = masked_c w (Op Plus a b)
binary_c Sub w a b = masked_c w (Op Minus a b)
binary_c Mul w a b = masked_c w (Op Times a b)
binary_c DivU w a b = Op Over a b
binary_c DivS w a b = signed_c w (same_sign_c w a b) (Op Over (size_c w a) (size_c w b))
binary_c RemU w a b = Op Rest a b
binary_c RemS w a b = signed_c w (is_plus_c w a) (Op Rest (size_c w a) (size_c w b))
binary_c And w a b = Op Both a b
binary_c Or w a b = Op Either a b
binary_c Xor w a b = Op Differ a b
binary_c Shl w a b = Choose (Op Less b (Num w)) (masked_c w (Op Up a b)) (Num 0)
binary_c ShrU w a b = shifted_right_c w a b
binary_c ShrS w a b = Choose (is_plus_c w a) (shifted_right_c w a b) (complement_c w (shifted_right_c w (complement_c w a) b))
binary_c Eq w a b = Op Same a b
binary_c Ne w a b = Op Other a b
binary_c LtU w a b = Op Less a b
binary_c LtS w a b = Choose (same_sign_c w a b) (Op Less a b) (is_plus_c w b)
binary_c LeU w a b = Op AtMost a b
binary_c LeS w a b = Choose (same_sign_c w a b) (Op AtMost a b) (is_plus_c w b)

-- an operator of one number of w bits
unfoldable pub unary_c : Un → ℕ → CExpr → CExpr
unary_c Not w a = complement_c w a
unary_c Neg w a = opposite_c w a

-- the bits lo to hi, both included
abbrev pub bits_c : ℕ → ℕ → CExpr → CExpr
bits_c lo hi a = masked_c (hi + 1 - lo) (Op Down a (Num lo))

-- a number with its bits lo to hi taken out and v put in
abbrev pub with_bits_c : ℕ → ℕ → CExpr → CExpr → CExpr
with_bits_c lo hi a v = Op Plus (Op Minus a (Op Up (bits_c lo hi a) (Num lo))) (Op Up v (Num lo))

-- a number of v bits, its sign repeated up to w bits
abbrev pub sign_extended_c : ℕ → ℕ → CExpr → CExpr
sign_extended_c v w a = Choose (is_plus_c v a) a (Op Plus a (Num (2 ^ w - 2 ^ v)))
