-- The value of an expression of the C text: a number below 2^64; none where it has no meaning (C99, 6.5).
use Rattle.std.specs.Prelude.{ℕ, ◌+◌, ◌-◌, ◌*◌, ◌/◌, ◌%◌, ◌^◌, ◌==◌, nat_lt, nat_le, not, if◌then◌else◌, Option, Some, None, bit_and, bit_or, bit_xor}
use Rattle.rtl_core.specs.Arithmetic.{flag}
use Rattle.rtl_core.specs.Value.{choice}
use Rattle.c_lang.specs.declared.tree.COp.{COp}
use Rattle.c_lang.specs.declared.tree.COp.TheVariants.{Add, Sub, Mul, Div, Rem, And, Or, Xor, Shl, Shr, Eq, Ne, Lt, Le}
use Rattle.c_lang.specs.declared.tree.Var.{Var}
use Rattle.c_lang.specs.declared.tree.CExpr.{CExpr, fold-CExpr}
use Rattle.c_lang.specs.declared.tree.CExpr.TheOpen.{CExpr-F}

-- how many numbers a word holds
abbrev pub word : ℕ
word = 2 ^ 64

-- what an operator makes of two words; none for a division by 0 and a shift by 64 or more
unfoldable pub op_value : COp → ℕ → ℕ → Option ℕ
op_value Add x y = Some ((x + y) % word)
op_value Sub x y = Some ((x + (word - y)) % word)
op_value Mul x y = Some ((x * y) % word)
op_value Div x y = if y == 0 then None else Some (x / y)
op_value Rem x y = if y == 0 then None else Some (x % y)
op_value And x y = Some (bit_and x y)
op_value Or x y = Some (bit_or x y)
op_value Xor x y = Some (bit_xor x y)
op_value Shl x y = if nat_lt y 64 then Some ((x * 2 ^ y) % word) else None
op_value Shr x y = if nat_lt y 64 then Some (x / 2 ^ y) else None
op_value Eq x y = Some (flag (x == y))
op_value Ne x y = Some (flag (not (x == y)))
op_value Lt x y = Some (flag (nat_lt x y))
op_value Le x y = Some (flag (nat_le x y))

-- both operands have values, and the operator has one
unfoldable pub both : COp → Option ℕ → Option ℕ → Option ℕ
both op None y = None
both op (Some x) None = None
both op (Some x) (Some y) = op_value op x y

-- the chosen branch; the other one may have no value
unfoldable pub chosen : Option ℕ → Option ℕ → Option ℕ → Option ℕ
chosen None a b = None
chosen (Some n) a b = choice n a b

-- the values of the variables that are set
abbrev pub Vars : Type 0
Vars = Var → Option ℕ

abbrev node_value : Vars → CExpr-F (Option ℕ) → Option ℕ
node_value vars (CExpr-F.Num n) = Some n
node_value vars (CExpr-F.Of v) = vars v
node_value vars (CExpr-F.Bin op a b) = both op a b
node_value vars (CExpr-F.Choose c a b) = chosen c a b

-- the value of an expression over these variables
unfoldable pub value : Vars → CExpr → Option ℕ
value vars = fold-CExpr (Option ℕ) (node_value vars)
