-- The operators of expressions, by their places in the list of signs.
use Rattle.std.specs.Prelude.{ℕ, ◌==◌, List, [], ◌∷◌, if◌then◌else◌}
use Rattle.rtl_core.specs.declared.expr.Bin.{Bin}
use Rattle.rtl_core.specs.declared.expr.Bin.TheVariants.{Add, Sub, Mul, DivU, DivS, RemU, RemS, And, Or, Xor, Shl, ShrU, ShrS, Eq, Ne, LtU, LtS, LeU, LeS}

-- `<=!` `>>!` `//!`, `!=`, `<=` `<!` `<<` `>>` `//` `/!`, `=` `&` `|` `+` `-` `*` `/` `<` `^`
abbrev pub operators : List (ℕ × Bin)
operators =
    (1, LeS) ∷ (2, ShrS) ∷ (3, RemS) ∷ (7, Ne) ∷ (9, LeU) ∷ (10, LtS) ∷ (11, Shl) ∷ (12, ShrU) ∷ (13, RemU) ∷ (14, DivS)
    ∷ (22, Eq) ∷ (23, And) ∷ (24, Or) ∷ (25, Add) ∷ (26, Sub) ∷ (27, Mul) ∷ (28, DivU) ∷ (29, LtU) ∷ (30, Xor) ∷ []

-- the operator of a sign; of a sign that is none, addition
abbrev pub operator_among : ℕ → List (ℕ × Bin) → Bin
operator_among sign [] = Add
operator_among sign (o ∷ os) = if sign == o.0 then o.1 else operator_among sign os

unfoldable pub operator : ℕ → Bin
operator sign = operator_among sign operators
