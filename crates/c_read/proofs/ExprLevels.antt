-- A level of the tree, and the levels below it.
use Rattle.std.proofs.Common.{◌≡◌, ℕ, ◌-◌, ◌<◌, zero, suc, List, refl, arith}
use Rattle.c_text.specs.Tokens.{Token}
use Rattle.c_scan.specs.Readings.{refuses}
use Rattle.c_read.specs.Expressions.{read_by_first, read_expr}

pub expr_none : (n : ℕ) (given : List Token) → n ≡ 0 → read_expr n given ≡ refuses
unfolding read_expr
expr_none n given e = rw e refl

pub expr_more : (n : ℕ) (given : List Token) → 0 < n → read_expr n given ≡ read_by_first (read_expr (n - 1)) given
unfolding read_expr
expr_more zero given h = absurd (omega arith)
expr_more (suc n) given h = let e : suc n - 1 ≡ n = omega arith in rw e refl

pub ruleset expr_levels = (expr_none, expr_more)
