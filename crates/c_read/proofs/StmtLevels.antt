-- A level of `if`s, and the levels below it.
use Rattle.std.proofs.Common.{◌≡◌, ℕ, ◌-◌, ◌<◌, zero, suc, List, refl, arith}
use Rattle.c_text.specs.Tokens.{Token}
use Rattle.c_scan.specs.Readings.{refuses}
use Rattle.c_read.specs.Statements.{read_by_first, read_statement}

pub stmt_none : (n : ℕ) (given : List Token) → n ≡ 0 → read_statement n given ≡ refuses
unfolding read_statement
stmt_none n given e = rw e refl

pub stmt_more : (n : ℕ) (given : List Token) → 0 < n → read_statement n given ≡ read_by_first (read_statement (n - 1)) given
unfolding read_statement
stmt_more zero given h = absurd (omega arith)
stmt_more (suc n) given h = let e : suc n - 1 ≡ n = omega arith in rw e refl

pub ruleset stmt_levels = (stmt_none, stmt_more)
