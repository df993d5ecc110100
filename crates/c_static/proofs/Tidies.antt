-- What the statements of an instruction mention: named cells, its temporaries, and accesses of the sizes that there are.
use Rattle.std.proofs.Common.{◌≡◌, ℕ, suc, ◌<◌, Bool, true, false, List, refl}
use Rattle.rtl_core.specs.Access.{is_size}
use Rattle.c_lang.specs.declared.tree.Var.{Var}
use Rattle.c_lang.specs.declared.tree.Var.TheVariants.{Cell, Temp, Wn}
use Rattle.c_lang.specs.declared.tree.CExpr.{CExpr}
use Rattle.c_lang.specs.declared.tree.Stmt.{Stmt}
use Rattle.c_lang.specs.Items.{Mention, Name, Access}
use Rattle.c_lower.specs.Tidy.{Reads, number, a_cell, a_temp, count, two, three, Tidy, ends, sets_temp, sets_cell, sets_count, loads, stores, takes, puts, tests, stops, most_nesting}
use Rattle.c_static.proofs.Saying.{Uses, Says, uses-Num, uses-Of, uses-Bin, uses-Choose, says-none, says-Set, says-Load, says-Store, says-TakeW, says-PutW, says-If, says-Stop}

-- a variable that each function has
abbrev pub is_everywhere : Var → Bool
is_everywhere (Cell c) = false
is_everywhere (Temp k) = false
is_everywhere v = true

-- P holds of what the statements of a function may mention: its cells and temporaries, the variables that each function has, and
-- accesses of the sizes that there are
pub record Allows (P : Mention → Type 0) (named : ℕ → Bool) (temps : ℕ) : Type 0 where
  pub cell : (c : ℕ) → named c ≡ true → P (Name (Cell c))
  pub temp : (k : ℕ) → k < temps → P (Name (Temp k))
  pub everywhere : (v : Var) → is_everywhere v ≡ true → P (Name v)
  pub access : (n : ℕ) → is_size n ≡ true → P (Access n)

module _ (P : Mention → Type 0) (named : ℕ → Bool) (temps : ℕ) (allows : Allows P named temps) where
  reads-uses : (assigned : ℕ → Bool) (n : ℕ) (e : CExpr) → Reads named temps assigned n e → Uses P e
  reads-uses assigned n e (number x lt) = uses-Num P x
  reads-uses assigned n e (a_cell c h) = uses-Of P (Cell c) (allows.cell c h)
  reads-uses assigned n e (a_temp k lt h) = uses-Of P (Temp k) (allows.temp k lt)
  reads-uses assigned n e count = uses-Of P Wn (allows.everywhere Wn refl)
  reads-uses assigned n e (two {n = m} op a b h k) = uses-Bin P op a b (reads-uses assigned m a h) (reads-uses assigned m b k)
  reads-uses assigned n e (three {n = m} c a b f h k) = uses-Choose P c a b (reads-uses assigned m c f) (reads-uses assigned m a h) (reads-uses assigned m b k)

  pub tidy-says : (n : ℕ) (D E : ℕ → Bool) (stmts : List Stmt) → Tidy named temps n D stmts E → Says P stmts
  tidy-says n D E stmts (ends h) = says-none P
  tidy-says n D E stmts (sets_temp k e {rest = rest} lt r t) = says-Set P (Temp k) e rest (allows.temp k lt) (reads-uses D most_nesting e r) (tidy-says n _ E rest t)
  tidy-says n D E stmts (sets_cell c e {rest = rest} h r t) = says-Set P (Cell c) e rest (allows.cell c h) (reads-uses D most_nesting e r) (tidy-says n D E rest t)
  tidy-says n D E stmts (sets_count e {rest = rest} r t) = says-Set P Wn e rest (allows.everywhere Wn refl) (reads-uses D most_nesting e r) (tidy-says n D E rest t)
  tidy-says n D E stmts (loads k size e {rest = rest} lt s r t) = says-Load P (Temp k) size e rest (allows.temp k lt) (allows.access size s) (reads-uses D most_nesting e r) (tidy-says n _ E rest t)
  tidy-says n D E stmts (stores size a e {rest = rest} s r q t) = says-Store P size a e rest (allows.access size s) (reads-uses D most_nesting a r) (reads-uses D most_nesting e q) (tidy-says n D E rest t)
  tidy-says n D E stmts (takes c e {rest = rest} h r t) = says-TakeW P (Cell c) e rest (allows.cell c h) (reads-uses D most_nesting e r) (tidy-says n D E rest t)
  tidy-says n D E stmts (puts i e {rest = rest} r q t) = says-PutW P i e rest (reads-uses D most_nesting i r) (reads-uses D most_nesting e q) (tidy-says n D E rest t)
  tidy-says n D E stmts (tests {n = m} {F = F} e {body = body} {rest = rest} r b t) =
      says-If P e body rest (reads-uses D most_nesting e r) (tidy-says m D F body b) (tidy-says (suc m) D E rest t)
  tidy-says n D E stmts (stops k e {rest = rest} lt r t) = says-Stop P k e rest (reads-uses D most_nesting e r) (tidy-says n D E rest t)
