-- The loop over the expressions of a list.
use Rattle.std.proofs.Common.{◌≡◌, ℕ, ◌<◌, length, true, false, List, [], ◌∷◌, ◌++◌, Err, sym, ap, ◌∙◌, subst}
use Rattle.text_lex.specs.declared.token.Token.{Token}
use Rattle.ssl_syntax.specs.declared.line.SslExpr.{SslExpr}
use Rattle.line_reading.specs.declared.stop.Stop.{Stop}
use Rattle.line_reading.specs.Signs.{comma}
use Rattle.line_reading.specs.Readings.{fails, reads, Told, begins, without, items}
use Rattle.ssl_syntax.specs.ExprReaders.{read_expr}
use Rattle.line_reading.proofs.Loops.{Going, item_falls, go_first, go_on, go_end, go_stops, first_stops, behind_sign, no_sign}
use Rattle.ssl_syntax.proofs.ExprSound.{expr_shorter}

pub expr_first : (n : ℕ) (whole : List Token) (x : SslExpr) (out : List SslExpr) (ts : List Token) → read_expr n whole ≡ reads x ts → out ≡ x ∷ [] → Going comma (read_expr n) whole out ts
expr_first n whole x out ts h is = go_first comma (read_expr n) whole x out ts h is

pub expr_on : (n : ℕ) (whole : List Token) (out new : List SslExpr) (ts more : List Token) (x : SslExpr) (mid : List Token) → Going comma (read_expr n) whole out ts → more ≡ without comma ts → begins comma ts ≡ true → read_expr n more ≡ reads x mid → new ≡ out ++ x ∷ [] → Going comma (read_expr n) whole new mid
expr_on n whole out new ts more x mid g behind b h is = go_on comma (read_expr n) whole out new ts x mid (expr_shorter n) g b (ap (read_expr n) (sym (behind_sign comma ts more behind b)) ∙ h) is

pub expr_end : (n : ℕ) (whole : List Token) (out : List SslExpr) (ts more : List Token) → Going comma (read_expr n) whole out ts → more ≡ without comma ts → begins comma ts ≡ false → items comma (read_expr n) whole ≡ reads out more
expr_end n whole out ts more g behind b = go_end comma (read_expr n) whole out ts g b ∙ ap (λ m. reads out m) (sym (no_sign comma ts more behind b))

pub expr_stops : (n : ℕ) (whole : List Token) (out : List SslExpr) (ts behind : List Token) (stop : Stop) (rest more : List Token) → Going comma (read_expr n) whole out ts → behind ≡ without comma ts → begins comma ts ≡ true → Told {A = SslExpr} (Err stop) rest (read_expr n behind) → Told {A = List SslExpr} (Err stop) more (items comma (read_expr n) whole)
expr_stops n whole out ts behind stop rest more g is b h =
    go_stops comma (read_expr n) whole out ts stop rest more g b (subst (λ us. Told {A = SslExpr} (Err stop) rest (read_expr n us)) (behind_sign comma ts behind is b) h)

pub expr_first_stops : (n : ℕ) (whole : List Token) (stop : Stop) (rest more : List Token) → Told {A = SslExpr} (Err stop) rest (read_expr n whole) → Told {A = List SslExpr} (Err stop) more (items comma (read_expr n) whole)
expr_first_stops n whole stop rest more h = first_stops comma (read_expr n) whole stop rest more h

pub expr_falls : (n : ℕ) (ts more : List Token) (x : SslExpr) (mid : List Token) → more ≡ without comma ts → begins comma ts ≡ true → read_expr n more ≡ reads x mid → length mid < length ts
expr_falls n ts more x mid behind b h = item_falls comma (read_expr n) ts more x mid (expr_shorter n) behind b h

pub ruleset loop_laws = (expr_first, expr_on, expr_end, expr_stops, expr_first_stops)
