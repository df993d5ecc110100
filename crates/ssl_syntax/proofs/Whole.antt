-- Expressions by themselves: each is read from its tokens, and from these alone.
use Rattle.std.proofs.Common.{◌≡◌, ℕ, ◌+◌, ◌<◌, ◌≤◌, true, List, [], ◌++◌, refl, sym, ap, ◌∙◌, arith}
use Rattle.std.specs.Prelude.{nat_le}
use Rattle.std.proofs.lemmas.Bool.{and_parts, le-leb, leb-true}
use Rattle.std.proofs.lemmas.List.{append-nil}
use Rattle.text_lex.specs.declared.token.Token.{Token}
use Rattle.line_reading.specs.Readings.{fails, reads, whole_line}
use Rattle.line_reading.proofs.TextLaws.{whole_took, whole_reads, no_fails, same_value}
use Rattle.ssl_syntax.specs.declared.line.SslExpr.{SslExpr}
use Rattle.ssl_syntax.specs.Expressions.{expr_toks, is_formed, depth, is_expr}
use Rattle.ssl_syntax.specs.ExprReaders.{read_expr}
use Rattle.ssl_syntax.specs.Spells.{Spells, SpellsNone, HasOneSpelling}
use Rattle.ssl_syntax.proofs.Ends.{at_end}
use Rattle.ssl_syntax.proofs.ExprReads.{reading}
use Rattle.ssl_syntax.proofs.ExprSound.{Proper, expr_sound}

expr_from_proper : (e : SslExpr) → Proper 2001 e → is_expr e ≡ true
unfolding is_expr
expr_from_proper e p =
    let d = p.shallow in
    let l : depth e ≤ 2000 = omega arith in
    rw (p.formed, le-leb (depth e) 2000 l) refl

whole_read : (e : SslExpr) (ts : List Token) → Spells e ts → read_expr 2001 ts ≡ reads e []
unfolding is_expr
whole_read e ts s =
    let p = and_parts (is_formed e) (nat_le (depth e) 2000) s.proper in
    let d : depth e ≤ 2000 = leb-true (depth e) 2000 p.1 in
    ap (read_expr 2001) (s.spelled ∙ sym (append-nil (expr_toks e))) ∙ reading e 2001 [] p.0 (omega arith) at_end

pub only_found : (ts : List Token) (e : SslExpr) (r : List Token) → whole_line (read_expr 2001) ts ≡ reads e r → Spells e ts
only_found ts e r h =
    let t = whole_took (read_expr 2001) ts e r h in
    let s = (expr_sound 2001).shown ts e [] t.took in
    record { spelled = s.spelled ∙ append-nil (expr_toks e); proper = expr_from_proper e s.proper }

pub only_none : (ts : List Token) → whole_line (read_expr 2001) ts ≡ fails → SpellsNone ts
only_none ts h = record { never = λ e s. no_fails e [] (sym (whole_reads (read_expr 2001) ts e (whole_read e ts s)) ∙ h) }

pub one_spelling : HasOneSpelling
one_spelling a b ts s t = same_value a b (sym (whole_read a ts s) ∙ whole_read b ts t)

pub ruleset whole_laws = (only_found, only_none)
