-- Lines as their values: what a line was read as spells it, and a line that is not read spells nothing.
use Rattle.std.proofs.Common.{◌≡◌, ℕ, List, [], sym, ap, ◌∙◌}
use Rattle.text_lex.specs.declared.token.Token.{Token}
use Rattle.text_lex.specs.declared.token.LogicalLine.{LogicalLine}
use Rattle.line_reading.specs.LineLists.{IsReadFrom, IsBad}
use Rattle.line_reading.specs.Readings.{fails, reads, whole_line}
use Rattle.line_reading.proofs.TextLaws.{whole_took, whole_reads, no_fails, same_value}
use Rattle.ssl_syntax.specs.declared.line.SslLine.{SslLine}
use Rattle.ssl_syntax.specs.declared.line.SslBody.{SslBody}
use Rattle.ssl_syntax.specs.Lines.{body_toks, is_body}
use Rattle.ssl_syntax.specs.Texts.{spelled_line, is_line, LinesDiffer}
use Rattle.ssl_syntax.specs.LineReaders.{read_body}
use Rattle.ssl_syntax.proofs.LineReads.{body_reads}
use Rattle.ssl_syntax.proofs.LineSound.{body_sound}

pub value_read : (line : LogicalLine) (ts : List Token) (b : SslBody) (r : List Token) (value : SslLine) → ts ≡ line.tokens → whole_line read_body ts ≡ reads b r → value ≡ record { number = line.number; body = b } → IsReadFrom spelled_line is_line value line
value_read line ts b r value is h made =
    let t = whole_took read_body ts b r h in
    let s = body_sound ts b t.took in
    let toks : body_toks b ≡ line.tokens = sym s.spelled ∙ is in
    let same : spelled_line (record { number = line.number; body = b }) ≡ line = ap (λ us. line_of line.number us) toks in
    record { lined = ap spelled_line made ∙ same; parts = ap is_line made ∙ s.proper }
  where
    line_of : ℕ → List Token → LogicalLine
    line_of n us = record { number = n; tokens = us }

pub value_bad : (line : LogicalLine) (ts : List Token) (number : ℕ) → ts ≡ line.tokens → number ≡ line.number → whole_line read_body ts ≡ fails → IsBad spelled_line is_line number line
value_bad line ts number is n h = record {
  bad = record {
    never = λ v p e. no_fails v.body [] (sym (whole_reads read_body (body_toks v.body) v.body (body_reads v.body p.parts)) ∙ ap (whole_line read_body) (e ∙ sym is) ∙ h);
  };
  number_is = sym n;
}

pub lines_differ : LinesDiffer
lines_differ a b v w e = same_value a.body b.body (sym (body_reads a.body v.parts) ∙ ap read_body e ∙ body_reads b.body w.parts)

pub ruleset value_laws = (value_read, value_bad)
