-- Logical lines as line values.
use Rattle.std.proofs.Common.{◌≡◌, ℕ, List, [], sym, ap, ◌∙◌}
use Rattle.text_lex.specs.declared.token.Token.{Token}
use Rattle.text_lex.specs.declared.token.LogicalLine.{LogicalLine}
use Rattle.line_reading.specs.LineLists.{IsReadFrom, IsBad}
use Rattle.line_reading.specs.Readings.{fails, reads}
use Rattle.line_reading.proofs.TextLaws.{whole_took, whole_reads, no_fails, same_value}
use Rattle.conv_syntax.specs.declared.line.ConvBody.{ConvBody}
use Rattle.conv_syntax.specs.declared.line.ConvLine.{ConvLine}
use Rattle.conv_syntax.specs.Lines.{body_toks, is_body, spelled_line, is_line, LinesDiffer}
use Rattle.conv_syntax.specs.LineReaders.{read_body, read_line_only}
use Rattle.conv_syntax.proofs.LineReads.{body_reads}
use Rattle.conv_syntax.proofs.LineSound.{body_sound}

line_of : ℕ → List Token → LogicalLine
line_of n us = record { number = n; tokens = us }

pub value_read : (line : LogicalLine) (ts : List Token) (b : ConvBody) (r : List Token) (value : ConvLine) → ts ≡ line.tokens → read_line_only ts ≡ reads b r → value ≡ record { number = line.number; body = b } → IsReadFrom spelled_line is_line value line
unfolding line_of
value_read line ts b r value is h made =
    let s = body_sound ts b (whole_took read_body ts b r h).took in
    let toks : body_toks b ≡ line.tokens = sym s.spelled ∙ is in
    record { lined = ap spelled_line made ∙ ap (λ us. line_of line.number us) toks; parts = ap (λ v. is_body v.body) made ∙ s.proper }

pub value_bad : (line : LogicalLine) (ts : List Token) (number : ℕ) → ts ≡ line.tokens → number ≡ line.number → read_line_only ts ≡ fails → IsBad spelled_line is_line number line
value_bad line ts number is n h = record {
  bad = record {
    never = λ v proper e. no_fails v.body [] (sym (whole_reads read_body (body_toks v.body) v.body (body_reads v.body proper.parts)) ∙ ap read_line_only (e ∙ sym is) ∙ h);
  };
  number_is = sym n;
}

pub lines_differ : LinesDiffer
lines_differ a b v w e = same_value a.body b.body (sym (body_reads a.body v.parts) ∙ ap read_body e ∙ body_reads b.body w.parts)

pub ruleset value_laws = (value_read, value_bad)
