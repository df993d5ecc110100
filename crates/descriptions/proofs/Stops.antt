-- What stops the reading of a text by its form, and what its line values are.
use Rattle.std.proofs.Common.{◌≡◌, ℕ, Bool, true, List, Err, sym, subst}
use Rattle.std.specs.List.{All}
use Rattle.std.proofs.lemmas.List.Elements.{All-weaker}
use Rattle.text_lex.specs.declared.token.LexFault.{LexFault}
use Rattle.text_lex.specs.declared.token.LogicalLine.{LogicalLine}
use Rattle.text_lex.specs.Faults.{lines}
use Rattle.line_reading.specs.declared.fault.SyntaxFault.{SyntaxFault}
use Rattle.line_reading.specs.declared.fault.SyntaxFault.TheVariants as form
use Rattle.line_reading.specs.Texts.{IsFault, IsBadLine, IsLineValue, Denotes}
use Rattle.rtl_core.specs.declared.encodings.Encodings.{Encodings}
use Rattle.rtl_core.specs.declared.machine.NamedMachine.{NamedMachine}
use Rattle.sled_syntax.specs.declared.line.SledLine.{SledLine}
use Rattle.sled_syntax.specs.Lines as sled
use Rattle.ssl_syntax.specs.declared.line.SslLine.{SslLine}
use Rattle.ssl_syntax.specs.Texts as ssl
use Rattle.conv_syntax.specs.Lines as conv
use Rattle.descriptions.specs.declared.fault.DescFault.{DescFault}
use Rattle.descriptions.specs.declared.fault.DescFault.TheVariants.{Lex, BadLine}
use Rattle.descriptions.specs.declared.fault.OneStop.{OneStop}
use Rattle.descriptions.specs.Accepted.{IsSledFault, IsSslFault, IsConvFault, StoppedBy, IsOfForm}

module _ {V : Type 0} (spelled : V → LogicalLine) (formed : V → Bool) (text : List ℕ) (first : DescFault → Type 0)
    (lexical : (f : LexFault) → lines text ≡ Err f → first (Lex f)) (bad : (n : ℕ) → IsBadLine spelled formed text n → first (BadLine n)) where
  stopped : (fault : SyntaxFault) (s : OneStop) → IsFault spelled formed text fault → IsOfForm fault s → StoppedBy first s
  stopped (form.Lex f) s h e = subst (StoppedBy first) (sym e) (lexical f h)
  stopped (form.BadLine n) s h e = subst (StoppedBy first) (sym e) (bad n h)
  stopped form.NoMemory s h e = subst (StoppedBy first) (sym e) tt

pub sled_stopped : (text : List ℕ) (fault : SyntaxFault) (s : OneStop) → IsFault sled.spelled_line sled.is_line text fault → IsOfForm fault s → StoppedBy (IsSledFault text) s
sled_stopped text = stopped sled.spelled_line sled.is_line text (IsSledFault text) (λ f h. h) (λ n h. h)

pub ssl_stopped : (enc : Encodings) (text : List ℕ) (fault : SyntaxFault) (s : OneStop) → IsFault ssl.spelled_line ssl.is_line text fault → IsOfForm fault s → StoppedBy (IsSslFault enc text) s
ssl_stopped enc text = stopped ssl.spelled_line ssl.is_line text (IsSslFault enc text) (λ f h. h) (λ n h. h)

pub conv_stopped : (enc : Encodings) (named : NamedMachine) (text : List ℕ) (fault : SyntaxFault) (s : OneStop) → IsFault conv.spelled_line conv.is_line text fault → IsOfForm fault s → StoppedBy (IsConvFault enc named text) s
conv_stopped enc named text = stopped conv.spelled_line conv.is_line text (IsConvFault enc named text) (λ f h. h) (λ n h. h)

-- the lines that a text denotes are line values
pub sled_values : (text : List ℕ) (values : List SledLine) → Denotes sled.spelled_line sled.is_line text values → All sled.IsSledLine values
sled_values text values denoted = denoted.proper

pub ssl_values : (text : List ℕ) (values : List SslLine) → Denotes ssl.spelled_line ssl.is_line text values → All (λ value. ssl.is_line value ≡ true) values
ssl_values text values denoted = All-weaker (IsLineValue ssl.spelled_line ssl.is_line) (λ value. ssl.is_line value ≡ true) (λ value h. h.parts) values denoted.proper
