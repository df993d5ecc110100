-- What three texts describe, and the first fault of texts that describe nothing.
use Rattle.std.specs.Prelude.{◌≡◌, ℕ, List, Ok, Err}
use Rattle.text_lex.specs.Faults.{lines}
use Rattle.line_reading.specs.declared.fault.SyntaxFault.{SyntaxFault}
use Rattle.line_reading.specs.declared.fault.SyntaxFault.TheVariants as form
use Rattle.line_reading.specs.Texts.{Denotes, IsBadLine}
use Rattle.rtl_core.specs.declared.conv.Conv.{Conv}
use Rattle.rtl_core.specs.declared.encodings.Encodings.{Encodings}
use Rattle.rtl_core.specs.declared.machine.NamedMachine.{NamedMachine}
use Rattle.sled_syntax.specs.declared.line.SledLine.{SledLine}
use Rattle.sled_syntax.specs.Lines as sled
use Rattle.sled_rules.specs.declared.fault.SledFault.{SledFault}
use Rattle.sled_rules.specs.Normal as encodings
use Rattle.ssl_syntax.specs.declared.line.SslLine.{SslLine}
use Rattle.ssl_syntax.specs.Texts as ssl
use Rattle.ssl_rules.specs.declared.fault.SslFault.{SslFault}
use Rattle.ssl_rules.specs.Machines as machine
use Rattle.conv_syntax.specs.declared.line.ConvLine.{ConvLine}
use Rattle.conv_syntax.specs.Lines as conv
use Rattle.conventions.specs.declared.fault.ConvFault.{ConvFault}
use Rattle.conventions.specs.Normal as conventions
use Rattle.descriptions.specs.declared.described.Described.{Described}
use Rattle.descriptions.specs.declared.fault.DescFault.{DescFault}
use Rattle.descriptions.specs.declared.fault.DescFault.TheVariants.{Lex, BadLine, Sled, Ssl, Conv as InConv}
use Rattle.descriptions.specs.declared.fault.Undescribed.{Undescribed}
use Rattle.descriptions.specs.declared.fault.Undescribed.TheVariants as undescribed
use Rattle.descriptions.specs.declared.fault.OneStop.{OneStop}
use Rattle.descriptions.specs.declared.fault.OneStop.TheVariants as stop

-- ---- what is described

-- the text denotes lines, and these are their encodings
pub record AreEncodingsOf (text : List ℕ) (enc : Encodings) : Type 0 where
  pub lines_of : List SledLine
  pub denoted : Denotes sled.spelled_line sled.is_line text lines_of
  pub normal : encodings.normal lines_of ≡ Ok enc

-- the text denotes lines, and this is their machine
pub record IsMachineOf (enc : Encodings) (text : List ℕ) (named : NamedMachine) : Type 0 where
  pub lines_of : List SslLine
  pub denoted : Denotes ssl.spelled_line ssl.is_line text lines_of
  pub normal : machine.normal enc lines_of ≡ Ok named

-- the text denotes lines, and these are their conventions
pub record AreConventionsOf (enc : Encodings) (named : NamedMachine) (text : List ℕ) (c : Conv) : Type 0 where
  pub lines_of : List ConvLine
  pub denoted : Denotes conv.spelled_line conv.is_line text lines_of
  pub normal : conventions.normal enc named lines_of ≡ Ok c

-- three texts describe this machine
pub record Describe (sled_text ssl_text conv_text : List ℕ) (d : Described) : Type 0 where
  pub encodings : AreEncodingsOf sled_text d.encodings
  pub machine : IsMachineOf d.encodings ssl_text d.named
  pub conventions : AreConventionsOf d.encodings d.named conv_text d.conv

-- ---- faults

-- the lines that the text denotes have this first fault
pub record HasSledFault (text : List ℕ) (fault : SledFault) : Type 0 where
  pub lines_of : List SledLine
  pub denoted : Denotes sled.spelled_line sled.is_line text lines_of
  pub first : encodings.normal lines_of ≡ Err fault

pub record HasSslFault (enc : Encodings) (text : List ℕ) (fault : SslFault) : Type 0 where
  pub lines_of : List SslLine
  pub denoted : Denotes ssl.spelled_line ssl.is_line text lines_of
  pub first : machine.normal enc lines_of ≡ Err fault

pub record HasConvFault (enc : Encodings) (named : NamedMachine) (text : List ℕ) (fault : ConvFault) : Type 0 where
  pub lines_of : List ConvLine
  pub denoted : Denotes conv.spelled_line conv.is_line text lines_of
  pub first : conventions.normal enc named lines_of ≡ Err fault

-- the first fault of a description of encodings
abbrev pub IsSledFault : List ℕ → DescFault → Type 0
IsSledFault text (Lex fault) = lines text ≡ Err fault
IsSledFault text (BadLine line) = IsBadLine sled.spelled_line sled.is_line text line
IsSledFault text (Sled fault) = HasSledFault text fault
IsSledFault text _ = ⊥

-- the first fault of a description of instructions
abbrev pub IsSslFault : Encodings → List ℕ → DescFault → Type 0
IsSslFault enc text (Lex fault) = lines text ≡ Err fault
IsSslFault enc text (BadLine line) = IsBadLine ssl.spelled_line ssl.is_line text line
IsSslFault enc text (Ssl fault) = HasSslFault enc text fault
IsSslFault enc text _ = ⊥

-- the first fault of a convention file
abbrev pub IsConvFault : Encodings → NamedMachine → List ℕ → DescFault → Type 0
IsConvFault enc named text (Lex fault) = lines text ≡ Err fault
IsConvFault enc named text (BadLine line) = IsBadLine conv.spelled_line conv.is_line text line
IsConvFault enc named text (InConv fault) = HasConvFault enc named text fault
IsConvFault enc named text _ = ⊥

-- the encodings are described, and the instructions have this first fault
pub record AreNoInstructions (sled_text ssl_text : List ℕ) (fault : DescFault) : Type 0 where
  pub enc : Encodings
  pub encodings : AreEncodingsOf sled_text enc
  pub first : IsSslFault enc ssl_text fault

-- encodings and instructions are described, and the convention file has this first fault
pub record AreNoConventions (sled_text ssl_text conv_text : List ℕ) (fault : DescFault) : Type 0 where
  pub enc : Encodings
  pub named : NamedMachine
  pub encodings : AreEncodingsOf sled_text enc
  pub machine : IsMachineOf enc ssl_text named
  pub first : IsConvFault enc named conv_text fault

-- the first text with a fault, and its first fault; or memory ran out
abbrev pub IsUndescribed : List ℕ → List ℕ → List ℕ → Undescribed → Type 0
IsUndescribed sled_text ssl_text conv_text (undescribed.Sled fault) = IsSledFault sled_text fault
IsUndescribed sled_text ssl_text conv_text (undescribed.Ssl fault) = AreNoInstructions sled_text ssl_text fault
IsUndescribed sled_text ssl_text conv_text (undescribed.Conv fault) = AreNoConventions sled_text ssl_text conv_text fault
IsUndescribed sled_text ssl_text conv_text undescribed.NoMemory = Unit {0}

-- ---- one text alone

-- what stopped the reading of one text: its first fault, or memory ran out
abbrev pub StoppedBy : (DescFault → Type 0) → OneStop → Type 0
StoppedBy first (stop.Fault fault) = first fault
StoppedBy first stop.NoMemory = Unit {0}

-- a fault of form, as what stopped the reading
abbrev pub IsOfForm : SyntaxFault → OneStop → Type 0
IsOfForm (form.Lex fault) s = s ≡ stop.Fault (Lex fault)
IsOfForm (form.BadLine line) s = s ≡ stop.Fault (BadLine line)
IsOfForm form.NoMemory s = s ≡ stop.NoMemory
