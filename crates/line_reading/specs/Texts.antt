-- What a text denotes, by how line values are spelled and which values are formed.
use Rattle.std.specs.Prelude.{◌≡◌, ℕ, Bool, true, List, ◌∷◌, ◌++◌, map, Ok, Err}
use Rattle.std.specs.List.{All}
use Rattle.text_lex.specs.declared.token.LogicalLine.{LogicalLine}
use Rattle.text_lex.specs.Faults.{lines}
use Rattle.line_reading.specs.declared.fault.SyntaxFault.{SyntaxFault}
use Rattle.line_reading.specs.declared.fault.SyntaxFault.TheVariants.{Lex, BadLine, NoMemory}
use Rattle.line_reading.specs.Spelling.{IsWritten}

-- A line value: its parts are such, its names are names, and its numbers fit.
pub record IsLineValue {V : Type 0} (spelled : V → LogicalLine) (formed : V → Bool) (value : V) : Type 0 where
  pub parts : formed value ≡ true
  pub written : All IsWritten (spelled value).tokens

-- the tokens of the k-th logical line are the spelling of the k-th value
pub record Denotes {V : Type 0} (spelled : V → LogicalLine) (formed : V → Bool) (text : List ℕ) (values : List V) : Type 0 where
  pub lined : lines text ≡ Ok (map spelled values)
  pub proper : All (IsLineValue spelled formed) values

-- no line value is spelled by this line
pub record HasNoForm {V : Type 0} (spelled : V → LogicalLine) (formed : V → Bool) (line : LogicalLine) : Type 0 where
  pub never : (value : V) → IsLineValue spelled formed value → (spelled value).tokens ≡ line.tokens → ⊥

-- the first line that spells no line value has this number
pub record IsBadLine {V : Type 0} (spelled : V → LogicalLine) (formed : V → Bool) (text : List ℕ) (number : ℕ) : Type 0 where
  pub before : List V
  pub line : LogicalLine
  pub behind : List LogicalLine
  pub split : lines text ≡ Ok (map spelled before ++ line ∷ behind)
  pub proper : All (IsLineValue spelled formed) before
  pub bad : HasNoForm spelled formed line
  pub number_is : line.number ≡ number

-- the fault is that of the text, or memory ran out
abbrev pub IsFault : {V : Type 0} → (V → LogicalLine) → (V → Bool) → List ℕ → SyntaxFault → Type 0
IsFault spelled formed text (Lex fault) = lines text ≡ Err fault
IsFault spelled formed text (BadLine number) = IsBadLine spelled formed text number
IsFault spelled formed text NoMemory = Unit {0}
