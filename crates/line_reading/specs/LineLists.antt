-- What the code reads of lines whose tokens it has.
use Rattle.std.specs.Prelude.{◌≡◌, ℕ, Bool, true, List, ◌∷◌, ◌++◌, map}
use Rattle.std.specs.List.{All}
use Rattle.text_lex.specs.declared.token.LexFault.{LexFault}
use Rattle.text_lex.specs.declared.token.LexFault.TheVariants as lexical
use Rattle.text_lex.specs.declared.token.LogicalLine.{LogicalLine}
use Rattle.line_reading.specs.declared.fault.SyntaxFault.{SyntaxFault}
use Rattle.line_reading.specs.declared.fault.SyntaxFault.TheVariants.{Lex, BadLine, NoMemory}
use Rattle.line_reading.specs.Texts.{HasNoForm}

-- the value was read from this line
pub record IsReadFrom {V : Type 0} (spelled : V → LogicalLine) (formed : V → Bool) (value : V) (line : LogicalLine) : Type 0 where
  pub lined : spelled value ≡ line
  pub parts : formed value ≡ true

-- the line has no form, and the fault has its number
pub record IsBad {V : Type 0} (spelled : V → LogicalLine) (formed : V → Bool) (number : ℕ) (line : LogicalLine) : Type 0 where
  pub bad : HasNoForm spelled formed line
  pub number_is : line.number ≡ number

-- the fault of a line
abbrev pub IsLineFault : {V : Type 0} → (V → LogicalLine) → (V → Bool) → SyntaxFault → LogicalLine → Type 0
IsLineFault spelled formed (Lex fault) line = ⊥
IsLineFault spelled formed (BadLine number) line = IsBad spelled formed number line
IsLineFault spelled formed NoMemory line = Unit {0}

-- the values were read from these lines
pub record AreRead {V : Type 0} (spelled : V → LogicalLine) (formed : V → Bool) (values : List V) (found : List LogicalLine) : Type 0 where
  pub lined : found ≡ map spelled values
  pub parts : All (λ value. formed value ≡ true) values

-- the first line without a form has this number
pub record IsFirstBad {V : Type 0} (spelled : V → LogicalLine) (formed : V → Bool) (number : ℕ) (found : List LogicalLine) : Type 0 where
  pub before : List V
  pub line : LogicalLine
  pub behind : List LogicalLine
  pub split : found ≡ map spelled before ++ line ∷ behind
  pub parts : All (λ value. formed value ≡ true) before
  pub bad : IsBad spelled formed number line

-- the fault of several lines
abbrev pub AreFaulty : {V : Type 0} → (V → LogicalLine) → (V → Bool) → SyntaxFault → List LogicalLine → Type 0
AreFaulty spelled formed (Lex fault) found = ⊥
AreFaulty spelled formed (BadLine number) found = IsFirstBad spelled formed number found
AreFaulty spelled formed NoMemory found = Unit {0}

-- a fault of the lines of a text becomes one of its form
abbrev pub Passes : LexFault → SyntaxFault → Type 0
Passes lexical.NoMemory fault = fault ≡ NoMemory
Passes found fault = fault ≡ Lex found
