-- What a text denotes: its logical lines with their tokens, or its one lexical fault.
use Rattle.std.specs.Prelude.{◌≡◌, ℕ, not, Bool, List, [], ◌∷◌, length, map, Option, Some, None, Result, Ok, Err, if◌then◌else◌, nat_lt, nat_le}
use Rattle.std.specs.List.{list_all}
use Rattle.text_lex.specs.declared.token.LogicalLine.{LogicalLine}
use Rattle.text_lex.specs.declared.token.LexFault.{LexFault}
use Rattle.text_lex.specs.declared.token.LexFault.TheVariants.{BadByte, LongLine, ManyLines, NoMemory}
use Rattle.text_lex.specs.Bytes.{is_plain}
use Rattle.text_lex.specs.Tokens.{tokens_of}
use Rattle.text_lex.specs.Lines.{Line, contents_of, logical_lines}

-- a byte stands in the line that may not
abbrev pub is_bad : Line → Bool
is_bad line = not (list_all is_plain line.bytes)

-- the line has more than 65,535 bytes
abbrev pub is_long : Line → Bool
is_long line = nat_lt 65535 (length line.bytes)

-- the number of the first line that passes
abbrev pub first_where : (Line → Bool) → List Line → Option ℕ
first_where p [] = None
first_where p (line ∷ lines) = if p line then Some line.number else first_where p lines

-- the fault of the least line, by the first bad line, the first long line and the number of lines
abbrev pub least_fault : Option ℕ → Option ℕ → ℕ → Option LexFault
least_fault None None count = if nat_lt 65535 count then Some ManyLines else None
least_fault (Some bad) None count = Some (BadByte bad)
least_fault None (Some long) count = Some (LongLine long)
least_fault (Some bad) (Some long) count = if nat_le bad long then Some (BadByte bad) else Some (LongLine long)

-- the lexical fault of a text, if it has one
abbrev pub fault_of : List ℕ → Option LexFault
fault_of text = least_fault (first_where is_bad (contents_of text)) (first_where is_long (logical_lines text)) (length (logical_lines text))

-- a logical line as its tokens
abbrev pub tokens_at : Line → LogicalLine
tokens_at line = record { number = line.number; tokens = tokens_of line.bytes }

-- the lines, where there is no fault
abbrev pub unless : Option LexFault → List LogicalLine → Result (List LogicalLine) LexFault
unless None found = Ok found
unless (Some fault) found = Err fault

-- what a text denotes
abbrev pub lines : List ℕ → Result (List LogicalLine) LexFault
lines text = unless (fault_of text) (map tokens_at (logical_lines text))

-- the fault is what the text denotes, or memory ran out
abbrev pub IsFault : LexFault → Result (List LogicalLine) LexFault → Type 0
IsFault NoMemory denoted = Unit {0}
IsFault (BadByte n) denoted = denoted ≡ Err (BadByte n)
IsFault (LongLine n) denoted = denoted ≡ Err (LongLine n)
IsFault ManyLines denoted = denoted ≡ Err ManyLines
