-- What the code keeps while it reads, as logical lines.
use Rattle.std.specs.Prelude.{◌≡◌, ℕ, min, List, [], ◌∷◌, length, map, Option, Some, None, if◌then◌else◌, nat_lt}
use Rattle.text_lex.specs.declared.reading.Reading.{Reading}
use Rattle.text_lex.specs.Lines.{Line}
use Rattle.text_lex.specs.Faults.{is_long, first_where, tokens_at}

-- the first of two, where it is there
abbrev pub first_of : Option ℕ → Option ℕ → Option ℕ
first_of None o = o
first_of (Some n) o = Some n

-- the number of a line, where it has too many bytes
abbrev pub long_at : ℕ → ℕ → Option ℕ
long_at n len = if nat_lt 65535 len then Some n else None

-- how many bytes the last line has
abbrev pub last_len : List Line → ℕ
last_len [] = 0
last_len (line ∷ []) = length line.bytes
last_len (line ∷ next ∷ lines) = last_len (next ∷ lines)

-- these are the lines that were read
pub record Shows (reading : Reading) (lines : List Line) : Type 0 where
  pub tokens : reading.lines.items ≡ map tokens_at lines
  pub last : reading.last_len ≡ min (last_len lines) 65536
  pub long : reading.long ≡ first_where is_long lines
