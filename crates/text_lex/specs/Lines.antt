-- The logical lines of a description.
use Rattle.std.specs.Prelude.{ℕ, ◌+◌, ◌==◌, ◌&&◌, not, Bool, false, List, [], ◌∷◌, ◌++◌, if◌then◌else◌}
use Rattle.std.specs.List.{list_all, take_while, fold}
use Rattle.text_lex.specs.Bytes.{is_blank}

-- a line, with the number of its first physical line
pub record Line : Type 0 where
  pub number : ℕ
  pub bytes : List ℕ

abbrev pub begins_with : (ℕ → Bool) → List ℕ → Bool
begins_with p [] = false
begins_with p (b ∷ bs) = p b

-- a byte more at the front of the first line
abbrev pub onto_first : ℕ → List (List ℕ) → List (List ℕ)
onto_first b [] = []
onto_first b (line ∷ lines) = (b ∷ line) ∷ lines

-- The physical lines. A line feed ends one, and a carriage return just before it belongs to the end.
unfoldable pub physical_lines : List ℕ → List (List ℕ)
physical_lines [] = [] ∷ []
physical_lines (b ∷ bs) =
    if b == 10 then [] ∷ physical_lines bs
    else (if (b == 13) && begins_with (λ next. next == 10) bs then physical_lines bs
    else onto_first b (physical_lines bs))

-- what stands before the first `#`
abbrev pub uncommented : List ℕ → List ℕ
uncommented line = take_while (λ b. not (b == 35)) line

abbrev pub line_at : ℕ → List ℕ → Line
line_at n bytes = record { number = n; bytes = bytes }

-- the lines without their comments, numbered from n on
abbrev pub numbered : ℕ → List (List ℕ) → List Line
numbered n [] = []
numbered n (line ∷ lines) = line_at n (uncommented line) ∷ numbered (n + 1) lines

-- what the physical lines of a text hold, numbered from 1 on
abbrev pub contents_of : List ℕ → List Line
contents_of text = numbered 1 (physical_lines text)

-- the last line goes on with this one, joined by one blank; where there is none, this one is the first
abbrev pub continued : List Line → Line → List Line
continued [] more = more ∷ []
continued (last ∷ []) more = line_at last.number (last.bytes ++ 32 ∷ more.bytes) ∷ []
continued (line ∷ next ∷ lines) more = line ∷ continued (next ∷ lines) more

-- the logical lines with one physical line more: blanks alone are nothing, and a line that starts with a blank goes on
abbrev pub with_line : List Line → Line → List Line
with_line lines more =
    if list_all is_blank more.bytes then lines
    else (if begins_with is_blank more.bytes then continued lines more
    else lines ++ more ∷ [])

-- the logical lines of a text
abbrev pub logical_lines : List ℕ → List Line
logical_lines text = fold with_line [] (contents_of text)
