-- The loop over the physical lines.
use Rattle.std.proofs.Common.{◌≡◌, ℕ, List, Option}
use Rattle.std.specs.List.{fold}
use Rattle.text_lex.specs.declared.reading.Reading.{Reading}
use Rattle.text_lex.specs.Lines.{Line, contents_of, logical_lines, with_line}
use Rattle.text_lex.specs.Faults.{first_where, is_bad}
use Rattle.text_lex.specs.Readings.{Shows, first_of}

-- what was read so far, with the lines that are left, comes to the whole
pub record Passes (text : List ℕ) (reading : Reading) (bad : Option ℕ) (left : List Line) : Type 0 where
  pub so_far : List Line
  pub shows : Shows reading so_far
  pub all_lines : fold with_line so_far left ≡ logical_lines text
  pub first_bad : first_of bad (first_where is_bad left) ≡ first_where is_bad (contents_of text)
