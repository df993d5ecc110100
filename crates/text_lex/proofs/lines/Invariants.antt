use Rattle.std.proofs.Common.{◌+◌, ◌≤◌, length}
use Rattle.text_lex.specs.Lines.{numbered, physical_lines}
use Rattle.text_lex.proofs.Passes.{Passes}
use Rattle.text_lex.proofs.lines.Given as goal

abbrev pub invariant-pass : goal.invariant-pass
invariant-pass l = record { numbers : l.number + length l.rest ≤ 1 + length l.text; passes : Passes l.text l.reading l.bad (numbered l.number (physical_lines l.rest)) }

abbrev pub decreases-pass : goal.decreases-pass
decreases-pass l = length l.rest
