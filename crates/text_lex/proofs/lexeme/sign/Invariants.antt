use Rattle.std.proofs.Common.{◌≡◌, ◌<◌, ◌≤◌, length}
use Rattle.scan.specs.Scan.{longest, front}
use Rattle.text_lex.specs.Tokens.{token_of}
use Rattle.text_lex.proofs.lexeme.sign.Given as goal

abbrev pub invariant-loop-len : goal.invariant-loop-len
invariant-loop-len l = record { some : 0 < l.len; within : l.len ≤ length l.text; shorter : front token_of l.text ≡ longest token_of l.len l.text }

abbrev pub decreases-loop-len : goal.decreases-loop-len
decreases-loop-len l = l.len
