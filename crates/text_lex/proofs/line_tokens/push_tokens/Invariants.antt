use Rattle.std.proofs.Common.{◌≡◌, ◌++◌, length}
use Rattle.text_lex.specs.Tokens.{tokens_of}
use Rattle.text_lex.proofs.line_tokens.push_tokens.Given as goal

abbrev pub invariant-loop-rest : goal.invariant-loop-rest
invariant-loop-rest l = l.initial.out ++ tokens_of l.text ≡ l.out ++ tokens_of l.rest

abbrev pub decreases-loop-rest : goal.decreases-loop-rest
decreases-loop-rest l = length l.rest
