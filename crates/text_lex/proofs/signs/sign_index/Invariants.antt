use Rattle.std.proofs.Common.{◌≡◌, drop}
use Rattle.std.specs.List.{position_from}
use Rattle.std.specs.Str.{bytes_eq}
use Rattle.text_lex.specs.Tokens.{signs}
use Rattle.text_lex.proofs.signs.sign_index.Given as goal

abbrev pub invariant-loop-index : goal.invariant-loop-index
invariant-loop-index l = position_from (λ s. bytes_eq s l.word) 0 signs ≡ position_from (λ s. bytes_eq s l.word) l.index (drop l.index signs)
