use Rattle.std.proofs.Common.{sym, ◌∙◌}
use Rattle.text_lex.proofs.Fronts.{name_front}
use Rattle.text_lex.proofs.lexeme.front.Goals as goal

pub returns-then-is_letter : goal.returns-then-is_letter
returns-then-is_letter c = name_front c.args.text.now c.name_len.result c.requires.some (sym c.is_letter.ensures ∙ c.if-is_letter.true) c.name_len.ensures
