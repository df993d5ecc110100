use Rattle.std.proofs.Common.{ap, ◌∙◌}
use Rattle.std.specs.List.{list_all}
use Rattle.c_text.specs.Tokens.{is_word}
use Rattle.c_text.proofs.WordTokens.{hex_words}
use Rattle.c_text.proofs.names.put_function.Goals as goal

pub put_joined-requires-clause-back : goal.put_joined-requires-clause-back
put_joined-requires-clause-back g c = ap (list_all is_word) c.hex_of.ensures ∙ hex_words c.args.entry
