use Rattle.std.proofs.lemmas.Result.{on_ok_weaker, on_err_weaker}
use Rattle.c_text.proofs.WordTokens.{name_token}
use Rattle.c_text.proofs.Written.{wrote_word, broke_word}
use Rattle.c_text.proofs.words.put_name.Goals as goal

pub returns-clause-wrote : goal.returns-clause-wrote
returns-clause-wrote g c = on_ok_weaker c.put_both.result (wrote_word c.args.letters.now c.args.gap.now c.requires.gap (name_token c.args.letters.now c.requires.letters)) c.put_both.ensures.took

pub returns-clause-broke : goal.returns-clause-broke
returns-clause-broke g c = on_err_weaker c.put_both.result (broke_word c.args.letters.now c.args.gap.now c.requires.gap (name_token c.args.letters.now c.requires.letters)) c.put_both.ensures.part
