use Rattle.std.proofs.lemmas.Result.{on_ok_weaker, on_err_weaker}
use Rattle.std.proofs.Common.{arith}
use Rattle.std.specs.Fmt.{decimal}
use Rattle.c_text.proofs.WordTokens.{plain_token}
use Rattle.c_text.proofs.Written.{wrote_word, broke_word}
use Rattle.c_text.proofs.words.put_plain.Goals as goal

pub returns-clause-wrote : goal.returns-clause-wrote
returns-clause-wrote g c = on_ok_weaker c.put_decimal.result (wrote_word (decimal c.args.number) c.args.gap.now c.requires (plain_token c.args.number (omega arith))) c.put_decimal.ensures.took

pub returns-clause-broke : goal.returns-clause-broke
returns-clause-broke g c = on_err_weaker c.put_decimal.result (broke_word (decimal c.args.number) c.args.gap.now c.requires (plain_token c.args.number (omega arith))) c.put_decimal.ensures.part
