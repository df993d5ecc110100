use Rattle.std.proofs.lemmas.Result.{on_ok_weaker, on_err_weaker}
use Rattle.std.proofs.Common.{refl, ◌∷◌, []}
use Rattle.c_text.proofs.WordTokens.{sign_token}
use Rattle.c_text.proofs.Written.{wrote_word, broke_word}
use Rattle.c_text.proofs.words.put_sign.Goals as goal

pub returns-clause-wrote : goal.returns-clause-wrote
returns-clause-wrote g c = on_ok_weaker c.put_both.result (wrote_word c.args.bytes.now (32 ∷ []) refl (sign_token c.args.bytes.now c.requires)) c.put_both.ensures.took

pub returns-clause-broke : goal.returns-clause-broke
returns-clause-broke g c = on_err_weaker c.put_both.result (broke_word c.args.bytes.now (32 ∷ []) refl (sign_token c.args.bytes.now c.requires)) c.put_both.ensures.part
