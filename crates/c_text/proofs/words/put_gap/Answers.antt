use Rattle.std.proofs.lemmas.Result.{on_ok_weaker, on_err_weaker}
use Rattle.c_text.proofs.Written.{wrote_gap, broke_gap}
use Rattle.c_text.proofs.words.put_gap.Goals as goal

pub returns-clause-wrote : goal.returns-clause-wrote
returns-clause-wrote g c = on_ok_weaker c.put_bytes.result (wrote_gap c.args.gap.now c.requires) c.put_bytes.ensures.took

pub returns-clause-broke : goal.returns-clause-broke
returns-clause-broke g c = on_err_weaker c.put_bytes.result (broke_gap c.args.gap.now c.requires) c.put_bytes.ensures.part
