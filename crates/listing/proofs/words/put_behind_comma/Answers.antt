use Rattle.std.proofs.lemmas.Result.{on_err_weaker}
use Rattle.c_text.proofs.Written.{part_then}
use Rattle.listing.proofs.words.put_behind_comma.Goals as goal

pub returns-clause-part : goal.returns-clause-part
returns-clause-part g c = on_err_weaker c.put_number.result (part_then c.in_ok-put_bytes.ensures.took) c.put_number.ensures.part
