use Rattle.std.proofs.Common.{◌++◌}
use Rattle.std.specs.Prelude.{codes}
use Rattle.std.proofs.lemmas.Result.{on_err_weaker}
use Rattle.c_text.specs.Words.{hex}
use Rattle.c_text.proofs.Written.{part_here, part_then, any_err}
use Rattle.c_text.proofs.names.put_call_slot.Goals as goal

pub returns-in_err-put_both-clause-part : goal.returns-in_err-put_both-clause-part
returns-in_err-put_both-clause-part g c = rw (← c.hex_of.ensures) (any_err _ (part_here (codes "_" ++ hex c.args.back) c.in_err-put_both.ensures.part))

pub returns-clause-part : goal.returns-clause-part
returns-clause-part g c = rw (← c.hex_of.ensures, ← c.hex_of-2.ensures) (on_err_weaker c.put_both-2.result (part_then c.in_ok-put_both.ensures.took) c.put_both-2.ensures.part)
