use Rattle.std.proofs.Common.{arith, ap, ◌≡◌}
use Rattle.c_text.specs.Functions.{temps_toks}
use Rattle.c_text.proofs.Loops.{wrote_temp, broke_temp}
use Rattle.c_text.proofs.Written.{wrote_nothing, wrote_as, any_err}
use Rattle.c_text.proofs.functions.put_temps.Goals as goal

pub loop-place-init : goal.loop-place-init
loop-place-init g c = wrote_nothing

pub returns-in_err-put_local-clause-broke : goal.returns-in_err-put_local-clause-broke
returns-in_err-put_local-clause-broke g c = any_err _ (broke_temp c.loop-place.place c.args.temps (omega arith) c.loop-place.invariant c.in_err-put_local.ensures.broke)

pub loop-place-preserved : goal.loop-place-preserved
loop-place-preserved g c = wrote_temp c.loop-place.place c.loop-place.invariant c.in_ok-put_local.ensures.wrote

pub returns-clause-wrote : goal.returns-clause-wrote
returns-clause-wrote g c = let e : c.args.temps ≡ c.loop-place.place = omega arith in wrote_as (ap (temps_toks 0) e) c.loop-place.invariant
