use Rattle.std.proofs.Common.{arith, ◌∷◌, []}
use Rattle.c_text.specs.Tokens.{mark, long}
use Rattle.c_text.proofs.Loops.{wrote_next, broke_next, wrote_end}
use Rattle.c_text.proofs.Written.{wrote_nothing, any_err}
use Rattle.c_text.proofs.items.put_front_values.Goals as goal

pub loop-number-init : goal.loop-number-init
loop-number-init g c = wrote_nothing

pub returns-in_err-put_long-clause-broke : goal.returns-in_err-put_long-clause-broke
returns-in_err-put_long-clause-broke g c = any_err _ (broke_next (λ n. long n ∷ mark "," ∷ []) c.args.numbers.now c.loop-number.number-index 0 (omega arith) c.loop-number.invariant c.in_err-put_long.ensures.broke)

pub loop-number-preserved : goal.loop-number-preserved
loop-number-preserved g c = wrote_next (λ n. long n ∷ mark "," ∷ []) c.args.numbers.now c.loop-number.number-index 0 (omega arith) c.loop-number.invariant c.in_ok-put_long.ensures.wrote

pub returns-clause-wrote : goal.returns-clause-wrote
returns-clause-wrote g c = wrote_end (λ n. long n ∷ mark "," ∷ []) c.args.numbers.now c.loop-number.number-index c.loop-number-test.false c.loop-number.invariant
