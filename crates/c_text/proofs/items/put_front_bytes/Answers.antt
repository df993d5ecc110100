use Rattle.std.proofs.Common.{arith, ◌∷◌, []}
use Rattle.c_text.specs.Tokens.{mark, plain}
use Rattle.c_text.proofs.Loops.{wrote_next, broke_next, wrote_end}
use Rattle.c_text.proofs.Written.{wrote_nothing, any_err}
use Rattle.c_text.proofs.items.put_front_bytes.Goals as goal

pub loop-byte-init : goal.loop-byte-init
loop-byte-init g c = wrote_nothing

pub returns-in_err-put_plain-clause-broke : goal.returns-in_err-put_plain-clause-broke
returns-in_err-put_plain-clause-broke g c = any_err _ (broke_next (λ n. plain n ∷ mark "," ∷ []) c.args.bytes.now c.loop-byte.byte-index 0 (omega arith) c.loop-byte.invariant c.in_err-put_plain.ensures.broke)

pub loop-byte-preserved : goal.loop-byte-preserved
loop-byte-preserved g c = wrote_next (λ n. plain n ∷ mark "," ∷ []) c.args.bytes.now c.loop-byte.byte-index 0 (omega arith) c.loop-byte.invariant c.in_ok-put_plain.ensures.wrote

pub returns-clause-wrote : goal.returns-clause-wrote
returns-clause-wrote g c = wrote_end (λ n. plain n ∷ mark "," ∷ []) c.args.bytes.now c.loop-byte.byte-index c.loop-byte-test.false c.loop-byte.invariant
