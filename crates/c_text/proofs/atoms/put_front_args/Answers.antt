use Rattle.std.proofs.Common.{arith, ap, sym, ◌∷◌, ◌++◌, []}
use Rattle.c_text.specs.Expressions.{expr_toks}
use Rattle.c_text.specs.Tokens.{mark}
use Rattle.c_text.proofs.Loops.{wrote_next, broke_next, wrote_end}
use Rattle.c_text.proofs.Written.{wrote_nothing, wrote_as, broke_as, any_err}
use Rattle.c_text.proofs.atoms.put_front_args.Goals as goal

pub loop-arg-init : goal.loop-arg-init
loop-arg-init g c = wrote_nothing

pub returns-in_err-put_expr-clause-broke : goal.returns-in_err-put_expr-clause-broke
returns-in_err-put_expr-clause-broke g c = any_err _ (broke_next (λ e. expr_toks e ++ mark "," ∷ []) c.args.args.now c.loop-arg.arg-index c.arg-item.result (omega arith) c.loop-arg.invariant (broke_as (ap (λ e. expr_toks e ++ mark "," ∷ []) (sym c.arg-item.is)) c.in_err-put_expr.ensures.broke))

pub loop-arg-preserved : goal.loop-arg-preserved
loop-arg-preserved g c = wrote_next (λ e. expr_toks e ++ mark "," ∷ []) c.args.args.now c.loop-arg.arg-index c.arg-item.result (omega arith) c.loop-arg.invariant (wrote_as (ap (λ e. expr_toks e ++ mark "," ∷ []) (sym c.arg-item.is)) c.in_ok-put_expr.ensures.wrote)

pub returns-clause-wrote : goal.returns-clause-wrote
returns-clause-wrote g c = wrote_end (λ e. expr_toks e ++ mark "," ∷ []) c.args.args.now c.loop-arg.arg-index c.loop-arg-test.false c.loop-arg.invariant
