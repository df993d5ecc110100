use Rattle.std.proofs.Common.{[], ◌∷◌, map}
use Rattle.ssl_core.specs.Fresh.{are_fresh}
use Rattle.ssl_core.proofs.FreshLemmas.{params_more, params_end}
use Rattle.ssl_core.proofs.once.are_new_params.Goals as goal

pub returns-then-not-is_unseen : goal.returns-then-not-is_unseen
returns-then-not-is_unseen c =
    params_end c.args.given.now.tables.names c.args.params.now c.loop-param.param-index c.loop-param.seen c.param-item.result c.as_slice-name.result.now c.is_unseen.result
    (are_fresh c.args.given.now.tables.names [] (c.args.function.now ∷ map (λ p. p.name) c.args.params.now)) c.loop-param-test.true c.param-item.is c.as_slice-name.ensures c.is_unseen.ensures
    c.if-not-is_unseen.true c.loop-param.invariant

pub loop-param-preserved : goal.loop-param-preserved
loop-param-preserved c =
    params_more c.args.given.now.tables.names c.args.params.now c.loop-param.param-index c.loop-param.seen c.add-in-loop-param.new.self c.param-item.result c.as_slice-name.result.now c.is_unseen.result
    (are_fresh c.args.given.now.tables.names [] (c.args.function.now ∷ map (λ p. p.name) c.args.params.now)) c.loop-param-test.true c.param-item.is c.as_slice-name.ensures c.is_unseen.ensures
    c.if-not-is_unseen.false c.in_ok-add-2.ensures.added c.loop-param.invariant
