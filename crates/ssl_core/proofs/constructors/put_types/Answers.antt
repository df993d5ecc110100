use Rattle.std.proofs.Common.{◌+◌, take, sym, subst}
use Rattle.ssl_core.specs.Typing.{IsTypePut}
use Rattle.ssl_core.proofs.TypingLemmas.{put_more}
use Rattle.ssl_core.proofs.constructors.put_types.Goals as goal

pub loop-constructor-preserved : goal.loop-constructor-preserved
loop-constructor-preserved c =
    subst (λ new. IsTypePut c.args.types.now new (take (c.loop-constructor.constructor-index + 1) c.args.constructors.now) c.args.kind) (sym c.put_type.ensures)
    (put_more c.args.types.now c.args.kind c.loop-constructor.types c.args.constructors.now c.loop-constructor.constructor-index c.from.result c.loop-constructor-test.true c.from.ensures
    c.loop-constructor.invariant)
