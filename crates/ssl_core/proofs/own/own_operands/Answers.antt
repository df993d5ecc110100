use Rattle.std.proofs.Common.{◌≤◌, length, min, arith}
use Rattle.ssl_core.specs.State.{shown}
use Rattle.ssl_core.proofs.OwnLemmas.{own_done}
use Rattle.ssl_core.proofs.own.own_operands.Goals as goal

pub returns : goal.returns
returns c =
    let h : min (length c.args.ops.now) (length c.args.kinds.now) ≤ c.loop-k.k = omega arith in
    own_done c.args.enc.now (shown c.args.given.now) c.args.ops.now c.args.kinds.now c.loop-k.k c.loop-k.own h c.loop-k.invariant
