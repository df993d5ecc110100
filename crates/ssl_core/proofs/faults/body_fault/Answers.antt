use Rattle.std.proofs.Common.{sym, subst, ◌∙◌}
use Rattle.ssl_core.specs.State.{shown}
use Rattle.ssl_core.specs.OwnNames.{FindSame, own_of}
use Rattle.ssl_core.proofs.KeptLemmas.{kept-same}
use Rattle.ssl_core.proofs.OwnLemmas.{once_own}
use Rattle.ssl_core.proofs.faults.body_fault.Goals as goal

pub is_known-requires-clause-own : goal.is_known-requires-clause-own
is_known-requires-clause-own c =
    subst (λ own. FindSame own (own_of c.args.enc.now (shown c.args.given.now) c.args.body.now)) (sym c.requires.own) (kept-same (own_of c.args.enc.now (shown c.args.given.now) c.args.body.now))

pub late_fault-requires-clause-own : goal.late_fault-requires-clause-own
late_fault-requires-clause-own c =
    c.requires.own
    ∙ once_own c.args.enc.now (shown c.args.given.now) c.args.body.now
    (sym (c.in_ok-is_once.ensures c.args.enc.now c.requires.constructor) ∙ c.if-not-branch.false)
