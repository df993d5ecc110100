use Rattle.std.proofs.Common.{sym, ◌∙◌}
use Rattle.ssl_rules.proofs.FineLines.{fine_line}
use Rattle.ssl_core.specs.State.{shown}
use Rattle.ssl_core.proofs.OwnLemmas.{once_own}
use Rattle.ssl_core.proofs.lines.take_noted.Goals as goal

pub give-requires-clause-own : goal.give-requires-clause-own
give-requires-clause-own c =
    let fine = fine_line c.args.enc.now (shown c.args.given.now) c.args.line.now.number c.args.line.now.body (sym c.in_ok-fault.ensures ∙ c.in_default.is) in
    c.in_ok-own.ensures ∙ once_own c.args.enc.now (shown c.args.given.now) c.args.line.now.body fine.once

pub give-requires-clause-fine : goal.give-requires-clause-fine
give-requires-clause-fine c =
    fine_line c.args.enc.now (shown c.args.given.now) c.args.line.now.number c.args.line.now.body (sym c.in_ok-fault.ensures ∙ c.in_default.is)
