use Rattle.std.proofs.Common.{ap, ◌∙◌}
use Rattle.std.proofs.lemmas.Result.{on_ok_weaker}
use Rattle.ssl_core.specs.State.{shown}
use Rattle.ssl_core.specs.MoreTemplates.{with_made}
use Rattle.ssl_core.proofs.lines.give_instruction.Goals as goal

pub returns-clause-gives : goal.returns-clause-gives
returns-clause-gives c = on_ok_weaker c.add_template.result (λ e. e ∙ ap (with_made (shown c.args.given.now)) (c.in_ok-built.ensures c.args.constructor)) c.add_template.ensures.gives
