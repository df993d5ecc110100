use Rattle.std.proofs.Common.{◌∙◌}
use Rattle.ssl_core.specs.State.{shown}
use Rattle.ssl_core.proofs.LineLemmas.{line_differs}
use Rattle.ssl_core.proofs.widths.differing.Goals as goal

pub returns-in-Operand : goal.returns-in-Operand
returns-in-Operand c =
    c.template_differs.ensures
    ∙ line_differs c.args.enc.now (shown c.args.given.now) c.args.body.now c.in-Operand.name c.in-Operand.ops c.in-Operand.body c.args.constructor c.args.own.now c.in-Operand.is c.requires.constructor
    c.requires.own
