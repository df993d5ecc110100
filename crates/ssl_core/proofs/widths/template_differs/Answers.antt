use Rattle.std.proofs.Common.{ap, ◌∙◌, unwrap_or}
use Rattle.std.specs.Option.{option_or}
use Rattle.ssl_rules.specs.Given.{type_of, type_width}
use Rattle.ssl_core.specs.State.{shown}
use Rattle.ssl_core.specs.TypeWidths.{against}
use Rattle.ssl_core.proofs.widths.template_differs.Goals as goal

pub returns : goal.returns
returns c =
    c.or.ensures
    ∙ ap (option_or c.measure-m.result.differs) (c.against.ensures
    ∙ ap (λ w. against w c.measure-m.result) (c.type_width.ensures ∙ ap (type_width (shown c.args.given.now) c.args.enc.now) (c.type_of-kind.ensures ∙ ap (type_of c.args.enc.now) c.unwrap_or.ensures)))
    ∙ ap (λ m. option_or m.differs (against (type_width (shown c.args.given.now) c.args.enc.now (type_of c.args.enc.now (unwrap_or c.args.constructor 0))) m)) c.measure-m.ensures
