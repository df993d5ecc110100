use Rattle.std.proofs.Common.{◌∙◌}
use Rattle.ssl_core.proofs.TemplateLemmas.{facts_none, facts_some}
use Rattle.ssl_core.proofs.templates.Templates.facts.Goals as goal

pub returns-in_err-built : goal.returns-in_err-built
returns-in_err-built c =
    c.from_residual.ensures ∙ facts_none c.args.constructor c.args.self.now.built.entries c.get.result c.in_err-built.was c.get.ensures.value

pub returns : goal.returns
returns c = facts_some c.args.constructor c.args.self.now.built.entries c.get.result c.in_ok-built.built c.is_place.result c.in_ok-built.was c.get.ensures.value c.is_place.ensures
