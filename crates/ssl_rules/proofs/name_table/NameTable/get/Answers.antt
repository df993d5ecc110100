use Rattle.std.proofs.Common.{◌∙◌, sym, ap}
use Rattle.ssl_rules.specs.Lookup.{named}
use Rattle.ssl_rules.proofs.TableLemmas.{named-shown}
use Rattle.ssl_rules.proofs.name_table.NameTable.get.Goals as goal

pub returns : goal.returns
returns g c = c.copied.ensures ∙ c.get.ensures.value ∙ sym (named-shown c.args.name.now c.self.inside.entries.entries) ∙ ap (λ names. named names c.args.name.now) c.self.view_is
