use Rattle.std.proofs.Common.{Option, ◌∙◌, sym, ap, subst, IfSome}
use Rattle.std.proofs.lemmas.Map.Entries.{All-lookup}
use Rattle.sled_rules.specs.declared.meaning.Meaning.{Meaning}
use Rattle.sled_rules.specs.Ranges.{IsMeaning}
use Rattle.sled_rules.specs.Meanings.{named}
use Rattle.sled_rules.proofs.TableLemmas.{named-shown, within_reference}
use Rattle.sled_rules.proofs.names.Names.named.Goals as goal

pub returns-clause-exact : goal.returns-clause-exact
returns-clause-exact c =
    c.get.ensures.value ∙ sym (named-shown c.args.name.now c.self.inside.entries.entries) ∙ ap (λ names. named names c.args.name.now) c.self.view_is

pub returns-clause-within : goal.returns-clause-within
returns-clause-within c =
    within_reference c.get.result _ c.get.ensures.value (All-lookup IsMeaning _ c.self.inside.entries.entries c.self.invariant)
