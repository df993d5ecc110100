use Rattle.std.proofs.Common.{Option, ◌∙◌, sym, ap, subst, IfSome}
use Rattle.std.proofs.lemmas.Map.Entries.{All-lookup}
use Rattle.rtl_core.specs.declared.names.CellGroup.{CellGroup}
use Rattle.rtl_core.specs.CellNames.{AreCells, given}
use Rattle.rtl_core.proofs.NameLemmas.{given-shown}
use Rattle.rtl_core.proofs.names.CellNames.group.Goals as goal

pub returns-clause-exact : goal.returns-clause-exact
returns-clause-exact c =
    c.copied.ensures ∙ c.get.ensures.value ∙ sym (given-shown c.args.name.now c.self.inside.groups.entries) ∙ ap (λ names. given names c.args.name.now) c.self.view_is

pub returns-clause-within : goal.returns-clause-within
returns-clause-within c =
    let P : Option CellGroup → Type 0 = λ o. IfSome o AreCells in
    subst P (sym (c.copied.ensures ∙ c.get.ensures.value)) (All-lookup AreCells _ c.self.inside.groups.entries c.self.invariant)
