use Rattle.std.proofs.Common.{◌≡◌, ℕ, List, [], ◌∷◌, ◌++◌, Vec, Global, All, ◌∙◌, sym, subst}
use Rattle.std.proofs.lemmas.List.Elements.{All-push}
use Rattle.indexmap.proofs.CallerLemmas.{insert_entry-new}
use Rattle.rtl_core.specs.declared.names.CellGroup.{CellGroup}
use Rattle.rtl_core.specs.CellNames.{AreCells}
use Rattle.rtl_core.proofs.NameLemmas.{absent, shown-push}
use Rattle.rtl_core.proofs.names.CellNames.add.Goals as goal

abbrev IsKept : List (Vec ℕ Global × CellGroup) → Type 0
IsKept es = All (λ e. AreCells e.1) es

abbrev group : goal.In_ok-insert → CellGroup
group c = record { first = c.args.first; count = c.args.count }

-- the name goes last
grown : (c : goal.In_ok-insert) → c.insert.new.self.entries ≡ c.self.inside.groups.entries ++ (c.in_ok-bytes.bytes, group c) ∷ []
grown c =
    c.in_ok-insert.ensures.entries
    ∙ insert_entry-new _ c.self.inside.groups c.in_ok-bytes.bytes (group c)
    (absent c.args.self.now c.args.name.now c.in_ok-bytes.bytes.items c.self.inside.groups.entries c.self.view_is c.in_ok-bytes.ensures.items c.requires.fresh)

pub invariant_of-self : goal.invariant_of-self
invariant_of-self c = subst IsKept (sym c.in_err-insert.ensures.err) c.self.invariant

pub invariant_of-self-2 : goal.invariant_of-self-2
invariant_of-self-2 c =
    subst IsKept (sym (grown c)) (All-push (λ e. AreCells e.1) c.self.inside.groups.entries (c.in_ok-bytes.bytes, group c) c.self.invariant c.requires.within)

pub returns-clause-added : goal.returns-clause-added
returns-clause-added c =
    shown-push c.args.self.now c.args.name.now c.in_ok-bytes.bytes (group c) c.self.inside.groups.entries c.insert.new.self.entries c.self.view_is c.in_ok-bytes.ensures.items (grown c)
