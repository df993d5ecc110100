use Rattle.std.proofs.Common.{◌≡◌, ℕ, List, [], ◌∷◌, ◌++◌, Vec, Global, All, ◌∙◌, sym, subst}
use Rattle.std.proofs.lemmas.List.Elements.{All-push}
use Rattle.indexmap.proofs.CallerLemmas.{insert_entry-new}
use Rattle.sled_rules.specs.declared.meaning.Meaning.{Meaning}
use Rattle.sled_rules.specs.Ranges.{IsMeaning}
use Rattle.sled_rules.proofs.TableLemmas.{absent, shown-push}
use Rattle.sled_rules.proofs.names.Names.give.Goals as goal

abbrev AreKept : List (Vec ℕ Global × Meaning) → Type 0
AreKept es = All (λ e. IsMeaning e.1) es

pub invariant_of-self : goal.invariant_of-self
invariant_of-self c = subst AreKept (sym c.in_err-insert.ensures.err) c.self.invariant

pub invariant_of-self-2 : goal.invariant_of-self-2
invariant_of-self-2 c =
    let grown : c.insert.new.self.entries ≡ c.self.inside.entries.entries ++ (c.in_ok-bytes.bytes, c.args.meaning) ∷ [] =
    c.in_ok-insert.ensures.entries
    ∙ insert_entry-new _ c.self.inside.entries c.in_ok-bytes.bytes c.args.meaning
    (absent c.args.self.now c.args.name.now c.in_ok-bytes.bytes.items c.self.inside.entries.entries c.self.view_is c.in_ok-bytes.ensures.items c.requires.fresh) in
    subst AreKept (sym grown) (All-push (λ e. IsMeaning e.1) c.self.inside.entries.entries (c.in_ok-bytes.bytes, c.args.meaning) c.self.invariant c.requires.within)

pub returns : goal.returns
returns c =
    let grown : c.insert.new.self.entries ≡ c.self.inside.entries.entries ++ (c.in_ok-bytes.bytes, c.args.meaning) ∷ [] =
    c.in_ok-insert.ensures.entries
    ∙ insert_entry-new _ c.self.inside.entries c.in_ok-bytes.bytes c.args.meaning
    (absent c.args.self.now c.args.name.now c.in_ok-bytes.bytes.items c.self.inside.entries.entries c.self.view_is c.in_ok-bytes.ensures.items c.requires.fresh) in
    shown-push c.args.self.now c.args.name.now c.in_ok-bytes.bytes c.args.meaning c.self.inside.entries.entries c.insert.new.self.entries c.self.view_is
    c.in_ok-bytes.ensures.items grown
