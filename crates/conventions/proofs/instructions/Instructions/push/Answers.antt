use Rattle.std.proofs.Common.{◌≡◌, [], ◌∷◌, ◌++◌, ◌∙◌}
use Rattle.indexmap.proofs.CallerLemmas.{insert_entry-new}
use Rattle.conventions.proofs.Tables.{absent, shown-push}
use Rattle.conventions.proofs.instructions.Instructions.push.Goals as goal

-- the name goes last
grown : (c : goal.In_ok-insert) → c.insert.new.self.entries ≡ c.self.inside.numbers.entries ++ (c.in_ok-bytes.bytes, c.args.number) ∷ []
grown c =
    c.in_ok-insert.ensures.entries
    ∙ insert_entry-new _ c.self.inside.numbers c.in_ok-bytes.bytes c.args.number
    (absent c.args.self.now c.args.name.now c.in_ok-bytes.bytes.items c.self.inside.numbers.entries c.self.view_is c.in_ok-bytes.ensures.items c.requires)

pub returns : goal.returns
returns c =
    shown-push c.args.self.now c.args.name.now c.in_ok-bytes.bytes c.args.number c.self.inside.numbers.entries c.insert.new.self.entries c.self.view_is c.in_ok-bytes.ensures.items (grown c)
