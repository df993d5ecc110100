use Rattle.std.proofs.Common.{◌∙◌}
use Rattle.indexmap.proofs.CallerLemmas.{insert_entry-new}
use Rattle.ssl_rules.proofs.TableLemmas.{absent, shown-push}
use Rattle.ssl_rules.proofs.name_table.NameTable.add.Goals as goal

pub returns-clause-added : goal.returns-clause-added
returns-clause-added g c =
    shown-push c.args.self.now c.args.name.now c.in_ok-bytes.bytes c.args.value c.self.inside.entries.entries c.insert.new.self.entries c.self.view_is c.in_ok-bytes.ensures.items
    (c.in_ok-insert.ensures.entries
    ∙ insert_entry-new _ c.self.inside.entries c.in_ok-bytes.bytes c.args.value
    (absent c.args.self.now c.args.name.now c.in_ok-bytes.bytes.items c.self.inside.entries.entries c.self.view_is c.in_ok-bytes.ensures.items c.requires.fresh))
