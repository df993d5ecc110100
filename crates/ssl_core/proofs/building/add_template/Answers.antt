use Rattle.std.proofs.Common.{refl, ap, ◌∙◌}
use Rattle.ssl_core.specs.State.{shown}
use Rattle.ssl_core.specs.Shown.{made_of}
use Rattle.ssl_core.specs.TypeTables.{with_width}
use Rattle.ssl_core.proofs.TypeLemmas.{holds_more}
use Rattle.ssl_core.proofs.building.add_template.Goals as goal

pub returns-clause-holds : goal.returns-clause-holds
returns-clause-holds c =
    holds_more c.args.enc.now c.args.given.now (record c.args.given.now { templates = c.add.new.self; widths = c.note_width.new.widths }) (made_of c.args.constructor c.args.built) c.requires.sound
    c.requires.holds c.requires.there c.requires.first refl refl refl (ap (λ ms. record (shown c.args.given.now) { templates = ms }) c.in_ok-add.ensures)
    (c.note_width.ensures ∙ ap (λ t. with_width c.args.given.now.widths t c.args.built.width) c.type_of-kind.ensures)
