use Rattle.std.proofs.Common.{[], ◌∷◌, ap, ◌∙◌}
use Rattle.std.proofs.lemmas.List.{map-append}
use Rattle.indexmap.proofs.CallerLemmas.{insert_entry-new}
use Rattle.ssl_core.specs.Shown.{made_of}
use Rattle.ssl_core.proofs.TemplateLemmas.{shown_made, no_key}
use Rattle.ssl_core.proofs.templates.Templates.add.Goals as goal

pub returns : goal.returns
returns c =
    ap shown_made (c.in_ok-insert.ensures.entries
    ∙ insert_entry-new _ c.args.self.now.built c.args.constructor c.args.built (no_key c.args.constructor c.args.self.now.built.entries c.requires))
    ∙ map-append (λ e. made_of e.0 e.1) c.args.self.now.built.entries ((c.args.constructor, c.args.built) ∷ [])
