use Rattle.points.specs.Bundles.{setting_of}
use Rattle.translation.specs.Translations.{parts_of}
use Rattle.translation.proofs.Translated.{told_of}
use Rattle.translation.proofs.translate.Given as goal

-- what is known of the program, with the one table of each jump
abbrev pub ghost-program_of : goal.ghost-program_of
ghost-program_of a = told_of (setting_of a.on.now) a.entry a.symbols.now (parts_of a.segments)
