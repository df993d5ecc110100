use Rattle.std.proofs.Common.{sym, ◌∙◌}
use Rattle.points.specs.Bundles.{setting_of}
use Rattle.jumptables.proofs.Ready.{computed-found}
use Rattle.jumptables.proofs.table.Goals as goal

pub unreachable-requires : goal.unreachable-requires
unreachable-requires c = computed-found (setting_of c.args.on.now) c.args.at c.requires.jump (sym c.in_ok-jump.ensures ∙ c.in-None.is)
