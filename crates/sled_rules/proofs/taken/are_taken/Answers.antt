use Rattle.std.proofs.Common.{sym, ◌∙◌}
use Rattle.sled_rules.proofs.TakenLaws.{not_seen}
use Rattle.sled_rules.proofs.taken.are_taken.Goals as goal

pub give-requires-in-loop-field-clause-fresh : goal.give-requires-in-loop-field-clause-fresh
give-requires-in-loop-field-clause-fresh c =
    not_seen c.args.names.now c.loop-field.seen c.as_slice-name.result.now (sym c.is_repeated.ensures ∙ c.if-is_repeated.false)
