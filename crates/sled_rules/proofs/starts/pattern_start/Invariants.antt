use Rattle.std.proofs.Common.{◌≡◌, take, fold}
use Rattle.sled_rules.specs.declared.meaning.Start.TheVariants.{Nothing}
use Rattle.sled_rules.specs.Starts.{join, sequence_start}
use Rattle.sled_rules.proofs.starts.pattern_start.Given as goal

abbrev pub invariant-loop-items : goal.invariant-loop-items
invariant-loop-items l = l.start ≡ fold (λ s items. join s (sequence_start l.names l.facts items)) Nothing (take l.items-index l.items-items)
