use Rattle.std.proofs.Common.{◌≡◌, take, fold}
use Rattle.sled_rules.specs.declared.meaning.Start.TheVariants.{Nothing}
use Rattle.sled_rules.specs.Starts.{join, part_start}
use Rattle.sled_rules.proofs.starts.item_start.Given as goal

abbrev pub invariant-loop-part : goal.invariant-loop-part
invariant-loop-part l = l.start ≡ fold (λ s part. join s (part_start l.names l.facts part)) Nothing (take l.part-index l.part-items)
