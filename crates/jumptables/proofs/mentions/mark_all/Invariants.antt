use Rattle.std.proofs.Common.{◌≡◌, drop}
use Rattle.jumptables.specs.Mentions.{marks_all}
use Rattle.jumptables.proofs.mentions.mark_all.Given as goal

abbrev pub invariant-loop-transfer : goal.invariant-loop-transfer
invariant-loop-transfer l = marks_all (drop l.transfer-index l.transfers) l.flags ≡ marks_all l.transfers l.fn.flags
