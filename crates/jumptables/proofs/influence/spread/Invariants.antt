use Rattle.std.proofs.Common.{◌≡◌, drop, length}
use Rattle.jumptables.specs.Influence.{spreads, decides}
use Rattle.jumptables.proofs.influence.spread.Given as goal

abbrev pub invariant-loop-transfer : goal.invariant-loop-transfer
invariant-loop-transfer l = record {
  decided : decides (drop l.transfer-index l.transfers) l.flags ≡ decides l.transfers l.fn.flags;
  count : length l.flags ≡ length l.fn.flags;
  reached : spreads (drop l.transfer-index l.transfers) l.flags ≡ spreads l.transfers l.fn.flags;
}
