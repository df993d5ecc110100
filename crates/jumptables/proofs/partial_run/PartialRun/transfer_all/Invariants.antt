use Rattle.std.proofs.Common.{◌≡◌, drop}
use Rattle.points.specs.PartialRuns.{partly_transferred}
use Rattle.points.specs.Bundles.{setting_of}
use Rattle.jumptables.specs.Runs.{state, IsWhole}
use Rattle.jumptables.proofs.partial_run.PartialRun.transfer_all.Given as goal

abbrev pub invariant-loop-transfer : goal.invariant-loop-transfer
invariant-loop-transfer l = record {
  left : partly_transferred (setting_of l.on) (drop l.transfer-index l.transfers) (state l.self) ≡ partly_transferred (setting_of l.on) l.transfers (state l.fn.self);
  whole : IsWhole l.on.machine.now (state l.self);
}
