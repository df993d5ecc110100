use Rattle.std.proofs.Common.{◌≡◌, ◌+◌, ◌-◌}
use Rattle.points.specs.PartialRuns.{forgets_from}
use Rattle.points.specs.Bundles.{setting_of}
use Rattle.jumptables.specs.Runs.{state, IsWhole}
use Rattle.jumptables.proofs.partial_run.PartialRun.forget_from.Given as goal

abbrev pub invariant-loop-k : goal.invariant-loop-k
invariant-loop-k l = record {
  left : forgets_from (setting_of l.on) (l.first + l.k) (l.count - l.k) (state l.self) ≡ forgets_from (setting_of l.on) l.first l.count (state l.fn.self);
  whole : IsWhole l.on.machine.now (state l.self);
}
