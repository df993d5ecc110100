use Rattle.std.proofs.Common.{◌≡◌, ◌-◌}
use Rattle.points.specs.PartialRuns.{all_partly_done}
use Rattle.points.specs.Tables.{most_before}
use Rattle.points.specs.Bundles.{setting_of}
use Rattle.jumptables.specs.Runs.{state, IsWhole}
use Rattle.jumptables.specs.Links.{walked}
use Rattle.jumptables.proofs.search.Search.lead_up.Given as goal

abbrev pub invariant-loop-k : goal.invariant-loop-k
invariant-loop-k l = record {
  left : all_partly_done (setting_of l.self.on) (walked l.self.links l.self.at (most_before - l.k) l.pc) (state l.run)
      ≡ all_partly_done (setting_of l.self.on) (walked l.self.links l.self.at most_before l.start) (state l.fn.run);
  whole : IsWhole l.self.on.machine.now (state l.run);
}
