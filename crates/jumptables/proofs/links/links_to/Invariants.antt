use Rattle.std.proofs.Common.{◌≡◌, ℕ, ◌<◌, ◌-◌, length, None}
use Rattle.std.specs.Prelude.{slice_index_or}
use Rattle.points.specs.Bundles.{setting_of}
use Rattle.jumptables.specs.Links.{FindsLink}
use Rattle.jumptables.proofs.links.links_to.Given as goal

abbrev pub invariant-loop-back : goal.invariant-loop-back
invariant-loop-back l = record {
  count : length l.links ≡ l.back;
  each : (b : ℕ) → b < l.back → FindsLink (setting_of l.on) l.at (l.at - b) (slice_index_or l.links b None);
}
