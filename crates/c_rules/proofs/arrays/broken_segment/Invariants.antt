use Rattle.std.proofs.Common.{◌≡◌, ℕ, ◌+◌, drop}
use Rattle.c_lang.specs.Items.{Segment, Text}
use Rattle.c_rules.proofs.RuleLaws.{faults}
use Rattle.c_rules.proofs.arrays.broken_segment.Given as goal

abbrev pub invariant-loop-index : goal.invariant-loop-index
invariant-loop-index l = (t : Text) → (n : ℕ) → faults t Segment n 0 l.segments ≡ faults t Segment (n + l.index) l.index (drop l.index l.segments)
