use Rattle.std.proofs.Common.{◌≡◌, ◌≤◌, drop, length}
use Rattle.c_lang.specs.StaticRules.{each_holds, rows}
use Rattle.c_rules.proofs.arrays.each_fits.Given as goal

abbrev pub invariant-loop-segment : goal.invariant-loop-segment
invariant-loop-segment l = (l.at ≤ length l.numbers) × (each_holds l.segments (rows l.numbers) ≡ each_holds (drop l.segment-index l.segments) (rows (drop l.at l.numbers)))
