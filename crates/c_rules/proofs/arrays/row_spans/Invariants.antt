use Rattle.std.proofs.Common.{◌≡◌, ◌≤◌, ◌-◌, ◌++◌, drop, length, map}
use Rattle.std.specs.List.{All}
use Rattle.c_lang.specs.StaticRules.{rows}
use Rattle.c_rules.specs.Spans.{EndsBelow, range, row_range}
use Rattle.c_rules.proofs.arrays.row_spans.Given as goal

abbrev pub invariant-more : goal.invariant-more
invariant-more l = (l.at ≤ length l.numbers) × ((map range l.spans.items ++ map row_range (rows (drop l.at l.numbers)) ≡ map row_range (rows l.numbers)) × All EndsBelow l.spans.items)

abbrev pub decreases-more : goal.decreases-more
decreases-more l = length l.numbers - l.at
