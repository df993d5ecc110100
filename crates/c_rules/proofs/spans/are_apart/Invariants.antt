use Rattle.std.proofs.Common.{◌≡◌, drop, map}
use Rattle.c_rules.specs.Spans.{are_apart, range}
use Rattle.c_rules.proofs.spans.are_apart.Given as goal

abbrev pub invariant-loop-span : goal.invariant-loop-span
invariant-loop-span l = are_apart 0 (map range l.spans) ≡ are_apart l.end (map range (drop l.span-index l.spans))
