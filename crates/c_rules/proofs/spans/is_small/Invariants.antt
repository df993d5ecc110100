use Rattle.std.proofs.Common.{◌≡◌, ◌+◌, drop}
use Rattle.std.specs.Prelude.{sum_by}
use Rattle.c_rules.proofs.spans.is_small.Given as goal

abbrev pub invariant-loop-span : goal.invariant-loop-span
invariant-loop-span l = sum_by (λ x. x.len) l.spans + l.room ≡ 16777216 + sum_by (λ x. x.len) (drop l.span-index l.spans)
