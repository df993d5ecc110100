use Rattle.std.proofs.Common.{◌≡◌}
use Rattle.std.specs.Prelude.{filter, nat_eq}
use Rattle.std.specs.List.{list_any, range_with_len}
use Rattle.params.specs.Parts.{is_opener}
use Rattle.params.proofs.parts.openers_by.Given as goal

abbrev pub invariant-loop-place : goal.invariant-loop-place
invariant-loop-place l = l.openers ≡ filter (is_opener l.machine (λ a. list_any (nat_eq a) l.empty.keys) l.graph) (range_with_len 0 l.place)
