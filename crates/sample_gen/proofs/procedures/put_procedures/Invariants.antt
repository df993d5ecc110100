use Rattle.std.proofs.Common.{◌≡◌, ◌++◌, ◌*◌}
use Rattle.std.specs.Prelude.{min}
use Rattle.std.specs.List.{flat_map, range_with_len}
use Rattle.sample_gen.specs.Numbers.{state_after}
use Rattle.sample_gen.specs.Program.{procedure}
use Rattle.sample_gen.proofs.procedures.put_procedures.Given as goal

abbrev pub invariant-loop-place : goal.invariant-loop-place
invariant-loop-place l =
    (l.code.items ≡ l.initial.code.items ++ flat_map (procedure l.kind l.number l.count) (range_with_len 0 l.place))
    × (l.numbers.state ≡ state_after l.number (min (50 * l.place) l.count))
