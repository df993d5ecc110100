use Rattle.std.proofs.Common.{◌≡◌, ◌++◌}
use Rattle.std.specs.List.{flat_map, range_with_len}
use Rattle.sample_gen.specs.Program.{call}
use Rattle.sample_gen.proofs.calls.put_calls.Given as goal

abbrev pub invariant-loop-place : goal.invariant-loop-place
invariant-loop-place l = l.code.items ≡ l.initial.code.items ++ flat_map (call l.kind l.calls) (range_with_len 0 l.place)
