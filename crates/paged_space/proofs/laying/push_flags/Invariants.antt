use Rattle.std.proofs.Common.{◌≡◌, ◌++◌, replicate}
use Rattle.std.specs.Prelude.{vec_capacity}
use Rattle.paged_space.proofs.laying.push_flags.Given as goal

abbrev pub invariant-loop : goal.invariant-loop
invariant-loop l = record {
  items : l.writes.items ≡ l.fn.writes.items ++ replicate l.counter l.flag;
  capacity : vec_capacity l.writes ≡ vec_capacity l.fn.writes;
}
