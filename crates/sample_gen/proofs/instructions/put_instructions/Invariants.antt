use Rattle.std.proofs.Common.{◌≡◌, ◌++◌}
use Rattle.sample_gen.specs.Numbers.{state_after}
use Rattle.sample_gen.specs.Program.{instructions}
use Rattle.sample_gen.proofs.instructions.put_instructions.Given as goal

abbrev pub invariant-loop-k : goal.invariant-loop-k
invariant-loop-k l =
    (l.code.items ≡ l.initial.code.items ++ instructions l.kind l.initial.numbers.state 0 l._k)
    × (l.numbers.state ≡ state_after l.initial.numbers.state l._k)
