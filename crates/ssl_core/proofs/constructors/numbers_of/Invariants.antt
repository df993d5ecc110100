use Rattle.ssl_core.proofs.NumberLemmas.{IsNamedTo}
use Rattle.ssl_core.proofs.constructors.numbers_of.Given as goal

abbrev pub invariant-loop-number : goal.invariant-loop-number
invariant-loop-number l = IsNamedTo l.enc.constructors l.number l.numbers
