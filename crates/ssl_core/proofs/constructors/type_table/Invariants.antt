use Rattle.ssl_core.proofs.TypingLemmas.{AreTypedTo}
use Rattle.ssl_core.proofs.constructors.type_table.Given as goal

abbrev pub invariant-loop-kind : goal.invariant-loop-kind
invariant-loop-kind l = AreTypedTo l.enc l.kind l.types
