use Rattle.std.proofs.Common.{◌≡◌, take}
use Rattle.ssl_core.proofs.machine.types_of.Given as goal

abbrev pub invariant-loop-constructors : goal.invariant-loop-constructors
invariant-loop-constructors l = l.all ≡ take l.constructors-index l.types
