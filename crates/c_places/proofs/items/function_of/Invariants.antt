use Rattle.std.proofs.Common.{◌≡◌, drop}
use Rattle.c_lang.specs.Step.{function_from}
use Rattle.c_places.proofs.items.function_of.Given as goal

abbrev pub invariant-loop-i : goal.invariant-loop-i
invariant-loop-i l = function_from l.i (drop l.i l.functions) l.entry ≡ function_from 0 l.functions l.entry
