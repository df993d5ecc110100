use Rattle.std.proofs.Common.{◌≡◌, ◌-◌, ◌≤◌, length, drop}
use Rattle.c_read.specs.Functions.{temps_from}
use Rattle.c_read.proofs.functions.temps_of.Given as goal

abbrev pub invariant-loop-at : goal.invariant-loop-at
invariant-loop-at l = record { within : l.at ≤ length l.variables; rest : temps_from 0 (drop l.from l.variables) ≡ temps_from l.temps (drop l.at l.variables) }

abbrev pub decreases-loop-at : goal.decreases-loop-at
decreases-loop-at l = length l.variables - l.at
