use Rattle.std.proofs.Common.{◌-◌, ◌++◌, drop}
use Rattle.c_places.specs.Rest.{rest_at, Grown}
use Rattle.c_places.proofs.items.+placing.Given as goal

abbrev pub invariant-add-loop-i : goal.invariant-add-loop-i
invariant-add-loop-i l = Grown l.fn.functions l.fn.items l.items l.at (drop (l.count - l.i) l.fn.stmts ++ rest_at l.fn.items l.fn.next)
