use Rattle.std.proofs.Common.{◌≡◌, ◌++◌, drop}
use Rattle.c_control.specs.Blocks.{table_cases}
use Rattle.c_program.proofs.ends.push_table_cases.Given as goal

-- with the targets to come they are all cases
abbrev pub invariant-loop-t : goal.invariant-loop-t
invariant-loop-t l = l.out ++ table_cases l.more (drop l.t-index l.targets) ≡ l.initial.out ++ table_cases l.more l.targets
