use Rattle.std.proofs.Common.{take}
use Rattle.conventions.specs.Names.{instruction_numbers, FindsSame}
use Rattle.conventions.proofs.Tables.{table_of}
use Rattle.conventions.proofs.instructions.Instructions.of.Given as goal

abbrev pub invariant-loop-number : goal.invariant-loop-number
invariant-loop-number l = FindsSame l.table (table_of l.enc (take l.number-index (instruction_numbers l.enc)))
