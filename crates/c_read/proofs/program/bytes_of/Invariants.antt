use Rattle.std.proofs.Common.{◌≡◌, take}
use Rattle.c_read.proofs.program.bytes_of.Given as goal

abbrev pub invariant-loop-number : goal.invariant-loop-number
invariant-loop-number l = l.bytes ≡ take l.number-index l.numbers
