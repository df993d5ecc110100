use Rattle.std.proofs.Common.{◌≡◌, ◌<◌, ◌^◌, take}
use Rattle.c_scan.specs.Names.{hex_number}
use Rattle.c_scan.proofs.numbers.hex_value.Given as goal

abbrev pub invariant-loop-digit : goal.invariant-loop-digit
invariant-loop-digit l = (l.value ≡ hex_number 0 (take l.digit-index l.digits)) × (l.value < 2 ^ 32)
