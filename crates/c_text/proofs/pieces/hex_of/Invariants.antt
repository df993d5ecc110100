use Rattle.std.proofs.Common.{◌≡◌, ◌++◌, drop, ◌≤◌, length, length}
use Rattle.c_text.specs.Words.{hex_digits}
use Rattle.c_text.proofs.pieces.hex_of.Given as goal

-- the digits from the place on are right, and those of what is left stand before them
abbrev pub invariant-loop-place : goal.invariant-loop-place
invariant-loop-place l = record {
  room : length l.digits ≡ 8;
  within : l.place ≤ 8;
  digits : hex_digits 8 l.fn.address ≡ hex_digits l.place l.left ++ drop l.place l.digits;
}
