-- The value of a term: a number below 2 to its width, or the first trap, strict and from left to right.
use Rattle.std.specs.Prelude.{ℕ, zero, suc, ◌==◌, ◌&&◌, if◌then◌else◌, List, slice_index, Result, Ok, Err}
use Rattle.rtl_core.specs.declared.stop.Trap.{Trap}
use Rattle.rtl_core.specs.declared.machine.Machine.{Machine}
use Rattle.rtl_core.specs.Contents.{Contents}
use Rattle.rtl_core.specs.Access.{loaded}
use Rattle.rtl_core.specs.Arithmetic.{binary, unary, is_division, bits_of, sign_extended}
use Rattle.rtl_core.specs.Terms.{Term, Const, Cell, Load, Unary, Binary, Slice, Zext, Sext, Choice, width_of}

-- goes on with a value, or keeps the trap
abbrev pub and_then : {A B : Type 0} → Result A Trap → (A → Result B Trap) → Result B Trap
and_then (Err trap) go = Err trap
and_then (Ok v) go = go v

-- the first where the number is not 0, else the second
abbrev pub choice : {A : Type 0} → ℕ → A → A → A
choice zero a b = b
choice (suc n) a b = a

-- the value of a term over these cells and this memory
abbrev pub value_of : Machine → List ℕ → Contents → Term → Result ℕ Trap
value_of m cells mem (Const w n) = Ok n
value_of m cells mem (Cell c) = Ok (slice_index cells c)
value_of m cells mem (Load b a) = and_then (value_of m cells mem a) (loaded m.order m.align mem b)
value_of m cells mem (Unary op a) = and_then (value_of m cells mem a) (λ x. Ok (unary op (width_of m.widths a) x))
value_of m cells mem (Binary op a b) =
    and_then (value_of m cells mem a) (λ x. and_then (value_of m cells mem b) (λ y.
    if is_division op && (y == 0) then Err Trap.Divide else Ok (binary op (width_of m.widths a) x y)))
value_of m cells mem (Slice a lo hi) = and_then (value_of m cells mem a) (λ x. Ok (bits_of lo hi x))
value_of m cells mem (Zext w a) = value_of m cells mem a
value_of m cells mem (Sext w a) = and_then (value_of m cells mem a) (λ x. Ok (sign_extended (width_of m.widths a) w x))
value_of m cells mem (Choice c a b) =
    and_then (value_of m cells mem c) (λ n. and_then (value_of m cells mem a) (λ x. and_then (value_of m cells mem b) (λ y. Ok (choice n x y))))
