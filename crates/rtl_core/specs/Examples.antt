-- Worked values of arithmetic and of loads.
use Rattle.std.specs.Prelude.{◌≡◌, ◌-◌, ◌&&◌, nat_le, nat_lt, true, false, if◌then◌else◌, Some, None, Ok, Err}
use Rattle.rtl_core.specs.declared.expr.Bin.TheVariants.{DivS, RemS, ShrU, ShrS}
use Rattle.rtl_core.specs.declared.expr.Order.TheVariants.{Little, Big}
use Rattle.rtl_core.specs.declared.stop.Trap.TheVariants as Trap
use Rattle.rtl_core.specs.Contents.{Contents}
use Rattle.rtl_core.specs.Access.{loaded}
use Rattle.rtl_core.specs.Arithmetic.{binary}

-- a shift by the whole width leaves only copies of the sign, or nothing
abbrev pub ShiftExamples : Type 0
ShiftExamples = (binary ShrS 32 0x80000000 32 ≡ 0xFFFFFFFF) × (binary ShrS 32 0x80000000 4 ≡ 0xF8000000) × (binary ShrU 32 0x80000000 32 ≡ 0)

-- a quotient is rounded toward zero, and the remainder has the sign of the dividend
abbrev pub RoundingExamples : Type 0
RoundingExamples = (binary DivS 8 0xF9 2 ≡ 0xFD) × (binary RemS 8 0xF9 2 ≡ 0xFF) × (binary DivS 32 7 0xFFFFFFFE ≡ 0xFFFFFFFD) × (binary RemS 32 7 0xFFFFFFFE ≡ 1)

-- the least value by -1 is the least value, without a rest
abbrev pub LeastExamples : Type 0
LeastExamples =
    (binary DivS 32 0x80000000 0xFFFFFFFF ≡ 0x80000000) × (binary RemS 32 0x80000000 0xFFFFFFFF ≡ 0)
    × (binary DivS 64 0x8000000000000000 0xFFFFFFFFFFFFFFFF ≡ 0x8000000000000000) × (binary RemS 64 0x8000000000000000 0xFFFFFFFFFFFFFFFF ≡ 0)

-- the bytes 1, 2, 3 and 4 from 0x1000 on, and nothing else
abbrev pub four_bytes : Contents
four_bytes = λ a. if nat_le 0x1000 a && nat_lt a 0x1004 then Some (record { byte = a - 0xFFF; writes = true }) else None

-- a 0 at each address
abbrev pub all_zeros : Contents
all_zeros = λ a. Some (record { byte = 0; writes = true })

-- the order of the bytes decides their number
abbrev pub OrderExamples : Type 0
OrderExamples = (loaded Big true four_bytes 4 0x1000 ≡ Ok 0x01020304) × (loaded Little true four_bytes 4 0x1000 ≡ Ok 0x04030201)

-- alignment is tested only where it matters, and then first
abbrev pub AlignmentExamples : Type 0
AlignmentExamples =
    (loaded Big true four_bytes 2 0x1001 ≡ Err (Trap.Misaligned 0x1001)) × (loaded Big false four_bytes 2 0x1001 ≡ Ok 0x0203)
    × (loaded Big true four_bytes 4 0x2002 ≡ Err (Trap.Misaligned 0x2002))

-- a fault tells the first byte that is not mapped; past the last address it is told as 0
abbrev pub FaultExamples : Type 0
FaultExamples =
    (loaded Little false four_bytes 4 0x1002 ≡ Err (Trap.Memory 0x1004)) × (loaded Little false four_bytes 4 0xFFE ≡ Err (Trap.Memory 0xFFE))
    × (loaded Little false all_zeros 2 0xFFFFFFFE ≡ Ok 0) × (loaded Little false all_zeros 4 0xFFFFFFFE ≡ Err (Trap.Memory 0))
    × (loaded Little true all_zeros 4 0x100000002 ≡ Err (Trap.Misaligned 2))
