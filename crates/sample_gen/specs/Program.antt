-- The code of a sample: a call of each procedure in order, an exit, then the procedures.
use Rattle.std.specs.Prelude.{ℕ, List, [], ◌∷◌, ◌++◌, ◌+◌, ◌-◌, ◌*◌, ◌/◌, ◌^◌, min}
use Rattle.std.specs.List.{flat_map, range_with_len}
use Rattle.sample_gen.specs.Bytes.{words}
use Rattle.sample_gen.specs.Numbers.{number_at}
use Rattle.sample_gen.specs.Instructions.{instruction}
use Rattle.sample_gen.specs.declared.kind.Kind.{Kind}
use Rattle.sample_gen.specs.declared.kind.Kind.TheVariants.{Sparc, I386}

-- ---- Procedures: 50 instructions each, fewer in the last

-- how many procedures so many instructions take
abbrev pub procedure_count : ℕ → ℕ
procedure_count count = (count + 49) / 50

-- how many instructions the procedure at a place has
abbrev pub procedure_size : ℕ → ℕ → ℕ
procedure_size count p = min 50 (count - 50 * p)

-- the instructions from a place on, so many
unfoldable pub instructions : Kind → ℕ → ℕ → ℕ → List ℕ
instructions kind number place size = flat_map (λ k. instruction kind (number_at number k)) (range_with_len place size)

-- how a procedure ends: JMPL to %o7 + 8 with a NOP in its slot; RET
abbrev pub return_bytes : Kind → List ℕ
return_bytes Sparc = words Sparc (0x81C3E008 ∷ 0x01000000 ∷ [])
return_bytes I386 = 0xC3 ∷ []

-- the bytes of the procedure at a place
unfoldable pub procedure : Kind → ℕ → ℕ → ℕ → List ℕ
procedure kind number count p = instructions kind number (50 * p) (procedure_size count p) ++ return_bytes kind

-- the bytes of all procedures
unfoldable pub procedures : Kind → ℕ → ℕ → List ℕ
procedures kind number count = flat_map (procedure kind number count) (range_with_len 0 (procedure_count count))

-- ---- The exit: its status is the low seven bits of %l0, or of EAX; what stands behind it is illegal

-- AND %l0, 0x7F, %o0; OR %g0, 1, %g1; TA 16; UNIMP; or AND EAX, 0x7F; MOV EBX, EAX; MOV EAX, 1; INT 0x80; UD2
abbrev pub exit_bytes : Kind → List ℕ
exit_bytes Sparc = words Sparc (0x900C207F ∷ 0x82102001 ∷ 0x91D02010 ∷ 0x00000000 ∷ [])
exit_bytes I386 = 0x83 ∷ 0xE0 ∷ 0x7F ∷ 0x89 ∷ 0xC3 ∷ 0xB8 ∷ 0x01 ∷ 0x00 ∷ 0x00 ∷ 0x00 ∷ 0xCD ∷ 0x80 ∷ 0x0F ∷ 0x0B ∷ []

-- ---- Calls

-- how many bytes an instruction, a procedure's end, the exit and a call take
abbrev pub instruction_length : Kind → ℕ
instruction_length Sparc = 4
instruction_length I386 = 6

abbrev pub return_length : Kind → ℕ
return_length Sparc = 8
return_length I386 = 1

abbrev pub exit_length : Kind → ℕ
exit_length Sparc = 16
exit_length I386 = 14

abbrev pub call_length : Kind → ℕ
call_length Sparc = 8
call_length I386 = 5

-- where the procedure at a place starts: behind all calls, the exit and so many procedures of 50
abbrev pub start_of : Kind → ℕ → ℕ → ℕ
start_of kind calls p = calls * call_length kind + exit_length kind + p * (50 * instruction_length kind + return_length kind)

-- the call at a place, which calls the procedure at that place: CALL by words from its own address, a NOP in its slot; CALL by
-- bytes from the address behind it
abbrev pub call : Kind → ℕ → ℕ → List ℕ
call Sparc calls p = words Sparc ((2 ^ 30 + (start_of Sparc calls p - p * call_length Sparc) / 4) ∷ 0x01000000 ∷ [])
call I386 calls p = (0xE8 ∷ []) ++ words I386 ((start_of I386 calls p - (p + 1) * call_length I386) ∷ [])

-- so many calls, one of each procedure
unfoldable pub calls_of : Kind → ℕ → List ℕ
calls_of kind calls = flat_map (call kind calls) (range_with_len 0 calls)

-- ---- All of it

-- the code of a sample of so many instructions, made from a number
unfoldable pub code_of : Kind → ℕ → ℕ → List ℕ
code_of kind number count = calls_of kind (procedure_count count) ++ exit_bytes kind ++ procedures kind number count
