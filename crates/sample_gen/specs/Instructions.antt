-- An instruction made from a number of 31 bits. It works on registers that no call uses, with an immediate.
use Rattle.std.specs.Prelude.{ℕ, List, [], ◌∷◌, ◌++◌, ◌+◌, ◌*◌, ◌/◌, ◌%◌, ◌^◌}
use Rattle.sample_gen.specs.Bytes.{words}
use Rattle.sample_gen.specs.declared.kind.Kind.{Kind}
use Rattle.sample_gen.specs.declared.kind.Kind.TheVariants.{Sparc, I386}

-- a word of SPARC's format 3 with an immediate: op 2, rd, op3, rs1, i 1, simm13
abbrev pub immediate_form : (rd op3 rs1 simm13 : ℕ) → ℕ
immediate_form rd op3 rs1 simm13 = 2 * 2 ^ 30 + rd * 2 ^ 25 + op3 * 2 ^ 19 + rs1 * 2 ^ 14 + 1 * 2 ^ 13 + simm13

-- SPARC: bits 0 to 2 choose the operation, 3 to 5 and 6 to 8 a local register each, the twelve above are the immediate
unfoldable pub sparc_word : ℕ → ℕ
sparc_word h = immediate_form (16 + h / 2 ^ 3 % 8) (h % 8) (16 + h / 2 ^ 6 % 8) (h / 2 ^ 9 % 4096)

-- 80386: opcode 81, where bits 0 to 2 choose the operation, 3 and 4 the register, and those above are the immediate
unfoldable pub i386_bytes : ℕ → List ℕ
i386_bytes h = (0x81 ∷ (0xC0 + 8 * (h % 8) + h / 2 ^ 3 % 4) ∷ []) ++ words I386 (h / 2 ^ 5 ∷ [])

-- the bytes of the instruction made from a number
abbrev pub instruction : Kind → ℕ → List ℕ
instruction Sparc h = words Sparc (sparc_word h ∷ [])
instruction I386 h = i386_bytes h
