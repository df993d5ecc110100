-- An executable with one segment, which is read and executed (System V ABI, "Object Files").
use Rattle.std.specs.Prelude.{ℕ, List, [], ◌∷◌, ◌++◌, length}
use Rattle.sample_gen.specs.Bytes.{halves, words}
use Rattle.sample_gen.specs.Program.{code_of}
use Rattle.sample_gen.specs.declared.kind.Kind.{Kind}
use Rattle.sample_gen.specs.declared.kind.Kind.TheVariants.{Sparc, I386}

-- EI_DATA: the highest byte first, or the lowest
abbrev pub order_byte : Kind → ℕ
order_byte Sparc = 2
order_byte I386 = 1

-- e_machine
abbrev pub machine_number : Kind → ℕ
machine_number Sparc = 2
machine_number I386 = 3

-- the address of the code, where it is entered
abbrev pub base : Kind → ℕ
base Sparc = 0x00010000
base I386 = 0x08048000

-- e_ident: 7F 45 4C 46, 32 bits, the byte order, version 1
abbrev pub identification : Kind → List ℕ
identification kind = 0x7F ∷ 0x45 ∷ 0x4C ∷ 0x46 ∷ 1 ∷ order_byte kind ∷ 1 ∷ 0 ∷ 0 ∷ 0 ∷ 0 ∷ 0 ∷ 0 ∷ 0 ∷ 0 ∷ 0 ∷ []

-- e_type (an executable) and e_machine; e_version, e_entry, e_phoff, e_shoff, e_flags; e_ehsize, e_phentsize, e_phnum, and no sections
unfoldable pub file_header : Kind → List ℕ
file_header kind =
    identification kind ++ halves kind (2 ∷ machine_number kind ∷ []) ++ words kind (1 ∷ base kind ∷ 52 ∷ 0 ∷ 0 ∷ [])
    ++ halves kind (52 ∷ 32 ∷ 1 ∷ 0 ∷ 0 ∷ 0 ∷ [])

-- p_type (to be loaded), p_offset (behind both headers), p_vaddr, p_paddr, p_filesz, p_memsz, p_flags (read and executed), p_align
unfoldable pub program_header : Kind → ℕ → List ℕ
program_header kind size = words kind (1 ∷ 84 ∷ base kind ∷ base kind ∷ size ∷ size ∷ 5 ∷ 4 ∷ [])

-- the executable of a code: the two headers, then the code
unfoldable pub executable_of : Kind → List ℕ → List ℕ
executable_of kind code = file_header kind ++ program_header kind (length code) ++ code

-- the bytes of a sample
abbrev pub sample_of : Kind → ℕ → ℕ → List ℕ
sample_of kind number count = executable_of kind (code_of kind number count)
