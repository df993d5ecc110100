-- How many bytes the parts of a program take.
use Rattle.std.proofs.Common.{◌≡◌, ℕ, zero, suc, ◌+◌, ◌*◌, ◌≤◌, ◌<◌, ◌^◌, List, ◌++◌, length, refl, arith, length-append}
use Rattle.std.specs.List.{flat_map, range_with_len}
use Rattle.sample_gen.specs.Bytes.{words}
use Rattle.sample_gen.specs.Numbers.{number_at}
use Rattle.sample_gen.specs.Instructions.{instruction, i386_bytes}
use Rattle.sample_gen.specs.Program.{instructions, return_bytes, exit_bytes, call, calls_of, procedure, procedures, procedure_count, procedure_size, code_of, instruction_length, return_length, exit_length, call_length}
use Rattle.sample_gen.specs.declared.kind.Kind.{Kind}
use Rattle.sample_gen.specs.declared.kind.Kind.TheVariants.{Sparc, I386}

pub length-instruction : (kind : Kind) (h : ℕ) → length (instruction kind h) ≡ instruction_length kind
unfolding words i386_bytes
length-instruction Sparc h = refl
length-instruction I386 h = refl

pub length-return : (kind : Kind) → length (return_bytes kind) ≡ return_length kind
unfolding words
length-return Sparc = refl
length-return I386 = refl

pub length-exit : (kind : Kind) → length (exit_bytes kind) ≡ exit_length kind
unfolding words
length-exit Sparc = refl
length-exit I386 = refl

pub length-call : (kind : Kind) (calls p : ℕ) → length (call kind calls p) ≡ call_length kind
unfolding words
length-call Sparc calls p = refl
length-call I386 calls p = refl

-- pieces of one length, one behind another
pub length-flat_range : (f : ℕ → List ℕ) (c : ℕ) → ((k : ℕ) → length (f k) ≡ c) → (a n : ℕ) → length (flat_map f (range_with_len a n)) ≡ n * c
length-flat_range f c each a zero = omega arith
length-flat_range f c each a (suc n) =
    omega (arith, length-append (f a) (flat_map f (range_with_len (a + 1) n)), each a, length-flat_range f c each (a + 1) n)

-- pieces of at most one length
pub length-flat_range_le : (f : ℕ → List ℕ) (c : ℕ) → ((k : ℕ) → length (f k) ≤ c) → (a n : ℕ) → length (flat_map f (range_with_len a n)) ≤ n * c
length-flat_range_le f c each a zero = omega arith
length-flat_range_le f c each a (suc n) =
    omega (arith, length-append (f a) (flat_map f (range_with_len (a + 1) n)), each a, length-flat_range_le f c each (a + 1) n)

pub length-instructions : (kind : Kind) (number place size : ℕ) → length (instructions kind number place size) ≡ size * instruction_length kind
unfolding instructions
length-instructions kind number place size =
    length-flat_range (λ k. instruction kind (number_at number k)) (instruction_length kind) (λ k. length-instruction kind (number_at number k)) place size

pub length-procedure : (kind : Kind) (number count p : ℕ) → length (procedure kind number count p) ≡ procedure_size count p * instruction_length kind + return_length kind
unfolding procedure
length-procedure kind number count p =
    omega (arith, length-append (instructions kind number (50 * p) (procedure_size count p)) (return_bytes kind), length-instructions kind number (50 * p) (procedure_size count p), length-return kind)

-- no procedure takes more than 308 bytes
pub procedure_short : (kind : Kind) (number count p : ℕ) → length (procedure kind number count p) ≤ 308
procedure_short Sparc number count p = omega (arith, length-procedure Sparc number count p)
procedure_short I386 number count p = omega (arith, length-procedure I386 number count p)

pub length-calls : (kind : Kind) (calls : ℕ) → length (calls_of kind calls) ≡ calls * call_length kind
unfolding calls_of
length-calls kind calls = length-flat_range (call kind calls) (call_length kind) (λ p. length-call kind calls p) 0 calls

pub procedures_short : (kind : Kind) (number count : ℕ) → length (procedures kind number count) ≤ procedure_count count * 308
unfolding procedures
procedures_short kind number count = length-flat_range_le (procedure kind number count) 308 (procedure_short kind number count) 0 (procedure_count count)

-- the length of the code is a number of 32 bits
pub code_short : (kind : Kind) (number count : ℕ) → count ≤ 20000 → length (code_of kind number count) < 2 ^ 32
unfolding code_of
code_short Sparc number count few =
    omega (
      arith,
      length-append (calls_of Sparc (procedure_count count) ++ exit_bytes Sparc) (procedures Sparc number count),
      length-append (calls_of Sparc (procedure_count count)) (exit_bytes Sparc),
      length-calls Sparc (procedure_count count),
      length-exit Sparc,
      procedures_short Sparc number count,
    )
code_short I386 number count few =
    omega (
      arith,
      length-append (calls_of I386 (procedure_count count) ++ exit_bytes I386) (procedures I386 number count),
      length-append (calls_of I386 (procedure_count count)) (exit_bytes I386),
      length-calls I386 (procedure_count count),
      length-exit I386,
      procedures_short I386 number count,
    )
