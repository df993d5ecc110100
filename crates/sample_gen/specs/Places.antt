-- Where the parts of the code stand.
use Rattle.std.specs.Prelude.{ℕ, List, ◌≡◌, ◌<◌, ◌*◌, drop, length, take}
use Rattle.sample_gen.specs.Program.{call, call_length, code_of, procedure, procedure_count, start_of}
use Rattle.sample_gen.specs.declared.kind.Kind.{Kind}

-- from a place on, bytes have a piece
abbrev pub Stands : List ℕ → ℕ → List ℕ → Type 0
Stands bytes place piece = take (length piece) (drop place bytes) ≡ piece

-- each call stands at the place from which its displacement is counted
abbrev pub CallsStandInOrder : Type 0
CallsStandInOrder =
    (kind : Kind) (number count p : ℕ) → p < procedure_count count
    → Stands (code_of kind number count) (p * call_length kind) (call kind (procedure_count count) p)

-- where a call leads, the procedure of its number starts
abbrev pub CallsLeadToProcedures : Type 0
CallsLeadToProcedures =
    (kind : Kind) (number count p : ℕ) → p < procedure_count count
    → Stands (code_of kind number count) (start_of kind (procedure_count count) p) (procedure kind number count p)
