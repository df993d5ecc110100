-- Where the parts of the code stand.
use Rattle.std.proofs.Common.{◌≡◌, ℕ, zero, suc, ◌+◌, ◌-◌, ◌*◌, ◌<◌, List, [], ◌++◌, length, take, drop, refl, sym, ap, ◌∙◌, arith, length-append}
use Rattle.std.specs.List.{flat_map, range_with_len}
use Rattle.std.proofs.lemmas.List.{append-nil, append_assoc, drop_at, take_at}
use Rattle.sample_gen.specs.Program.{exit_bytes, call, calls_of, procedure, procedures, procedure_count, procedure_size, code_of, instruction_length, return_length, exit_length, call_length, start_of}
use Rattle.sample_gen.specs.Places.{CallsStandInOrder, CallsLeadToProcedures}
use Rattle.sample_gen.proofs.Lengths.{length-call, length-calls, length-exit, length-procedure}
use Rattle.sample_gen.specs.declared.kind.Kind.{Kind}

-- the pieces before a place, and those from there on
pub flat_map-split : (f : ℕ → List ℕ) (a p q n b : ℕ) → p + q ≡ n → a + p ≡ b
    → flat_map f (range_with_len a n) ≡ flat_map f (range_with_len a p) ++ flat_map f (range_with_len b q)
flat_map-split f a zero q n b parts place =
    let all : n ≡ q = omega arith in
    let here : a ≡ b = omega arith in
    ap (λ (m : ℕ). flat_map f (range_with_len a m)) all ∙ ap (λ (d : ℕ). flat_map f (range_with_len d q)) here
flat_map-split f a (suc p) q zero b parts place = absurd (omega arith)
flat_map-split f a (suc p) q (suc n) b parts place =
    ap (λ (xs : List ℕ). f a ++ xs) (flat_map-split f (a + 1) p q n b (omega arith) (omega arith))
    ∙ sym (append_assoc (f a) (flat_map f (range_with_len (a + 1) p)) (flat_map f (range_with_len b q)))

-- how much the pieces before a place take
pub front_length : (f : ℕ → List ℕ) (c a p b : ℕ) → a + p ≡ b → ((k : ℕ) → k < b → length (f k) ≡ c) → length (flat_map f (range_with_len a p)) ≡ p * c
front_length f c a zero b place each = omega arith
front_length f c a (suc p) b place each =
    omega (arith, length-append (f a) (flat_map f (range_with_len (a + 1) p)), each a (omega arith), front_length f c (a + 1) p b (omega arith) each)

regroup : (b xs g r t : List ℕ) → (b ++ (xs ++ (g ++ r))) ++ t ≡ (b ++ xs) ++ (g ++ (r ++ t))
regroup b xs g r t = simp append_assoc

-- a piece stands behind what is before all, and the pieces before it
pub piece_stands : (f : ℕ → List ℕ) (c p n s : ℕ) (before behind : List ℕ) → ((k : ℕ) → k < p → length (f k) ≡ c) → p < n → s ≡ length before + p * c
    → take (length (f p)) (drop s ((before ++ flat_map f (range_with_len 0 n)) ++ behind)) ≡ f p
piece_stands f c p n s before behind each within start =
    let front = flat_map f (range_with_len 0 p) in
    let rest = flat_map f (range_with_len (p + 1) (n - p - 1)) in
    let whole : (before ++ flat_map f (range_with_len 0 n)) ++ behind ≡ (before ++ front) ++ (f p ++ (rest ++ behind)) =
    ap (λ (xs : List ℕ). (before ++ xs) ++ behind) (flat_map-split f 0 p (suc (n - p - 1)) n p (omega arith) (omega arith))
    ∙ regroup before front (f p) rest behind in
    let size : length (before ++ front) ≡ s = omega (arith, length-append before front, front_length f c 0 p p (omega arith) each) in
    ap (λ (xs : List ℕ). take (length (f p)) (drop s xs)) whole
    ∙ (ap (λ (xs : List ℕ). take (length (f p)) xs) (drop_at (before ++ front) (f p ++ (rest ++ behind)) s size)
    ∙ take_at (f p) (rest ++ behind) (length (f p)) refl)

pub calls_stand_in_order : CallsStandInOrder
unfolding code_of calls_of
calls_stand_in_order kind number count p within =
    let n = procedure_count count in
    let all : calls_of kind n ++ exit_bytes kind ++ procedures kind number count ≡ calls_of kind n ++ (exit_bytes kind ++ procedures kind number count) =
    append_assoc (calls_of kind n) (exit_bytes kind) (procedures kind number count) in
    ap (λ (xs : List ℕ). take (length (call kind n p)) (drop (p * call_length kind) xs)) all
    ∙ piece_stands (call kind n) (call_length kind) p n (p * call_length kind) [] (exit_bytes kind ++ procedures kind number count)
    (λ k below. length-call kind n k) within (omega arith)

-- a procedure that is not the last is full
pub full_length : (kind : Kind) (number count p k : ℕ) → p < procedure_count count → k < p
    → length (procedure kind number count k) ≡ 50 * instruction_length kind + return_length kind
full_length kind number count p k within below =
    let full : procedure_size count k ≡ 50 = omega arith in
    length-procedure kind number count k ∙ ap (λ (size : ℕ). size * instruction_length kind + return_length kind) full

pub calls_lead_to_procedures : CallsLeadToProcedures
unfolding code_of procedures
calls_lead_to_procedures kind number count p within =
    let n = procedure_count count in
    let front = calls_of kind n ++ exit_bytes kind in
    let size : length front ≡ n * call_length kind + exit_length kind =
    omega (arith, length-append (calls_of kind n) (exit_bytes kind), length-calls kind n, length-exit kind) in
    let start : start_of kind n p ≡ length front + p * (50 * instruction_length kind + return_length kind) = omega arith in
    ap (λ (xs : List ℕ). take (length (procedure kind number count p)) (drop (start_of kind n p) xs)) (sym (append-nil (front ++ procedures kind number count)))
    ∙ piece_stands (procedure kind number count) (50 * instruction_length kind + return_length kind) p n (start_of kind n p) front []
    (λ k below. full_length kind number count p k within below) within start
