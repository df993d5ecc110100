-- A program has a C text where its parts have forms, and what its parts have where it has one.
use Rattle.std.proofs.Common.{◌≡◌, ℕ, ◌+◌, ◌*◌, ◌^◌, ◌<◌, ◌≤◌, Bool, true, false, List, [], ◌∷◌, ◌++◌, map, length, refl, ap, arith}
use Rattle.std.specs.Prelude.{nat_lt, if◌then◌else◌}
use Rattle.std.specs.List.{All}
use Rattle.std.proofs.lemmas.List.Elements.{All-nil, All-cons, All-head, All-tail, All-append}
use Rattle.std.proofs.lemmas.Bool.{lt-ltb, ltb-true}
use Rattle.rtl_core.specs.Arithmetic.{flag}
use Rattle.c_lang.specs.declared.tree.CSeg.{CSeg}
use Rattle.c_lang.specs.declared.tree.Function.{Function}
use Rattle.c_lang.specs.declared.tree.Program.{Program}
use Rattle.c_lang.specs.Items.{Item, Include, Machine, Segment, Table, Declared, Defined, Main, numbered, or_zero, filled, whole, segment_array, segment_numbers, table_numbers, header_numbers, prototype_of}
use Rattle.c_lang.specs.Spellable.{misfit, FunctionHasForm, ArrayHasForm, ItemHasForm, HasSpelling, SegmentFits, SegmentsFit}

-- ---- numbers

-- a number with few enough bits
pub fits : (bits n : ℕ) → n < 2 ^ bits → misfit bits n ≡ 0
fits bits n lt = ap weight (lt-ltb n (2 ^ bits) lt)
  where
    weight : Bool → ℕ
    weight b = if b then 0 else 1

-- and the other way
pub has_bits : (bits n : ℕ) → misfit bits n ≡ 0 → n < 2 ^ bits
has_bits bits n h = by (nat_lt n (2 ^ bits)) refl h
  where
    weight : Bool → ℕ
    weight b = if b then 0 else 1

    by : (b : Bool) → nat_lt n (2 ^ bits) ≡ b → weight b ≡ 0 → n < 2 ^ bits
    by true e h = ltb-true n (2 ^ bits) e
    by false e h = absurd (omega (arith, h))

-- ---- arrays

flag_fits : (bits : ℕ) → 1 < 2 ^ bits → (b : Bool) → flag b < 2 ^ bits
flag_fits bits some true = some
flag_fits bits some false = omega (arith, some)

abbrev Narrow : ℕ → List ℕ → Type 0
Narrow bits ns = All (λ n. n < 2 ^ bits) ns

zero_narrow : (bits : ℕ) → 1 < 2 ^ bits → (ns : List ℕ) → Narrow bits ns → Narrow bits (or_zero ns)
zero_narrow bits some [] h = All-cons (λ n. n < 2 ^ bits) 0 [] (omega (arith, some)) (All-nil (λ n. n < 2 ^ bits))
zero_narrow bits some (n ∷ ns) h = h

zero_length : (ns : List ℕ) → length (or_zero ns) ≤ 1 + length ns
zero_length [] = omega arith
zero_length (n ∷ ns) = omega arith

filled_form : (bits : ℕ) → 1 < 2 ^ bits → (ns : List ℕ) → 1 + length ns < 2 ^ 64 → Narrow bits ns → ArrayHasForm bits (filled ns)
filled_form bits some ns short h = record { length_fits = omega (arith, short, zero_length ns); each = zero_narrow bits some ns h }

row_narrow : (s : CSeg) (rest : List ℕ) → SegmentFits s → Narrow 32 rest → Narrow 32 (segment_numbers s ++ rest)
row_narrow s rest h k =
    let P : ℕ → Type 0 = λ n. n < 2 ^ 32 in
    let write = flag s.write in
    let file = length s.bytes in
    All-cons P s.base (write ∷ file ∷ s.len ∷ rest) h.base_fits (All-cons P write (file ∷ s.len ∷ rest) (flag_fits 32 (omega arith) s.write)
    (All-cons P file (s.len ∷ rest) h.file_fits (All-cons P s.len rest h.len_fits k)))

table_narrow : (ss : List CSeg) → All SegmentFits ss → Narrow 32 (table_numbers ss)
table_narrow [] h = All-nil (λ n. n < 2 ^ 32)
table_narrow (s ∷ ss) h = row_narrow s (table_numbers ss) (All-head SegmentFits s ss h) (table_narrow ss (All-tail SegmentFits s ss h))

table_length : (ss : List CSeg) → length (table_numbers ss) ≡ 4 * length ss
table_length [] = refl
table_length (s ∷ ss) = let more = table_length ss in omega (arith, more)

-- ---- items

segment_forms : (k : ℕ) (ss : List CSeg) → k + length ss < 2 ^ 64 → All SegmentFits ss → All ItemHasForm (numbered Segment k (map segment_array ss))
segment_forms k [] few h = All-nil ItemHasForm
segment_forms k (s ∷ ss) few h =
    let one = All-head SegmentFits s ss h in
    All-cons ItemHasForm (Segment k (segment_array s)) (numbered Segment (k + 1) (map segment_array ss))
    (omega (arith, few), filled_form 8 (omega arith) s.bytes (omega (arith, one.file_fits)) one.bytes_fit)
    (segment_forms (k + 1) ss (omega (arith, few)) (All-tail SegmentFits s ss h))

declared_forms : (k : ℕ) (fs : List Function) → All FunctionHasForm fs → All ItemHasForm (numbered Declared k (map prototype_of fs))
declared_forms k [] h = All-nil ItemHasForm
declared_forms k (f ∷ fs) h =
    All-cons ItemHasForm (Declared k (prototype_of f)) (numbered Declared (k + 1) (map prototype_of fs)) (All-head FunctionHasForm f fs h).head
    (declared_forms (k + 1) fs (All-tail FunctionHasForm f fs h))

defined_forms : (k : ℕ) (fs : List Function) → All FunctionHasForm fs → All ItemHasForm (numbered Defined k fs)
defined_forms k [] h = All-nil ItemHasForm
defined_forms k (f ∷ fs) h =
    All-cons ItemHasForm (Defined k f) (numbered Defined (k + 1) fs) (All-head FunctionHasForm f fs h) (defined_forms (k + 1) fs (All-tail FunctionHasForm f fs h))

-- a program whose parts have forms has a text
pub parts_spelled : (p : Program) → All (λ n. n < 2 ^ 32) (header_numbers p.header) → SegmentsFit p.segments → All FunctionHasForm p.functions → p.entry < 2 ^ 32
    → All (λ n. n < 2 ^ 64) p.first → HasSpelling p
parts_spelled p header segments functions entry first =
    let P = ItemHasForm in
    let arrays = numbered Segment 0 (map segment_array p.segments) in
    let protos = numbered Declared 0 (map prototype_of p.functions) in
    let bodies = numbered Defined 0 p.functions in
    let main = Main p.entry p.first ∷ [] in
    let table = filled (table_numbers p.segments) in
    let machine = whole (header_numbers p.header) in
    record {
      each = All-cons P Include (Machine machine ∷ (arrays ++ Table table ∷ (protos ++ (bodies ++ main)))) tt (All-cons P (Machine machine) (arrays ++ Table table ∷ (protos ++ (bodies ++ main))) (record { length_fits = omega arith; each = header })
          (All-append P arrays (Table table ∷ (protos ++ (bodies ++ main))) (segment_forms 0 p.segments (omega (arith, segments.few)) segments.each)
          (All-cons P (Table table) (protos ++ (bodies ++ main))
          (filled_form 32 (omega arith) (table_numbers p.segments) (omega (arith, table_length p.segments, segments.few)) (table_narrow p.segments segments.each))
          (All-append P protos (bodies ++ main) (declared_forms 0 p.functions functions)
          (All-append P bodies main (defined_forms 0 p.functions functions) (All-cons P (Main p.entry p.first) [] (entry, first) (All-nil P)))))));
    }

-- ---- and back

All-back : {X : Type 0} (P : X → Type 0) (xs ys : List X) → All P (xs ++ ys) → All P ys
All-back P [] ys h = h
All-back P (x ∷ xs) ys h = All-back P xs ys (All-tail P x (xs ++ ys) h)

All-front : {X : Type 0} (P : X → Type 0) (xs ys : List X) → All P (xs ++ ys) → All P xs
All-front P [] ys h = All-nil P
All-front P (x ∷ xs) ys h = All-cons P x xs (All-head P x (xs ++ ys) h) (All-front P xs ys (All-tail P x (xs ++ ys) h))

functions_back : (k : ℕ) (fs : List Function) → All ItemHasForm (numbered Defined k fs) → All FunctionHasForm fs
functions_back k [] h = All-nil FunctionHasForm
functions_back k (f ∷ fs) h =
    All-cons FunctionHasForm f fs (All-head ItemHasForm (Defined k f) (numbered Defined (k + 1) fs) h)
    (functions_back (k + 1) fs (All-tail ItemHasForm (Defined k f) (numbered Defined (k + 1) fs) h))

-- the items from the prototypes on
abbrev code_items : Program → List Item
code_items p = numbered Declared 0 (map prototype_of p.functions) ++ (numbered Defined 0 p.functions ++ Main p.entry p.first ∷ [])

code_forms : (p : Program) → HasSpelling p → All ItemHasForm (numbered Defined 0 p.functions ++ Main p.entry p.first ∷ [])
code_forms p h =
    let P = ItemHasForm in
    let arrays = numbered Segment 0 (map segment_array p.segments) in
    let protos = numbered Declared 0 (map prototype_of p.functions) in
    let table = Table (filled (table_numbers p.segments)) in
    let machine = Machine (whole (header_numbers p.header)) in
    let behind_machine = All-tail P machine (arrays ++ table ∷ code_items p) (All-tail P Include (machine ∷ (arrays ++ table ∷ code_items p)) h.each) in
    All-back P protos (numbered Defined 0 p.functions ++ Main p.entry p.first ∷ []) (All-tail P table (code_items p) (All-back P arrays (table ∷ code_items p) behind_machine))

-- the functions of a program that has a text have forms
pub spelled_functions : (p : Program) → HasSpelling p → All FunctionHasForm p.functions
spelled_functions p h = functions_back 0 p.functions (All-front ItemHasForm (numbered Defined 0 p.functions) (Main p.entry p.first ∷ []) (code_forms p h))

-- and the address of its first call has 32 bits
pub spelled_entry : (p : Program) → HasSpelling p → p.entry < 2 ^ 32
spelled_entry p h = (All-head ItemHasForm (Main p.entry p.first) [] (All-back ItemHasForm (numbered Defined 0 p.functions) (Main p.entry p.first ∷ []) (code_forms p h))).0
