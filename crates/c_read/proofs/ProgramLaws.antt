-- What a text that keeps the static rules has at each of its parts, and the program of these.
use Rattle.std.proofs.Common.{◌≡◌, ℕ, ◌+◌, ◌<◌, ◌≤◌, ◌^◌, Bool, true, false, cond, ◌&&◌, zero, suc, List, [], ◌∷◌, ◌++◌, length, map, take, drop, slice_get, Option, Some, None, option_map, refl, sym, ap, ◌∙◌, subst, arith}
use Rattle.std.specs.Prelude.{◌==◌, nat_le, slice_index}
use Rattle.std.specs.List.{All, list_all}
use Rattle.std.specs.Option.{option_or}
use Rattle.std.specs.Cmp.Lexicographic.{pointwise, same_text}
use Rattle.std.proofs.lemmas.Bool.{and_from, and_parts, eqb-true, leb-true, true≢false}
use Rattle.std.proofs.lemmas.List.{take_all}
use Rattle.std.proofs.lemmas.List.Elements.{All-head, All-tail}
use Rattle.c_lang.specs.declared.tree.Function.{Function}
use Rattle.c_lang.specs.declared.tree.Header.{Header}
use Rattle.c_lang.specs.declared.tree.CSeg.{CSeg}
use Rattle.c_lang.specs.Items.{Array, Prototype, Text, Item, Include, Machine, Segment, Table, Declared, Defined, Main, filled, header_numbers, items, mentions, numbered, prototype_of, segment_array, table_numbers, text_of}
use Rattle.c_lang.specs.Spellable.{ItemHasForm}
use Rattle.c_lang.specs.StaticRules.{broken_by, counted, first_broken, is_declared, is_flag, is_like, is_table, is_whole, known, once, placed, sized, small}
use Rattle.c_lang.proofs.StaticLaws.{parts as kept_parts}
use Rattle.c_rules.specs.declared.parts.Parts.{Parts}
use Rattle.c_rules.specs.Texts.{text}
use Rattle.c_read.specs.Combined.{Each}
use Rattle.c_read.specs.Programs.{AreHeader, AreSegments, MayBeProgram}
use Rattle.c_read.proofs.Forms.{all_each}
use Rattle.c_read.proofs.SegmentLaws.{array_is}
use Rattle.c_read.proofs.Whole.{left_all, right_all}

-- ---- the rules that an item keeps

passed : (b : Bool) (o : Option ℕ) (k : ℕ) → cond b o (Some k) ≡ None → (b ≡ true) × (o ≡ None)
passed true o k e = (refl, e)
passed false o k e = absurd (let z : Some k ≡ None = e in cc)

record Kept (t : Text) (i : Item) : Type 0 where
  known_is : known t i ≡ true
  sized_is : sized t i ≡ true
  small_is : small t i ≡ true

kept : (t : Text) (i : Item) → broken_by t i ≡ None → Kept t i
kept t i e =
    let o6 : Option ℕ = cond (small t i) None (Some 6) in
    let o5 : Option ℕ = cond (placed t i) o6 (Some 5) in
    let o4 : Option ℕ = cond (sized t i) o5 (Some 4) in
    let o3 : Option ℕ = cond (counted t i) o4 (Some 3) in
    let o2 : Option ℕ = cond (known t i) o3 (Some 2) in
    let a = passed (once t i) o2 1 e in
    let b = passed (known t i) o3 2 a.1 in
    let c = passed (counted t i) o4 3 b.1 in
    let d = passed (sized t i) o5 4 c.1 in
    let f = passed (placed t i) o6 5 d.1 in
    let g = passed (small t i) None 6 f.1 in
    record { known_is = b.0; sized_is = d.0; small_is = g.0 }

unbroken : (i : ℕ) (o : Option ℕ) (rest : Option (ℕ × ℕ)) → option_or (option_map (λ k. (i, k)) o) rest ≡ None → (o ≡ None) × (rest ≡ None)
unbroken i None rest e = (refl, e)
unbroken i (Some k) rest e = absurd (let z : Some (i, k) ≡ None = e in cc)

record AllKept (t : Text) (xs : List Item) : Type 0 where
  known_are : list_all (known t) xs ≡ true
  sized_are : list_all (sized t) xs ≡ true
  small_are : list_all (small t) xs ≡ true

all_kept : (t : Text) (i : ℕ) (xs : List Item) → first_broken t i xs ≡ None → AllKept t xs
all_kept t i [] e = record { known_are = refl; sized_are = refl; small_are = refl }
all_kept t i (x ∷ xs) e =
    let h = unbroken i (broken_by t x) (first_broken t (i + 1) xs) e in
    let one = kept t x h.0 in
    let rest = all_kept t (i + 1) xs h.1 in
    record {
      known_are = and_from (known t x) (list_all (known t) xs) one.known_is rest.known_are;
      sized_are = and_from (sized t x) (list_all (sized t) xs) one.sized_is rest.sized_are;
      small_are = and_from (small t x) (list_all (small t) xs) one.small_is rest.small_are;
    }

-- ---- the header

record MachineKept (a : Array) : Type 0 where
  whole_is : is_whole a ≡ true
  long : length a.numbers ≡ 14
  order : is_flag (slice_index a.numbers 0) ≡ true
  align : is_flag (slice_index a.numbers 1) ≡ true
  carry : is_flag (slice_index a.numbers 13) ≡ true

machine_kept : (a : Array) → (is_whole a && (length a.numbers == 14) && is_flag (slice_index a.numbers 0) && is_flag (slice_index a.numbers 1) && is_flag (slice_index a.numbers 13)) ≡ true → MachineKept a
machine_kept a k =
    let p = and_parts (is_whole a && (length a.numbers == 14) && is_flag (slice_index a.numbers 0) && is_flag (slice_index a.numbers 1)) (is_flag (slice_index a.numbers 13)) k in
    let q = and_parts (is_whole a && (length a.numbers == 14) && is_flag (slice_index a.numbers 0)) (is_flag (slice_index a.numbers 1)) p.0 in
    let r = and_parts (is_whole a && (length a.numbers == 14)) (is_flag (slice_index a.numbers 0)) q.0 in
    let s = and_parts (is_whole a) (length a.numbers == 14) r.0 in
    record { whole_is = s.0; long = eqb-true (length a.numbers) 14 s.1; order = r.1; align = q.1; carry = p.1 }

pub header_may : (parts : Parts) → MayBeProgram parts → AreHeader parts.machine.numbers
header_may parts h =
    let t = text parts in
    let m = machine_kept t.machine (kept_parts (sized t) t (all_kept t 0 (items t) h.keeps).sized_are).machine in
    let rest = numbered Segment 0 t.segments ++ (Table t.table ∷ (numbered Declared 0 t.prototypes ++ (numbered Defined 0 t.functions ++ Main t.entry t.first ∷ []))) in
    let forms = All-tail ItemHasForm Include (Machine t.machine ∷ rest) h.forms in
    record {
      long = m.long;
      small = all_each (λ n. n < 2 ^ 32) (λ n. n < 2 ^ 32) (λ n l. l) t.machine.numbers (All-head ItemHasForm (Machine t.machine) rest forms).each;
      order = m.order;
      align = m.align;
      carry = m.carry;
    }

machine_whole : (parts : Parts) → MayBeProgram parts → is_whole parts.machine ≡ true
machine_whole parts h =
    let t = text parts in
    (machine_kept t.machine (kept_parts (sized t) t (all_kept t 0 (items t) h.keeps).sized_are).machine).whole_is

-- ---- the segments

abbrev IsWhole : Array → Type 0
IsWhole a = is_whole a ≡ true

abbrev Bytes : Array → Type 0
Bytes a = Each (λ n. n < 256) a.numbers

whole_each : (t : Text) (k : ℕ) (ss : List Array) → list_all (sized t) (numbered Segment k ss) ≡ true → Each IsWhole ss
whole_each t k [] h = tt
whole_each t k (s ∷ ss) h = let p = and_parts (is_whole s) (list_all (sized t) (numbered Segment (k + 1) ss)) h in (p.0, whole_each t (k + 1) ss p.1)

bytes_each : (k : ℕ) (ss : List Array) → All ItemHasForm (numbered Segment k ss) → Each Bytes ss
bytes_each k [] h = tt
bytes_each k (s ∷ ss) h =
    let rest = numbered Segment (k + 1) ss in
    (all_each (λ n. n < 2 ^ 8) (λ n. n < 256) (λ n l. l) s.numbers (All-head ItemHasForm (Segment k s) rest h).1.each, bytes_each (k + 1) ss (All-tail ItemHasForm (Segment k s) rest h))

pub segments_may : (parts : Parts) → MayBeProgram parts → AreSegments parts.segments parts.table
segments_may parts h =
    let t = text parts in
    let k = kept_parts (sized t) t (all_kept t 0 (items t) h.keeps).sized_are in
    let p = and_parts (is_whole t.table) (is_table t.segments t.table) k.table in
    let code = numbered Declared 0 t.prototypes ++ (numbered Defined 0 t.functions ++ Main t.entry t.first ∷ []) in
    let ss = numbered Segment 0 t.segments in
    let f1 = All-tail ItemHasForm Include (Machine t.machine ∷ (ss ++ (Table t.table ∷ code))) h.forms in
    let f2 = All-tail ItemHasForm (Machine t.machine) (ss ++ (Table t.table ∷ code)) f1 in
    let f3 = right_all ItemHasForm ss (Table t.table ∷ code) f2 in
    record {
      bytes = bytes_each 0 t.segments (left_all ItemHasForm ss (Table t.table ∷ code) f2);
      each = whole_each t 0 t.segments k.segments;
      whole = p.0;
      small = all_each (λ n. n < 2 ^ 32) (λ n. n < 2 ^ 32) (λ n l. l) t.table.numbers (All-head ItemHasForm (Table t.table) code f3).each;
      rows_are = p.1;
    }

-- ---- the functions

abbrev IsSmall : Function → Type 0
IsSmall f = f.temps < 2 ^ 16

small_each : (t : Text) (k : ℕ) (fs : List Function) → list_all (small t) (numbered Defined k fs) ≡ true → Each IsSmall fs
small_each t k [] h = tt
small_each t k (f ∷ fs) h =
    let p = and_parts (small t (Defined k f)) (list_all (small t) (numbered Defined (k + 1) fs)) h in
    let q = and_parts (nat_le (length f.params + length f.cells) 120 && nat_le f.temps 512) (nat_le (length f.blocks) 131072) p.0 in
    let r = and_parts (nat_le (length f.params + length f.cells) 120) (nat_le f.temps 512) q.0 in
    (omega (arith, leb-true f.temps 512 r.1), small_each t (k + 1) fs p.1)

pub functions_may : (parts : Parts) → MayBeProgram parts → Each IsSmall parts.functions
functions_may parts h =
    let t = text parts in
    small_each t 0 t.functions (kept_parts (small t) t (all_kept t 0 (items t) h.keeps).small_are).functions

-- ---- the prototypes are those of the functions

like_is : (p q : Prototype) → is_like p (Some q) ≡ true → p ≡ q
like_is p q h =
    let a = and_parts (p.entry == q.entry) (pointwise (λ c d. c == d) p.params q.params) h in
    (λ i. record { entry = eqb-true p.entry q.entry a.0 i; params = same_text p.params q.params (sym a.1) i })

like_there : (p : Prototype) (fs : List Function) (k : ℕ) → is_like p (option_map prototype_of (slice_get fs k)) ≡ true → (f : Function) × (drop k fs ≡ f ∷ drop (k + 1) fs) × (p ≡ prototype_of f)
like_there p [] k h = absurd (true≢false (sym h))
like_there p (f ∷ fs) zero h = (f, refl, like_is p (prototype_of f) h)
like_there p (f ∷ fs) (suc k) h =
    let r = like_there p fs k h in
    let more : suc k + 1 ≡ suc (k + 1) = omega arith in
    (r.0, r.1 ∙ ap (λ j. r.0 ∷ drop j (f ∷ fs)) (sym more), r.2)

-- so many prototypes are those of functions from a place on
record Lead (ps : List Prototype) (fs : List Function) : Type 0 where
  within : length ps ≤ length fs
  same : map prototype_of (take (length ps) fs) ≡ ps

lead : (t : Text) (k : ℕ) (ps : List Prototype) → list_all (known t) (numbered Declared k ps) ≡ true → Lead ps (drop k t.functions)
lead t k [] h = record { within = omega arith; same = refl }
lead t k (p ∷ ps) h =
    let a = and_parts (known t (Declared k p)) (list_all (known t) (numbered Declared (k + 1) ps)) h in
    let f = like_there p t.functions k a.0 in
    let r = lead t (k + 1) ps a.1 in
    subst (Lead (p ∷ ps)) (sym f.1) (record { within = omega (arith, r.within); same = (λ i. (sym f.2) i ∷ r.same i) })

like_within : (p : Prototype) (ps : List Prototype) (k : ℕ) → is_like p (slice_get ps k) ≡ true → k < length ps
like_within p [] k h = absurd (true≢false (sym h))
like_within p (q ∷ ps) zero h = omega arith
like_within p (q ∷ ps) (suc k) h = omega (arith, like_within p ps k h)

no_more : (t : Text) (k : ℕ) (fs : List Function) → list_all (known t) (numbered Defined k fs) ≡ true → k ≤ length t.prototypes → k + length fs ≤ length t.prototypes
no_more t k [] h l = omega (arith, l)
no_more t k (f ∷ fs) h l =
    let a = and_parts (known t (Defined k f)) (list_all (known t) (numbered Defined (k + 1) fs)) h in
    let b = and_parts (is_like (prototype_of f) (slice_get t.prototypes k)) (list_all (is_declared t f) (mentions f)) a.0 in
    let in_it = like_within (prototype_of f) t.prototypes k b.0 in
    omega (arith, no_more t (k + 1) fs a.1 (omega (arith, in_it)))

prototypes_are : (parts : Parts) → MayBeProgram parts → map prototype_of parts.functions ≡ parts.prototypes
prototypes_are parts h =
    let t = text parts in
    let k = kept_parts (known t) t (all_kept t 0 (items t) h.keeps).known_are in
    let l = lead t 0 t.prototypes k.prototypes in
    let n = no_more t 0 t.functions k.functions (omega arith) in
    ap (map prototype_of) (sym (take_all (length t.prototypes) t.functions (omega (arith, n)))) ∙ l.same

-- ---- the program

pub program_same : (parts : Parts) (header : Header) (segments : List CSeg) (functions : List Function) → MayBeProgram parts → header_numbers header ≡ parts.machine.numbers → map segment_array segments ≡ parts.segments
    → filled (table_numbers segments) ≡ parts.table → functions ≡ parts.functions
    → text_of (record { header = header; segments = segments; functions = functions; entry = parts.entry; first = parts.first }) ≡ text parts
program_same parts header segments functions h m s t f =
    let machine = array_is parts.machine (header_numbers header) (machine_whole parts h) m in
    let prototypes = ap (map prototype_of) f ∙ prototypes_are parts h in
    (λ i. record { machine = machine i; segments = s i; table = t i; prototypes = prototypes i; functions = f i; entry = parts.entry; first = parts.first })
