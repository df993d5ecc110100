-- What a program that keeps the static rules has at each of its parts.
use Rattle.std.proofs.Common.{◌≡◌, ℕ, zero, suc, ◌+◌, Bool, true, false, true≢false, List, [], ◌∷◌, ◌++◌, map, length, slice_get, Option, Some, None, option_map, refl, sym, ap, ◌∙◌, subst, arith}
use Rattle.std.proofs.lemmas.Bool.{and_parts, and_from}
use Rattle.std.proofs.lemmas.List.Folds.{list_all-append}
use Rattle.std.specs.List.{list_all}
use Rattle.std.specs.Option.{option_or}
use Rattle.rtl_core.specs.Arithmetic.{flag}
use Rattle.c_lang.specs.declared.tree.CSeg.{CSeg}
use Rattle.c_lang.specs.declared.tree.Function.{Function}
use Rattle.c_lang.specs.declared.tree.Program.{Program}
use Rattle.c_lang.specs.Items.{Text, Item, Include, Machine, Segment, Table, Declared, Defined, Main, numbered, items, text_of, table_numbers, filled}
use Rattle.c_lang.specs.StaticRules.{Row, rows, Keeps, KeepsRule, IsStatic, rules, once, known, counted, sized, placed, small, first_failed, broken_by, first_broken, static_fault}

-- the row of a segment
abbrev pub row_of : CSeg → Row
row_of s = record { base = s.base; write = flag s.write; file = length s.bytes; len = s.len }

-- the rows of a program's table are its segments
pub rows-table : (ss : List CSeg) → rows (table_numbers ss) ≡ map row_of ss
rows-table [] = refl
rows-table (s ∷ ss) = ap (λ rs. row_of s ∷ rs) (rows-table ss)

pub rows-filled : (ss : List CSeg) → rows (filled (table_numbers ss)).numbers ≡ map row_of ss
rows-filled [] = refl
rows-filled (s ∷ ss) = rows-table (s ∷ ss)

-- what all numbered members keep, each keeps
numbered-at : {A : Type 0} (test : Item → Bool) (item : ℕ → A → Item) (i k : ℕ) (xs : List A) (x : A) → list_all test (numbered item i xs) ≡ true → slice_get xs k ≡ Some x
    → test (item (i + k) x) ≡ true
numbered-at test item i k [] x h e = absurd (let z : None ≡ Some x = e in cc)
numbered-at test item i zero (y ∷ xs) x h e =
    let p = and_parts (test (item i y)) (list_all test (numbered item (i + 1) xs)) h in
    let z : y ≡ x = cc in
    let n : i + 0 ≡ i = omega arith in
    rw (n, ← z) p.0
numbered-at test item i (suc k) (y ∷ xs) x h e =
    let p = and_parts (test (item i y)) (list_all test (numbered item (i + 1) xs)) h in
    let n : i + suc k ≡ i + 1 + k = omega arith in
    rw n (numbered-at test item (i + 1) k xs x p.1 e)

-- the parts of a test of all items of a text
pub record Parts (test : Item → Bool) (t : Text) : Type 0 where
  pub machine : test (Machine t.machine) ≡ true
  pub segments : list_all test (numbered Segment 0 t.segments) ≡ true
  pub table : test (Table t.table) ≡ true
  pub prototypes : list_all test (numbered Declared 0 t.prototypes) ≡ true
  pub functions : list_all test (numbered Defined 0 t.functions) ≡ true
  pub main : test (Main t.entry t.first) ≡ true

pub parts : (test : Item → Bool) (t : Text) → list_all test (items t) ≡ true → Parts test t
parts test t h =
    let arrays = numbered Segment 0 t.segments in
    let protos = numbered Declared 0 t.prototypes in
    let bodies = numbered Defined 0 t.functions in
    let main = Main t.entry t.first in
    let a = and_parts (test Include) _ h in
    let b = and_parts (test (Machine t.machine)) _ a.1 in
    let c = and_parts (list_all test (arrays)) (list_all test (Table t.table ∷ (protos ++ (bodies ++ main ∷ [])))) (sym (list_all-append test (arrays) (Table t.table ∷ (protos ++ (bodies ++ main ∷ [])))) ∙ b.1) in
    let d = and_parts (test (Table t.table)) (list_all test (protos ++ (bodies ++ main ∷ []))) c.1 in
    let e = and_parts (list_all test protos) (list_all test (bodies ++ main ∷ [])) (sym (list_all-append test protos (bodies ++ main ∷ [])) ∙ d.1) in
    let f = and_parts (list_all test bodies) (list_all test (main ∷ [])) (sym (list_all-append test bodies (main ∷ [])) ∙ e.1) in
    let g = and_parts (test main) true f.1 in
    record { machine = b.0; segments = c.0; table = d.0; prototypes = e.0; functions = f.0; main = g.0 }

-- each function of a program keeps a rule that the program keeps
pub function-keeps : (rule : Text → Item → Bool) (p : Program) (k : ℕ) (f : Function) → Keeps rule p → slice_get p.functions k ≡ Some f
    → rule (text_of p) (Defined k f) ≡ true
function-keeps rule p k f h e =
    let r = numbered-at (rule (text_of p)) Defined 0 k p.functions f (parts (rule (text_of p)) (text_of p) h).functions e in
    let n : 0 + k ≡ k = omega arith in
    let P : ℕ → Type 0 = λ i. rule (text_of p) (Defined i f) ≡ true in
    subst P n r

-- the numbers of the rules
pub static-rule : (p : Program) → IsStatic p → KeepsRule 1 p × KeepsRule 2 p × KeepsRule 3 p × KeepsRule 4 p × KeepsRule 5 p × KeepsRule 6 p
static-rule p s = (s.once, s.known, s.counted, s.sized, s.placed, s.small)

-- ---- no fault

none-failed : (k : ℕ) (tests : List Bool) → first_failed k tests ≡ None → list_all (λ b. b) tests ≡ true
none-failed k [] e = refl
none-failed k (true ∷ tests) e = none-failed (k + 1) tests e
none-failed k (false ∷ tests) e = absurd (let z : Some k ≡ None = e in cc)

all-kept : (k : ℕ) (tests : List Bool) → list_all (λ b. b) tests ≡ true → first_failed k tests ≡ None
all-kept k [] e = refl
all-kept k (true ∷ tests) e = all-kept (k + 1) tests e
all-kept k (false ∷ tests) e = absurd (true≢false (sym e))

-- what an item keeps
record KeepsAll (t : Text) (item : Item) : Type 0 where
  once : once t item ≡ true
  known : known t item ≡ true
  counted : counted t item ≡ true
  sized : sized t item ≡ true
  placed : placed t item ≡ true
  small : small t item ≡ true

unbroken : (t : Text) (item : Item) → broken_by t item ≡ None → KeepsAll t item
unbroken t item e =
    let a = and_parts (once t item) _ (none-failed 1 (map (λ rule. rule t item) rules) e) in
    let b = and_parts (known t item) _ a.1 in
    let c = and_parts (counted t item) _ b.1 in
    let d = and_parts (sized t item) _ c.1 in
    let f = and_parts (placed t item) _ d.1 in
    let g = and_parts (small t item) true f.1 in
    record { once = a.0; known = b.0; counted = c.0; sized = d.0; placed = f.0; small = g.0 }

-- no item breaks a rule where none is told
record NoneBroken (t : Text) (xs : List Item) : Type 0 where
  each : (rule : Text → Item → Bool) → ((item : Item) → KeepsAll t item → rule t item ≡ true) → list_all (rule t) xs ≡ true

none-or : (i : ℕ) (o : Option ℕ) (rest : Option (ℕ × ℕ)) → option_or (option_map (λ k. (i, k)) o) rest ≡ None → (o ≡ None) × (rest ≡ None)
none-or i None rest e = (refl, e)
none-or i (Some k) rest e = absurd (let z : Some (i, k) ≡ None = e in cc)

none-broken : (t : Text) (i : ℕ) (xs : List Item) → first_broken t i xs ≡ None → NoneBroken t xs
none-broken t i [] e = record { each = λ rule says. refl }
none-broken t i (item ∷ xs) e =
    let h = none-or i (broken_by t item) (first_broken t (i + 1) xs) e in
    let rest = none-broken t (i + 1) xs h.1 in
    record { each = λ rule says. and_from (rule t item) (list_all (rule t) xs) (says item (unbroken t item h.0)) (rest.each rule says) }

-- a program whose text has no fault is static
pub faultless-static : (p : Program) → static_fault (text_of p) ≡ None → IsStatic p
faultless-static p e =
    let h = none-broken (text_of p) 0 (items (text_of p)) e in
    record {
      once = h.each once (λ item k. k.once);
      known = h.each known (λ item k. k.known);
      counted = h.each counted (λ item k. k.counted);
      sized = h.each sized (λ item k. k.sized);
      placed = h.each placed (λ item k. k.placed);
      small = h.each small (λ item k. k.small);
    }

or-none : (i : ℕ) (o : Option ℕ) (rest : Option (ℕ × ℕ)) → o ≡ None → rest ≡ None → option_or (option_map (λ k. (i, k)) o) rest ≡ None
or-none i None rest e f = f
or-none i (Some k) rest e f = absurd (let z : Some k ≡ None = e in cc)

kept : (t : Text) (item : Item) → KeepsAll t item → broken_by t item ≡ None
kept t item k =
    all-kept 1 (map (λ rule. rule t item) rules)
    (and_from _ _ k.once (and_from _ _ k.known (and_from _ _ k.counted (and_from _ _ k.sized (and_from _ _ k.placed (and_from _ _ k.small refl))))))

none-told : (t : Text) (i : ℕ) (xs : List Item) → list_all (once t) xs ≡ true → list_all (known t) xs ≡ true → list_all (counted t) xs ≡ true → list_all (sized t) xs ≡ true
    → list_all (placed t) xs ≡ true → list_all (small t) xs ≡ true → first_broken t i xs ≡ None
none-told t i [] a b c d e f = refl
none-told t i (item ∷ xs) a b c d e f =
    let p = and_parts (once t item) (list_all (once t) xs) a in
    let q = and_parts (known t item) (list_all (known t) xs) b in
    let r = and_parts (counted t item) (list_all (counted t) xs) c in
    let s = and_parts (sized t item) (list_all (sized t) xs) d in
    let u = and_parts (placed t item) (list_all (placed t) xs) e in
    let v = and_parts (small t item) (list_all (small t) xs) f in
    or-none i (broken_by t item) (first_broken t (i + 1) xs) (kept t item (record { once = p.0; known = q.0; counted = r.0; sized = s.0; placed = u.0; small = v.0 }))
    (none-told t (i + 1) xs p.1 q.1 r.1 s.1 u.1 v.1)

-- the text of a static program has no fault
pub static-faultless : (p : Program) → IsStatic p → static_fault (text_of p) ≡ None
static-faultless p s = none-told (text_of p) 0 (items (text_of p)) s.once s.known s.counted s.sized s.placed s.small
