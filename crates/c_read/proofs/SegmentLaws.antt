-- Segments, by their arrays and the rows of their table.
use Rattle.std.proofs.Common.{◌≡◌, ℕ, ◌+◌, ◌*◌, ◌<◌, ◌≤◌, ◌^◌, Bool, true, false, ◌&&◌, ◌||◌, zero, suc, List, [], ◌∷◌, ◌++◌, length, map, get_or, take, drop, refl, sym, ap, ◌∙◌, arith}
use Rattle.std.specs.Prelude.{nat_le, not, ◌==◌}
use Rattle.std.specs.Cmp.Lexicographic.{pointwise}
use Rattle.std.proofs.lemmas.Bool.{and_from, and_parts, eqb-true, true≢false}
use Rattle.std.proofs.lemmas.Grind.{flat_map-append}
use Rattle.std.proofs.lemmas.List.{append-nil, take_all, take_more}
use Rattle.c_lang.specs.declared.tree.CSeg.{CSeg}
use Rattle.c_lang.specs.Items.{Array, filled, or_zero, segment_array, segment_numbers, table_numbers, whole}
use Rattle.c_lang.specs.StaticRules.{Row, each_holds, holds, is_flag, is_table, is_whole, rows}
use Rattle.c_read.specs.Combined.{Each}
use Rattle.c_read.specs.Programs.{AreSegments, IsFile, IsSegmentRow}
use Rattle.c_read.proofs.HeaderLaws.{each_at}

-- ---- arrays as long as they declare

abbrev is_zero : List ℕ → Bool
is_zero ns = pointwise (λ m n. m == n) ns (0 ∷ [])

zero_is : (ns : List ℕ) → is_zero ns ≡ true → ns ≡ 0 ∷ []
zero_is [] h = absurd (true≢false (sym h))
zero_is (n ∷ []) h = let p = and_parts (n == 0) true h in ap (λ m. m ∷ []) (eqb-true n 0 p.0)
zero_is (n ∷ m ∷ ns) h = let p = and_parts (n == 0) false h in absurd (true≢false (sym p.1))

record Whole (a : Array) : Type 0 where
  declares : a.declared ≡ length a.numbers
  some : 0 < length a.numbers

is_some : (n : ℕ) → not (n == 0) ≡ true → 0 < n
is_some zero h = absurd (true≢false (sym h))
is_some (suc n) h = omega arith

whole_is : (a : Array) → is_whole a ≡ true → Whole a
whole_is a h =
    let p = and_parts (a.declared == length a.numbers) (not (a.declared == 0)) h in
    let e = eqb-true a.declared (length a.numbers) p.0 in
    record { declares = e; some = omega (arith, e, is_some a.declared p.1) }

pub array_is : (a : Array) (ns : List ℕ) → is_whole a ≡ true → ns ≡ a.numbers → whole ns ≡ a
array_is a ns h e =
    let w = whole_is a h in
    ap whole e ∙ (λ i. record { declared = (sym w.declares) i; numbers = a.numbers })

or_zero_some : (ns : List ℕ) → 0 < length ns → or_zero ns ≡ ns
or_zero_some [] l = absurd (omega arith)
or_zero_some (n ∷ ns) l = refl

pub filled_is : (a : Array) (ns : List ℕ) → is_whole a ≡ true → ns ≡ a.numbers → filled ns ≡ a
filled_is a ns h e = array_is a (or_zero ns) h (ap or_zero e ∙ or_zero_some a.numbers (whole_is a h).some)

-- ---- the bytes of an array

either : (x y : Bool) → (x || y) ≡ true → (x ≡ false) → y ≡ true
either true y h n = absurd (true≢false n)
either false y h n = h

not_eqb : (m n : ℕ) → (m ≡ n → ⊥) → (m == n) ≡ false
not_eqb m n f = by (m == n) (eqb-true m n)
  where
    by : (b : Bool) → (b ≡ true → m ≡ n) → b ≡ false
    by true g = absurd (f (g refl))
    by false g = refl

pub none_held : (a : Array) (file : ℕ) → IsFile a file → file ≡ 0 → filled [] ≡ a
none_held a file h e =
    let w = whole_is a h.whole in
    let other = either (file == length a.numbers) ((file == 0) && is_zero a.numbers) h.holds_it (not_eqb file (length a.numbers) (λ q. absurd (omega (arith, q, e, w.some)))) in
    array_is a (0 ∷ []) h.whole (sym (zero_is a.numbers (and_parts (file == 0) (is_zero a.numbers) other).1))

pub all_held : (a : Array) (file : ℕ) → IsFile a file → (file ≡ 0 → ⊥) → length a.numbers ≡ file
all_held a file h n = by (file == length a.numbers) (eqb-true file (length a.numbers)) h.holds_it
  where
    by : (b : Bool) → (b ≡ true → file ≡ length a.numbers) → (b || ((file == 0) && is_zero a.numbers)) ≡ true → length a.numbers ≡ file
    by true g h = sym (g refl)
    by false g h = absurd (n (eqb-true file 0 (and_parts (file == 0) (is_zero a.numbers) h).0))

-- ---- one row

pub row_small : (a : Array) (row : List ℕ) (i : ℕ) → IsSegmentRow a row → i < length row → get_or row i 0 < 2 ^ 32
row_small a row i h l = each_at (λ n. n < 2 ^ 32) row i h.small l

record RowParts (a : Array) (row : List ℕ) : Type 0 where
  holds_it : ((get_or row 2 0 == length a.numbers) || ((get_or row 2 0 == 0) && is_zero a.numbers)) ≡ true
  flag : is_flag (get_or row 1 0) ≡ true

row_parts : (a : Array) (row : List ℕ) → length row ≡ 4 → each_holds (a ∷ []) (rows row) ≡ true → RowParts a row
row_parts a [] l h = absurd (omega (arith, l))
row_parts a (b ∷ []) l h = absurd (omega (arith, l))
row_parts a (b ∷ w ∷ []) l h = absurd (omega (arith, l))
row_parts a (b ∷ w ∷ f ∷ []) l h = absurd (omega (arith, l))
row_parts a (b ∷ w ∷ f ∷ n ∷ []) l h =
    let r : Row = record { base = b; write = w; file = f; len = n } in
    let p = and_parts (holds a r && is_flag w && nat_le f n) true h in
    let q = and_parts (holds a r && is_flag w) (nat_le f n) p.0 in
    let o = and_parts (holds a r) (is_flag w) q.0 in
    record { holds_it = o.0; flag = o.1 }
row_parts a (b ∷ w ∷ f ∷ n ∷ m ∷ more) l h = absurd (omega (arith, l))

pub row_file : (a : Array) (row : List ℕ) → IsSegmentRow a row → IsFile a (get_or row 2 0)
row_file a row h = record { bytes = h.bytes; whole = h.whole; holds_it = (row_parts a row h.four h.holds_it).holds_it }

pub row_flag : (a : Array) (row : List ℕ) → IsSegmentRow a row → is_flag (get_or row 1 0) ≡ true
row_flag a row h = (row_parts a row h.four h.holds_it).flag

-- ---- all rows

-- the numbers of a table are four for each array, with their rows
record Rows (as' : List Array) (ns : List ℕ) : Type 0 where
  long : length ns ≡ 4 * length as'
  hold : each_holds as' (rows ns) ≡ true

table_rows : (as' : List Array) (t : Array) → 0 < length as' → is_table as' t ≡ true → Rows as' t.numbers
table_rows [] t l h = absurd (omega arith)
table_rows (a ∷ as') t l h =
    let p = and_parts (length t.numbers == 4 * length (a ∷ as')) (each_holds (a ∷ as') (rows t.numbers)) h in
    record { long = eqb-true (length t.numbers) (4 * length (a ∷ as')) p.0; hold = p.1 }

each_taken : (P : ℕ → Type 0) (k : ℕ) (ns : List ℕ) → Each P ns → Each P (take k ns)
each_taken P zero ns h = tt
each_taken P (suc k) [] h = tt
each_taken P (suc k) (n ∷ ns) h = (h.0, each_taken P k ns h.1)

abbrev Small : ℕ → Type 0
Small n = n < 2 ^ 32

abbrev Bytes : Array → Type 0
Bytes a = Each (λ n. n < 256) a.numbers

abbrev IsWhole : Array → Type 0
IsWhole a = is_whole a ≡ true

row_at : (as' : List Array) (ns : List ℕ) (i : ℕ) (d : Array) → i < length as' → Each Bytes as' → Each IsWhole as' → Each Small ns → length ns ≡ 4 * length as' → each_holds as' (rows ns) ≡ true → IsSegmentRow (get_or as' i d) (take 4 (drop (4 * i) ns))
row_at [] ns i d l bytes each small long hold = absurd (omega arith)
row_at (a ∷ as') [] i d l bytes each small long hold = absurd (omega (arith, long))
row_at (a ∷ as') (b ∷ []) i d l bytes each small long hold = absurd (omega (arith, long))
row_at (a ∷ as') (b ∷ w ∷ []) i d l bytes each small long hold = absurd (omega (arith, long))
row_at (a ∷ as') (b ∷ w ∷ f ∷ []) i d l bytes each small long hold = absurd (omega (arith, long))
row_at (a ∷ as') (b ∷ w ∷ f ∷ n ∷ ns) zero d l bytes each small long hold =
    let r : Row = record { base = b; write = w; file = f; len = n } in
    let p = and_parts (holds a r && is_flag w && nat_le f n) (each_holds as' (rows ns)) hold in
    record { bytes = bytes.0; whole = each.0; four = refl; small = (small.0, (small.1.0, (small.1.1.0, (small.1.1.1.0, tt)))); holds_it = and_from (holds a r && is_flag w && nat_le f n) true p.0 refl }
row_at (a ∷ as') (b ∷ w ∷ f ∷ n ∷ ns) (suc i) d l bytes each small long hold =
    let r : Row = record { base = b; write = w; file = f; len = n } in
    let p = and_parts (holds a r && is_flag w && nat_le f n) (each_holds as' (rows ns)) hold in
    let more : 4 * suc i ≡ suc (suc (suc (suc (4 * i)))) = omega arith in
    rw more (row_at as' ns i d (omega arith) bytes.1 each.1 small.1.1.1.1 (omega (arith, long)) p.1)

pub row_stands : (as' : List Array) (t : Array) (i : ℕ) (d : Array) → AreSegments as' t → i < length as' → IsSegmentRow (get_or as' i d) (take 4 (drop (4 * i) t.numbers))
row_stands as' t i d h l = let r = table_rows as' t (omega (arith, l)) h.rows_are in row_at as' t.numbers i d l h.bytes h.each h.small r.long r.hold

pub row_within : (as' : List Array) (t : Array) (i : ℕ) → AreSegments as' t → i < length as' → 4 * i + 4 ≤ length t.numbers
row_within as' t i h l = omega (arith, l, (table_rows as' t (omega (arith, l)) h.rows_are).long)

-- ---- the loop over rows

-- so many segments are there
pub record Made (as' : List Array) (t : Array) (i : ℕ) (ss : List CSeg) : Type 0 where
  pub arrays : map segment_array ss ≡ take i as'
  pub numbers : table_numbers ss ≡ take (4 * i) t.numbers

pub made_none : (as' : List Array) (t : Array) → Made as' t 0 []
made_none as' t = record { arrays = refl; numbers = refl }

map_both : (xs ys : List CSeg) → map segment_array (xs ++ ys) ≡ map segment_array xs ++ map segment_array ys
map_both [] ys = refl
map_both (x ∷ xs) ys = ap (λ l. segment_array x ∷ l) (map_both xs ys)

take_both : (k m : ℕ) (ns : List ℕ) → take (k + m) ns ≡ take k ns ++ take m (drop k ns)
take_both zero m ns = let e : 0 + m ≡ m = omega arith in ap (λ j. take j ns) e
take_both (suc k) zero [] = let e : suc k + 0 ≡ suc k = omega arith in rw e refl
take_both (suc k) (suc m) [] = let e : suc k + suc m ≡ suc (k + suc m) = omega arith in rw e refl
take_both (suc k) m (n ∷ ns) = let e : suc k + m ≡ suc (k + m) = omega arith in rw e (ap (λ l. n ∷ l) (take_both k m ns))

pub made_more : (as' : List Array) (t : Array) (i : ℕ) (ss new : List CSeg) (s : CSeg) (d : Array) → i < length as' → Made as' t i ss → segment_array s ≡ get_or as' i d → segment_numbers s ≡ take 4 (drop (4 * i) t.numbers) → new ≡ ss ++ s ∷ [] → Made as' t (i + 1) new
made_more as' t i ss new s d l m a r e =
    let four : 4 * (i + 1) ≡ 4 * i + 4 = omega arith in
    record {
      arrays = ap (map segment_array) e ∙ map_both ss (s ∷ []) ∙ (λ j. m.arrays j ++ a j ∷ []) ∙ sym (take_more as' i d l);
      numbers = ap table_numbers e ∙ flat_map-append segment_numbers ss (s ∷ []) ∙ ap (λ l. table_numbers ss ++ l) (append-nil (segment_numbers s)) ∙ (λ j. m.numbers j ++ r j) ∙ sym (take_both (4 * i) 4 t.numbers) ∙ ap (λ k. take k t.numbers) (sym four);
    }

pub made_arrays : (as' : List Array) (t : Array) (i : ℕ) (ss : List CSeg) → Made as' t i ss → length as' ≤ i → map segment_array ss ≡ as'
made_arrays as' t i ss m l = m.arrays ∙ take_all i as' l

none_made : (ss : List CSeg) → map segment_array ss ≡ [] → ss ≡ []
none_made [] e = refl
none_made (s ∷ ss) e = absurd (cc)

pub made_table : (as' : List Array) (t : Array) (i : ℕ) (ss : List CSeg) → AreSegments as' t → Made as' t i ss → length as' ≤ i → filled (table_numbers ss) ≡ t
made_table [] t i ss h m l = ap (λ ss. filled (table_numbers ss)) (none_made ss (made_arrays [] t i ss m l)) ∙ array_is t (0 ∷ []) h.whole (sym (zero_is t.numbers h.rows_are))
made_table (a ∷ as') t i ss h m l =
    let r = table_rows (a ∷ as') t (omega arith) h.rows_are in
    filled_is t (table_numbers ss) h.whole (m.numbers ∙ take_all (4 * i) t.numbers (omega (arith, l, r.long)))
