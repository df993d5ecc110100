-- Spans of the code, one after another, and rows of a table.
use Rattle.std.proofs.Common.{◌≡◌, ℕ, suc, ◌+◌, ◌-◌, ◌<◌, ◌≤◌, Bool, true, false, ◌&&◌, List, [], ◌∷◌, ◌++◌, length, drop, get_or, map, refl, sym, ap, ◌∙◌, arith, length-drop, append_assoc}
use Rattle.std.specs.Prelude.{nat_le, sum_by, ◌==◌, ◌||◌}
use Rattle.std.specs.List.{list_all}
use Rattle.std.specs.List.Sorted.{IsNonDecreasingBy, IsPermutation}
use Rattle.std.proofs.lemmas.Bool.{and_right, le-leb, ne_eqb}
use Rattle.std.proofs.lemmas.List.{append-nil, drop-drop, drop_all, drop_more, get_or-drop, map_push}
use Rattle.std.proofs.lemmas.List.Sums.{sum_by-drop_more}
use Rattle.std.proofs.lemmas.List.Sorted.{IsPermutation-map}
use Rattle.c_lang.specs.Items.{Array}
use Rattle.c_lang.specs.StaticRules.{Range, Row, rows, each_holds, holds, is_flag, is_below_end, no_two, share_byte}
use Rattle.c_rules.specs.declared.spans.Span.{Span}
use Rattle.c_rules.specs.Spans.{are_apart, range, row_range}
use Rattle.c_rules.proofs.Ascending.{Ascend, apart_ascending}
use Rattle.c_rules.proofs.Pairs.{same_apart}

-- ---- the walk over sorted spans

next_span : (end : ℕ) (spans : List Span) (i : ℕ) (s : Span) → i < length spans → s ≡ get_or spans i s → are_apart end (map range (drop i spans)) ≡ are_apart end (range s ∷ map range (drop (i + 1) spans))
next_span end spans i s l is = ap (λ ss. are_apart end (map range ss)) (drop_more spans i s l ∙ ap (λ x. x ∷ drop (i + 1) spans) (sym is))

pub empty_span : (whole : Bool) (end : ℕ) (spans : List Span) (i : ℕ) (s : Span) → i < length spans → s ≡ get_or spans i s → whole ≡ are_apart end (map range (drop i spans)) → s.len ≡ 0 → whole ≡ are_apart end (map range (drop (i + 1) spans))
empty_span whole end spans i s l is h e = h ∙ next_span end spans i s l is ∙ rw e refl

full : (n : ℕ) → 0 < n → (n == 0) ≡ false
full n l = ne_eqb n 0 (λ z. omega (arith, z))

pub early_span : (whole : Bool) (end : ℕ) (spans : List Span) (i : ℕ) (s : Span) → i < length spans → s ≡ get_or spans i s → whole ≡ are_apart end (map range (drop i spans)) → 0 < s.len → s.base < end → false ≡ whole
early_span whole end spans i s l is h e f = sym (h ∙ next_span end spans i s l is ∙ rw (full s.len e, above end s.base f) refl)
  where
    above : (m n : ℕ) → n < m → nat_le m n ≡ false
    above m n h = grind arith

pub later_span : (whole : Bool) (end : ℕ) (spans : List Span) (i : ℕ) (s : Span) → i < length spans → s ≡ get_or spans i s → whole ≡ are_apart end (map range (drop i spans)) → 0 < s.len → end ≤ s.base → whole ≡ are_apart (s.base + s.len) (map range (drop (i + 1) spans))
later_span whole end spans i s l is h e f = h ∙ next_span end spans i s l is ∙ rw (full s.len e, le-leb end s.base f) refl

pub all_spans : (whole : Bool) (end : ℕ) (spans : List Span) (i : ℕ) → length spans ≤ i → whole ≡ are_apart end (map range (drop i spans)) → true ≡ whole
all_spans whole end spans i l h = sym (h ∙ ap (λ ss. are_apart end (map range ss)) (drop_all i spans l))

-- ---- sorted spans

rising_from : (n : ℕ) (ys : List Span) → IsNonDecreasingBy (λ s. s.base) ys → ((d : Span) → 0 < length ys → n ≤ (get_or ys 0 d).base) → Ascend n (map range ys)
rising_from n [] up low = tt
rising_from n (y ∷ ys) up low =
    (low y (omega arith), rising_from y.base ys (λ i j d l m. up (suc i) (suc j) d (omega arith) (omega arith)) (λ d p. up 0 1 d (omega arith) (omega arith)))

at_zero : (b : Bool) (n : ℕ) → (b || nat_le 0 n) ≡ true
at_zero true n = refl
at_zero false n = le-leb 0 n (omega arith)

all_clear : (rs : List Range) → list_all (λ r. (r.len == 0) || nat_le 0 r.base) rs ≡ true
all_clear [] = refl
all_clear (r ∷ rs) = rw (at_zero (r.len == 0) r.base) (all_clear rs)

pub sorted_apart : (xs ys : List Span) → IsPermutation xs ys → IsNonDecreasingBy (λ s. s.base) ys → are_apart 0 (map range ys) ≡ no_two share_byte (map range xs)
sorted_apart xs ys p up =
    apart_ascending 0 0 (map range ys) (rising_from 0 ys up (λ d l. omega arith))
    ∙ rw (all_clear (map range ys)) (same_apart (map range xs) (map range ys) (IsPermutation-map range xs ys p))

-- ---- the sum of the spans

pub too_many : (spans : List Span) (i room : ℕ) (s : Span) → i < length spans → s ≡ get_or spans i s → sum_by (λ x. x.len) spans + room ≡ 16777216 + sum_by (λ x. x.len) (drop i spans) → room < s.len → false ≡ nat_le (sum_by (λ x. x.len) spans) 16777216
too_many spans i room s l is h over = sym (above (sum_by (λ x. x.len) spans) (omega (arith, h, over, sum_by-drop_more (λ x. x.len) spans i s l, ap (λ x. x.len) is)))
  where
    above : (n : ℕ) → 16777216 < n → nat_le n 16777216 ≡ false
    above n h = grind arith

pub some_more : (spans : List Span) (i room left : ℕ) (s : Span) → i < length spans → s ≡ get_or spans i s → sum_by (λ x. x.len) spans + room ≡ 16777216 + sum_by (λ x. x.len) (drop i spans) → left + s.len ≡ room
    → sum_by (λ x. x.len) spans + left ≡ 16777216 + sum_by (λ x. x.len) (drop (i + 1) spans)
some_more spans i room left s l is h e = omega (arith, h, e, sum_by-drop_more (λ x. x.len) spans i s l, ap (λ x. x.len) is)

pub few_enough : (spans : List Span) (i room : ℕ) → length spans ≤ i → sum_by (λ x. x.len) spans + room ≡ 16777216 + sum_by (λ x. x.len) (drop i spans) → true ≡ nat_le (sum_by (λ x. x.len) spans) 16777216
few_enough spans i room l h = sym (le-leb (sum_by (λ x. x.len) spans) 16777216 (omega (arith, h, ap (sum_by (λ x. x.len)) (drop_all i spans l))))

-- ---- rows

pub short_rows : (ns : List ℕ) → length ns < 4 → rows ns ≡ []
short_rows [] l = refl
short_rows (a ∷ []) l = refl
short_rows (a ∷ b ∷ []) l = refl
short_rows (a ∷ b ∷ c ∷ []) l = refl
short_rows (a ∷ b ∷ c ∷ d ∷ ns) l = absurd (omega arith)

first_row : (ns : List ℕ) → 4 ≤ length ns → rows ns ≡ record { base = get_or ns 0 0; write = get_or ns 1 0; file = get_or ns 2 0; len = get_or ns 3 0 } ∷ rows (drop 4 ns)
first_row [] l = absurd (omega arith)
first_row (a ∷ []) l = absurd (omega arith)
first_row (a ∷ b ∷ []) l = absurd (omega arith)
first_row (a ∷ b ∷ c ∷ []) l = absurd (omega arith)
first_row (a ∷ b ∷ c ∷ d ∷ ns) l = refl

pub no_row : (ns : List ℕ) (at : ℕ) → at ≤ length ns → length ns - at < 4 → rows (drop at ns) ≡ []
no_row ns at w l = short_rows (drop at ns) (omega (arith, length-drop at ns))

-- the number k places behind a place
number_at : (ns : List ℕ) (at k m x : ℕ) → at + k ≡ m → x ≡ get_or ns m 0 → get_or (drop at ns) k 0 ≡ x
number_at ns at k m x e f = get_or-drop at ns k 0 ∙ ap (λ n. get_or ns n 0) e ∙ sym f

abbrev row_before : ℕ → ℕ → ℕ → ℕ → List Row → List Row
row_before a b c d more = record { base = a; write = b; file = c; len = d } ∷ more

pub row_is : (ns : List ℕ) (at a b c d : ℕ) → at + 4 ≤ length ns → a ≡ get_or ns at 0 → b ≡ get_or ns (at + 1) 0 → c ≡ get_or ns (at + 2) 0 → d ≡ get_or ns (at + 3) 0
    → rows (drop at ns) ≡ record { base = a; write = b; file = c; len = d } ∷ rows (drop (at + 4) ns)
row_is ns at a b c d l e f g h =
    first_row (drop at ns) (omega (arith, length-drop at ns))
    ∙ (λ i. row_before (number_at ns at 0 at a (omega arith) e i) (number_at ns at 1 (at + 1) b refl f i) (number_at ns at 2 (at + 2) c refl g i) (number_at ns at 3 (at + 3) d refl h i) (rows (drop-drop 4 at ns i)))

-- ---- arrays and their rows

abbrev row_holds : Array → Row → Bool
row_holds a r = holds a r && is_flag r.write && nat_le r.file r.len

next_array : (as' : List Array) (i : ℕ) (a : Array) (rs : List Row) → i < length as' → a ≡ get_or as' i a → each_holds (drop i as') rs ≡ each_holds (a ∷ drop (i + 1) as') rs
next_array as' i a rs l is = ap (λ bs. each_holds bs rs) (drop_more as' i a l ∙ ap (λ x. x ∷ drop (i + 1) as') (sym is))

pub no_row_left : (whole : Bool) (as' : List Array) (i : ℕ) (a : Array) (rs : List Row) → i < length as' → a ≡ get_or as' i a → whole ≡ each_holds (drop i as') rs → rs ≡ [] → false ≡ whole
no_row_left whole as' i a rs l is h e = sym (h ∙ next_array as' i a rs l is ∙ rw e refl)

pub row_differs : (whole : Bool) (as' : List Array) (i : ℕ) (a : Array) (r : Row) (rs more : List Row) → i < length as' → a ≡ get_or as' i a → whole ≡ each_holds (drop i as') rs → rs ≡ r ∷ more → row_holds a r ≡ false → false ≡ whole
row_differs whole as' i a r rs more l is h e f = sym (h ∙ next_array as' i a rs l is ∙ rw e (lost (holds a r) (is_flag r.write) (nat_le r.file r.len) (each_holds (drop (i + 1) as') more) f))
  where
    lost : (b c d e : Bool) → (b && c && d) ≡ false → (b && c && d && e) ≡ false
    lost true true true e h = absurd cc
    lost true true false e h = refl
    lost true false d e h = refl
    lost false c d e h = refl

pub row_agrees : (whole : Bool) (as' : List Array) (i : ℕ) (a : Array) (r : Row) (rs more : List Row) → i < length as' → a ≡ get_or as' i a → whole ≡ each_holds (drop i as') rs → rs ≡ r ∷ more → row_holds a r ≡ true → whole ≡ each_holds (drop (i + 1) as') more
row_agrees whole as' i a r rs more l is h e f = h ∙ next_array as' i a rs l is ∙ rw e (kept (holds a r) (is_flag r.write) (nat_le r.file r.len) (each_holds (drop (i + 1) as') more) f)
  where
    kept : (b c d e : Bool) → (b && c && d) ≡ true → (b && c && d && e) ≡ e
    kept true true true e h = refl
    kept true true false e h = absurd cc
    kept true false d e h = absurd cc
    kept false c d e h = absurd cc

pub arrays_over : (whole : Bool) (as' : List Array) (i : ℕ) (rs : List Row) (b : Bool) → length as' ≤ i → whole ≡ each_holds (drop i as') rs → (b ≡ true → rs ≡ []) → (b ≡ false → (r : Row) × ((more : List Row) × (rs ≡ r ∷ more))) → b ≡ whole
arrays_over whole as' i rs true l h none some = sym (h ∙ rw (drop_all i as' l, none refl) refl)
arrays_over whole as' i rs false l h none some = let s = some refl in sym (h ∙ rw (drop_all i as' l, s.1.1) refl)

-- ---- the spans of the rows

pub row_passes_end : (numbers : List ℕ) (spans : List Range) (r : Row) (here more : List Row) → spans ++ map row_range here ≡ map row_range (rows numbers) → here ≡ r ∷ more → is_below_end (row_range r) ≡ false → list_all is_below_end (map row_range (rows numbers)) ≡ false
row_passes_end numbers spans r here more h e f = ap (list_all is_below_end) (sym h ∙ ap (λ rs. spans ++ map row_range rs) e) ∙ lost spans
  where
    lost : (ss : List Range) → list_all is_below_end (ss ++ row_range r ∷ map row_range more) ≡ false
    lost [] = rw f refl
    lost (s ∷ ss) = and_right (is_below_end s) (list_all is_below_end (ss ++ row_range r ∷ map row_range more)) (lost ss)

pub row_added : (numbers : List ℕ) (old new : List Span) (s : Span) (r : Row) (here more : List Row) → map range old ++ map row_range here ≡ map row_range (rows numbers) → here ≡ r ∷ more → new ≡ old ++ s ∷ [] → range s ≡ row_range r → map range new ++ map row_range more ≡ map row_range (rows numbers)
row_added numbers old new s r here more h e f g =
    ap (λ ss. map range ss ++ map row_range more) f ∙ ap (λ ss. ss ++ map row_range more) (map_push range old s) ∙ append_assoc (map range old) (range s ∷ []) (map row_range more)
    ∙ ap (λ x. map range old ++ x ∷ map row_range more) g ∙ ap (λ rs. map range old ++ map row_range rs) (sym e) ∙ h

pub rows_over : (numbers : List ℕ) (spans : List Span) (here : List Row) → map range spans ++ map row_range here ≡ map row_range (rows numbers) → here ≡ [] → map range spans ≡ map row_range (rows numbers)
rows_over numbers spans here h e = sym (append-nil (map range spans)) ∙ ap (λ rs. map range spans ++ map row_range rs) (sym e) ∙ h

pub ruleset span_laws = (empty_span, early_span, later_span, all_spans)

pub ruleset sum_laws = (too_many, some_more, few_enough)

pub ruleset row_laws = (no_row, row_is)

pub ruleset fit_laws = (no_row_left, row_differs, row_agrees, arrays_over)

pub ruleset added_laws = (row_passes_end, row_added, rows_over)
