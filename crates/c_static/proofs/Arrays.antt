-- The arrays of a program: lengths, flags and rows; segments and areas lie apart.
use Rattle.std.proofs.Common.{◌≡◌, ℕ, suc, ◌+◌, ◌*◌, ◌^◌, ◌≤◌, Bool, true, false, ◌&&◌, ◌||◌, max, min, List, [], ◌∷◌, ◌++◌, map, length, Option, Some, None, ◌⊎◌, inl, inr, refl, sym, ap, ◌∙◌, arith, eq-eqb}
use Rattle.std.specs.Prelude.{not, ◌==◌, nat_le, sum_by, All, AllPairs}
use Rattle.std.specs.List.{list_any, list_all}
use Rattle.std.specs.Cmp.Lexicographic.{pointwise}
use Rattle.std.proofs.lemmas.Bool.{and_from, ltb-true, le-leb, ne_eqb}
use Rattle.std.proofs.lemmas.List.Elements.{All-head, All-tail}
use Rattle.std.proofs.lemmas.List.Sums.{sum_by-cons}
use Rattle.rtl_core.specs.declared.conv.Conv.{Conv}
use Rattle.rtl_core.specs.declared.conv.ServiceShape.{ServiceShape}
use Rattle.rtl_core.specs.declared.expr.Order.{Order}
use Rattle.rtl_core.specs.declared.expr.Order.TheVariants.{Little, Big}
use Rattle.rtl_core.specs.declared.machine.Machine.{Machine}
use Rattle.rtl_core.specs.Arithmetic.{flag}
use Rattle.rtl_core.specs.FirstMemory.{Part, area}
use Rattle.rtl_core.specs.SoundConv.{IsSoundConv}
use Rattle.c_lang.specs.declared.tree.CSeg.{CSeg}
use Rattle.c_lang.specs.declared.tree.Header.{Header}
use Rattle.c_lang.specs.Items.{Text, Machine as MachineItem, Table, whole, or_zero, filled, segment_array, order_number, header_numbers, table_numbers}
use Rattle.c_lang.specs.StaticRules.{is_whole, is_flag, rows, holds, each_holds, is_table, Range, share_byte, is_below_end, heap_range, stack_range, segment_ranges, most_heap, most_stack, most_image, no_two, sized, placed}
use Rattle.c_lang.proofs.StaticLaws.{row_of, rows-table, rows-filled}
use Rattle.c_control.specs.Programs.{header_for, header_of, segment_of}
use Rattle.c_static.specs.Laws.{IsIn, AreApart, ArePlaced}

-- ---- lengths and flags

flag-is : (b : Bool) → is_flag (flag b) ≡ true
flag-is true = refl
flag-is false = refl

order-is : (o : Order) → is_flag (order_number o) ≡ true
order-is Little = refl
order-is Big = refl

pub machine-sized : (t : Text) (h : Header) → sized t (MachineItem (whole (header_numbers h))) ≡ true
machine-sized t h =
    and_from _ (is_flag (flag h.carry)) (and_from _ (is_flag (flag h.align)) (and_from true (is_flag (order_number h.order)) refl (order-is h.order)) (flag-is h.align)) (flag-is h.carry)

pub filled-whole : (ns : List ℕ) → is_whole (filled ns) ≡ true
filled-whole [] = refl
filled-whole (n ∷ ns) =
    let k = suc (length ns) in
    and_from (k == k) (not (k == 0)) (eq-eqb k k refl) (ap not (ne_eqb k 0 (λ e. omega (arith, e))))

-- ---- the rows of segments

table-length : (ss : List CSeg) → length (table_numbers ss) ≡ 4 * length (map segment_array ss)
table-length [] = refl
table-length (s ∷ ss) = let more = table-length ss in omega (arith, more)

row-holds : (s : CSeg) → holds (segment_array s) (row_of s) ≡ true
row-holds s = by s.bytes
  where
    by : (bytes : List ℕ) → ((length bytes == length (or_zero bytes)) || ((length bytes == 0) && pointwise (λ m n. m == n) (or_zero bytes) (0 ∷ []))) ≡ true
    by [] = refl
    by (n ∷ ns) = let k = suc (length ns) in ap (λ b. b || ((k == 0) && pointwise (λ m n. m == n) (n ∷ ns) (0 ∷ []))) (eq-eqb k k refl)

all-hold : (parts : List Part) → All (λ p. length p.bytes ≤ p.len) parts → each_holds (map segment_array (map segment_of parts)) (map row_of (map segment_of parts)) ≡ true
all-hold [] h = refl
all-hold (p ∷ ps) h =
    let s = segment_of p in
    let fits : nat_le (length p.bytes) p.len ≡ true = le-leb (length p.bytes) p.len (All-head (λ p. length p.bytes ≤ p.len) p ps h) in
    and_from _ _ (and_from (holds (segment_array s) (row_of s) && is_flag (flag p.writes)) (nat_le (length p.bytes) p.len) (and_from (holds (segment_array s) (row_of s)) (is_flag (flag p.writes)) (row-holds s) (flag-is p.writes)) fits)
    (all-hold ps (All-tail (λ p. length p.bytes ≤ p.len) p ps h))

pub table-is : (parts : List Part) → All (λ p. length p.bytes ≤ p.len) parts → is_table (map segment_array (map segment_of parts)) (filled (table_numbers (map segment_of parts))) ≡ true
table-is [] h = refl
table-is (p ∷ ps) h =
    let ss = map segment_of (p ∷ ps) in
    let rows-are : each_holds (map segment_array ss) (rows (table_numbers ss)) ≡ true = ap (each_holds (map segment_array ss)) (rows-table ss) ∙ all-hold (p ∷ ps) h in
    and_from (length (table_numbers ss) == 4 * length (map segment_array ss)) (each_holds (map segment_array ss) (rows (table_numbers ss))) (eq-eqb _ _ (table-length ss)) rows-are

-- ---- places

abbrev pub range_of : Part → Range
range_of p = record { base = p.base; len = p.len }

-- the heap and the stack as parts
abbrev heap_part : Conv → Part
heap_part conv = area conv.heap_base conv.heap_size

abbrev stack_part : Conv → Part
stack_part conv = area conv.stack_base conv.stack_size

areas-are : (m : Machine) (conv : Conv) (o : Option ServiceShape)
    → (heap_range (whole (header_numbers (header_for m conv o))) ≡ range_of (heap_part conv)) × (stack_range (whole (header_numbers (header_for m conv o))) ≡ range_of (stack_part conv))
areas-are m conv None = (refl, refl)
areas-are m conv (Some shape) = (refl, refl)

-- parts that have no address in common share no byte
unshared : (p q : Part) → ((a : ℕ) → IsIn a p → IsIn a q → ⊥) → share_byte (range_of p) (range_of q) ≡ false
unshared p q h = by (share_byte (range_of p) (range_of q)) refl
  where
    by : (b : Bool) → share_byte (range_of p) (range_of q) ≡ b → b ≡ false
    by false e = refl
    by true e =
        let lt = ltb-true (max p.base q.base) (min (p.base + p.len) (q.base + q.len)) e in
        let in_p : IsIn (max p.base q.base) p = (omega arith, omega (arith, lt)) in
        let in_q : IsIn (max p.base q.base) q = (omega arith, omega (arith, lt)) in
        absurd (h (max p.base q.base) in_p in_q)

areas-apart : (conv : Conv) → IsSoundConv conv → share_byte (range_of (heap_part conv)) (range_of (stack_part conv)) ≡ false
areas-apart conv sound = unshared (heap_part conv) (stack_part conv) (by sound.apart)
  where
    by : (conv.stack_base + conv.stack_size ≤ conv.heap_base) ⊎ (conv.heap_base + conv.heap_size ≤ conv.stack_base) → (a : ℕ) → IsIn a (heap_part conv) → IsIn a (stack_part conv) → ⊥
    by (inl le) a x y = omega (arith, le, x.0, y.1)
    by (inr le) a x y = omega (arith, le, x.1, y.0)

pub machine-placed : (t : Text) (m : Machine) (conv : Conv) → IsSoundConv conv → placed t (MachineItem (whole (header_numbers (header_of m conv)))) ≡ true
machine-placed t m conv sound =
    let a = areas-are m conv conv.service in
    let P : Range → Range → Bool = λ h s. nat_le h.len most_heap && nat_le s.len most_stack && list_all is_below_end (h ∷ s ∷ []) && not (share_byte h s) in
    let h = range_of (heap_part conv) in
    let s = range_of (stack_part conv) in
    let heap = sound.heap in
    let stack = sound.stack in
    let ends : list_all is_below_end (h ∷ s ∷ []) ≡ true =
    and_from (is_below_end h) (is_below_end s && true) (le-leb (conv.heap_base + conv.heap_size) (2 ^ 32) heap.end) (and_from (is_below_end s) true (le-leb (conv.stack_base + conv.stack_size) (2 ^ 32) stack.end) refl) in
    let all : P h s ≡ true =
    and_from _ (not (share_byte h s)) (and_from (nat_le h.len most_heap && nat_le s.len most_stack) _ (and_from (nat_le h.len most_heap) (nat_le s.len most_stack) (le-leb conv.heap_size most_heap heap.few) (le-leb conv.stack_size most_stack stack.few)) ends)
    (ap not (areas-apart conv sound)) in
    ap (λ x. P x (stack_range (whole (header_numbers (header_of m conv))))) a.0 ∙ ap (λ y. P h y) a.1 ∙ all

-- ---- the segments with the areas

ranges-are : (parts : List Part) → map (λ r. let x : Range = record { base = r.base; len = r.len } in x) (map row_of (map segment_of parts)) ≡ map range_of parts
ranges-are [] = refl
ranges-are (p ∷ ps) = ap (λ rs. range_of p ∷ rs) (ranges-are ps)

segments-are : (parts : List Part) → segment_ranges (filled (table_numbers (map segment_of parts))) ≡ map range_of parts
segments-are parts = ap (λ rs. map (λ r. let x : Range = record { base = r.base; len = r.len } in x) rs) (rows-filled (map segment_of parts)) ∙ ranges-are parts

below-ends : (parts : List Part) → All (λ p. p.base + p.len ≤ 2 ^ 32) parts → list_all is_below_end (map range_of parts) ≡ true
below-ends [] h = refl
below-ends (p ∷ ps) h =
    and_from (is_below_end (range_of p)) (list_all is_below_end (map range_of ps)) (le-leb (p.base + p.len) (2 ^ 32) (All-head (λ p. p.base + p.len ≤ 2 ^ 32) p ps h)) (below-ends ps (All-tail (λ p. p.base + p.len ≤ 2 ^ 32) p ps h))

total-is : (parts : List Part) → sum_by (λ r. r.len) (map range_of parts) ≡ sum_by (λ p. p.len) parts
total-is [] = refl
total-is (p ∷ ps) = sum_by-cons (λ (r : Range). r.len) (range_of p) (map range_of ps) ∙ ap (λ n. p.len + n) (total-is ps) ∙ sym (sum_by-cons (λ (p : Part). p.len) p ps)

module _ (heap stack : Part) (areas : share_byte (range_of heap) (range_of stack) ≡ false) where
  abbrev behind : List Range
  behind = range_of heap ∷ range_of stack ∷ []

  beside : (p : Part) (ps : List Part) → All (AreApart p) ps → AreApart heap p → AreApart stack p → list_any (share_byte (range_of p)) (map range_of ps ++ behind) ≡ false
  beside p [] h x y =
      ap (λ b. b || (share_byte (range_of p) (range_of stack) || false)) (unshared p heap (λ a in_p in_heap. x a in_heap in_p)) ∙ ap (λ b. b || false) (unshared p stack (λ a in_p in_stack. y a in_stack in_p))
  beside p (q ∷ qs) h x y =
      ap (λ b. b || list_any (share_byte (range_of p)) (map range_of qs ++ behind)) (unshared p q (All-head (AreApart p) q qs h)) ∙ beside p qs (All-tail (AreApart p) q qs h) x y

  pub none-share : (ps : List Part) → AllPairs AreApart ps → All (AreApart heap) ps → All (AreApart stack) ps → no_two share_byte (map range_of ps ++ behind) ≡ true
  none-share [] h x y = and_from (not (share_byte (range_of heap) (range_of stack) || false)) (true && true) (ap (λ b. not (b || false)) areas) refl
  none-share (p ∷ ps) h x y =
      let first : All (AreApart p) ps = λ k d lt. h 0 (suc k) d (omega arith) (omega (arith, lt)) in
      let rest : AllPairs AreApart ps = λ i j d lt within. h (suc i) (suc j) d (omega (arith, lt)) (omega (arith, within)) in
      and_from (not (list_any (share_byte (range_of p)) (map range_of ps ++ behind))) (no_two share_byte (map range_of ps ++ behind))
      (ap not (beside p ps first (All-head (AreApart heap) p ps x) (All-head (AreApart stack) p ps y))) (none-share ps rest (All-tail (AreApart heap) p ps x) (All-tail (AreApart stack) p ps y))

pub table-placed : (t : Text) (m : Machine) (conv : Conv) (parts : List Part) → t.machine ≡ whole (header_numbers (header_of m conv)) → IsSoundConv conv → ArePlaced conv parts
    → placed t (Table (filled (table_numbers (map segment_of parts)))) ≡ true
table-placed t m conv parts is sound places =
    let a = areas-are m conv conv.service in
    let h = range_of (heap_part conv) in
    let s = range_of (stack_part conv) in
    let heap-is : heap_range t.machine ≡ h = ap heap_range is ∙ a.0 in
    let stack-is : stack_range t.machine ≡ s = ap stack_range is ∙ a.1 in
    let P : List Range → Range → Range → Bool = λ rs x y. list_all is_below_end rs && nat_le (sum_by (λ r. r.len) rs) most_image && no_two share_byte (rs ++ x ∷ y ∷ []) in
    let rs = map range_of parts in
    let few = places.size in
    let total = total-is parts in
    let small : nat_le (sum_by (λ r. r.len) rs) most_image ≡ true = le-leb (sum_by (λ r. r.len) rs) most_image (omega (arith, few, total)) in
    let all : P rs h s ≡ true =
    and_from (list_all is_below_end rs && nat_le (sum_by (λ r. r.len) rs) most_image) (no_two share_byte (rs ++ h ∷ s ∷ [])) (and_from (list_all is_below_end rs) (nat_le (sum_by (λ r. r.len) rs) most_image) (below-ends parts places.ends) small)
    (none-share (heap_part conv) (stack_part conv) (areas-apart conv sound) parts places.apart places.from_heap places.from_stack) in
    ap (λ l. P l (heap_range t.machine) (stack_range t.machine)) (segments-are parts) ∙ ap (λ x. P rs x (stack_range t.machine)) heap-is ∙ ap (λ y. P rs h y) stack-is ∙ all
