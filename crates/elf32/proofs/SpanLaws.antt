-- How the ordered spans of the segments so far answer whether a further one shares an address.
use Rattle.std.proofs.Common.{◌≡◌, ℕ, ◌+◌, ◌-◌, ◌<◌, ◌≤◌, min, max, Bool, true, false, ltb, leb, List, [], ◌∷◌, ◌++◌, length, get_or, take, drop, insert, ◌||◌, AllPairs, refl, sym, ap, ◌∙◌, subst, inl, inr, arith}
use Rattle.std.specs.List.{list_any}
use Rattle.std.specs.List.Sorted.{IsNonDecreasingBy, IsPartitionPoint}
use Rattle.std.proofs.lemmas.Bool.{cases_lt, cases_order, cases_Bool, true≢false, ltb-false, lt-ltb, le-ltb, leb-true, leb-false}
use Rattle.std.proofs.lemmas.List.{get_or_default, take-append-drop}
use Rattle.std.proofs.lemmas.List.Edits.{length-insert, get_or-insert_below, get_or-insert_at, get_or-insert_above}
use Rattle.std.proofs.lemmas.List.Elements.{All-append, All-cons, All-take, All-drop}
use Rattle.std.proofs.lemmas.List.Folds.{list_any-append, list_any_none, list_any_at}
use Rattle.elf32.specs.declared.headers.ProgramHeader.{ProgramHeader}
use Rattle.elf32.specs.declared.taken.Span.{Span}
use Rattle.elf32.specs.declared.taken.Taken.{Taken}
use Rattle.elf32.specs.Faults.{end_of, shares_byte}
use Rattle.elf32.specs.Spans.{span_end, shares_address, IsPlace, AreOrdered, Shows}

-- the ends of ordered spans rise
pub ends_rise : (spans : List Span) → AreOrdered spans → IsNonDecreasingBy span_end spans
ends_rise spans ordered i j d le lt =
    elim (cases_lt i j) [
      | inl below ↦ (let order : span_end (get_or spans i d) ≤ (get_or spans j d).base = ordered.order i j d below lt in omega arith)
      | inr above ↦ (let same : i ≡ j = omega arith in let P : ℕ → Type 0 = λ k. span_end (get_or spans i d) ≤ span_end (get_or spans k d) in subst P same (omega arith))
    ]

-- the place that a search by ends finds
pub place_from_point : (a : ℕ) (spans : List Span) (i : ℕ) → IsPartitionPoint (λ s. leb (span_end s) a ≡ true) (λ s. leb (span_end s) a ≡ false) spans i → IsPlace a spans i
place_from_point a spans i point =
    (λ k d l h. leb-true _ _ (point.0 k d l h), λ k d l h. leb-false _ _ (point.1 k d l h))

-- where a test fails at each element, it fails at one of them
pub none_at : {X : Type 0} (p : X → Bool) (xs : List X) (k : ℕ) (d : X) → k < length xs → list_any p xs ≡ false → p (get_or xs k d) ≡ false
none_at p xs k d lt none =
    elim (cases_Bool (p (get_or xs k d))) [
      | inl holds ↦ absurd (true≢false (sym (list_any_at p xs k d lt holds) ∙ none))
      | inr fails ↦ fails
    ]

-- the span at the place begins before the segment ends: they share an address
pub shares_at_place : (g : ProgramHeader) (spans : List Span) (i : ℕ) (d : Span) → AreOrdered spans → IsPlace g.address spans i → i < length spans → 0 < g.memory_size → (get_or spans i d).base < end_of g → list_any (shares_address g) spans ≡ true
shares_at_place g spans i d ordered place lt some begins =
    let behind : g.address < span_end (get_or spans i d) = place.1 i d (omega arith) lt in
    let filled : 0 < (get_or spans i d).len = ordered.some i d lt in
    list_any_at (shares_address g) spans i d lt (lt-ltb _ _ (omega arith))

-- the span at the place begins where the segment ends or behind: none shares an address
pub none_at_place : (g : ProgramHeader) (spans : List Span) (i : ℕ) (d : Span) → AreOrdered spans → IsPlace g.address spans i → i < length spans → end_of g ≤ (get_or spans i d).base → list_any (shares_address g) spans ≡ false
none_at_place g spans i d ordered place lt begins = list_any_none (shares_address g) spans (λ k e h. each k e h)
  where
    each : (k : ℕ) (e : Span) → k < length spans → shares_address g (get_or spans k e) ≡ false
    each k e h =
        elim (cases_order k i) [
          | inl at ↦ (let P : ℕ → Type 0 = λ n. shares_address g (get_or spans n e) ≡ false in
              subst P (sym at) (let same : get_or spans i e ≡ get_or spans i d = get_or_default spans i e d lt in
              let Q : Span → Type 0 = λ s. shares_address g s ≡ false in
              subst Q (sym same) (le-ltb _ _ (omega arith))))
          | inr (inl below) ↦ (let before : span_end (get_or spans k e) ≤ g.address = place.0 k e (omega arith) below in le-ltb _ _ (omega arith))
          | inr (inr above) ↦ (let order : span_end (get_or spans i e) ≤ (get_or spans k e).base = ordered.order i k e above h in
              let same : get_or spans i e ≡ get_or spans i d = get_or_default spans i e d lt in
              let base : (get_or spans i e).base ≡ (get_or spans i d).base = ap (λ (s : Span). s.base) same in
              le-ltb _ _ (omega arith))
        ]

-- every span ends before the segment begins: none shares an address
pub none_before : (g : ProgramHeader) (spans : List Span) → IsPlace g.address spans (length spans) → list_any (shares_address g) spans ≡ false
none_before g spans place =
    list_any_none (shares_address g) spans (λ k e h. let before : span_end (get_or spans k e) ≤ g.address = place.0 k e (omega arith) h in le-ltb _ _ (omega arith))

-- ---- one span more

-- the span of a segment
abbrev pub span_of : ProgramHeader → Span
span_of g = record { base = g.address; len = g.memory_size }

-- a segment that shares no address ends before the spans at its place and behind begin
ends_before : (g : ProgramHeader) (spans : List Span) (i k : ℕ) (d : Span) → AreOrdered spans → IsPlace g.address spans i → 0 < g.memory_size → list_any (shares_address g) spans ≡ false → i ≤ k → k < length spans → end_of g ≤ (get_or spans k d).base
ends_before g spans i k d ordered place some none le lt =
    let apart : min (end_of g) (span_end (get_or spans k d)) ≤ max g.address (get_or spans k d).base = ltb-false _ _ (none_at (shares_address g) spans k d lt none) in
    let behind : g.address < span_end (get_or spans k d) = place.1 k d le lt in
    let filled : 0 < (get_or spans k d).len = ordered.some k d lt in
    omega arith

-- the order of two spans, one of which is put in
order_inserted : (g : ProgramHeader) (spans : List Span) (i : ℕ) → AreOrdered spans → IsPlace g.address spans i → i ≤ length spans → 0 < g.memory_size → list_any (shares_address g) spans ≡ false → AllPairs (λ s t. span_end s ≤ t.base) (insert spans i (span_of g))
order_inserted g spans i ordered place within some none a b d lt in_list =
    let new : Span = span_of g in
    let long = length-insert spans i new within in
    elim (cases_order b i) [
      | inl b_at ↦ (let get_a = get_or-insert_below spans i new d a (omega arith) within in
          let get_b = get_or-insert_at spans i new d within in
          let P : ℕ → Type 0 = λ n. span_end (get_or (insert spans i new) a d) ≤ (get_or (insert spans i new) n d).base in
          subst P (sym b_at) (rw (get_a, get_b) (place.0 a d (omega arith) (omega arith))))
      | inr (inl b_below) ↦ (let get_a = get_or-insert_below spans i new d a (omega arith) within in
          let get_b = get_or-insert_below spans i new d b b_below within in
          rw (get_a, get_b) (ordered.order a b d lt (omega arith)))
      | inr (inr b_above) ↦ above (b - 1) (omega arith) b_above
    ]
  where
    above : (c : ℕ) → b ≡ c + 1 → i < b → span_end (get_or (insert spans i (span_of g)) a d) ≤ (get_or (insert spans i (span_of g)) b d).base
    above c is b_above =
        let new : Span = span_of g in
        let long = length-insert spans i new within in
        let get_b = get_or-insert_above spans i new d c (omega arith) within in
        let P : ℕ → Type 0 = λ n. span_end (get_or (insert spans i new) a d) ≤ (get_or (insert spans i new) n d).base in
        subst P (sym is) (rw get_b (
        elim (cases_order a i) [
          | inl a_at ↦ (let Q : ℕ → Type 0 = λ n. span_end (get_or (insert spans i new) n d) ≤ (get_or spans c d).base in
              subst Q (sym a_at) (rw (get_or-insert_at spans i new d within) (ends_before g spans i c d ordered place some none (omega arith) (omega arith))))
          | inr (inl a_below) ↦ (let get_a = get_or-insert_below spans i new d a a_below within in rw get_a (ordered.order a c d (omega arith) (omega arith)))
          | inr (inr a_above) ↦ (let e : ℕ = a - 1 in let a_is : a ≡ e + 1 = omega arith in
              let get_a = get_or-insert_above spans i new d e (omega arith) within in
              let Q : ℕ → Type 0 = λ n. span_end (get_or (insert spans i new) n d) ≤ (get_or spans c d).base in
              subst Q (sym a_is) (rw get_a (ordered.order e c d (omega arith) (omega arith))))
        ]))

pub ordered_inserted : (g : ProgramHeader) (spans : List Span) (i : ℕ) → AreOrdered spans → IsPlace g.address spans i → i ≤ length spans → 0 < g.memory_size → list_any (shares_address g) spans ≡ false → AreOrdered (insert spans i (span_of g))
ordered_inserted g spans i ordered place within some none = record {
  some = All-append (λ s. 0 < s.len) (take i spans) (span_of g ∷ drop i spans) (All-take (λ s. 0 < s.len) i spans ordered.some) (All-cons (λ s. 0 < s.len) (span_of g) (drop i spans) some (All-drop (λ s. 0 < s.len) i spans ordered.some));
  order = order_inserted g spans i ordered place within some none;
}

-- a test of one of two lists, with an element put between them
or_moved : (a q b : Bool) → (a || (q || b)) ≡ ((a || b) || (q || false))
or_moved true q b = refl
or_moved false true true = refl
or_moved false true false = refl
or_moved false false true = refl
or_moved false false false = refl

any_inserted : {X : Type 0} (p : X → Bool) (xs : List X) (i : ℕ) (x : X) → list_any p (insert xs i x) ≡ (list_any p xs || (p x || false))
any_inserted p xs i x =
    list_any-append p (take i xs) (x ∷ drop i xs)
    ∙ or_moved (list_any p (take i xs)) (p x) (list_any p (drop i xs))
    ∙ ap (λ b. b || (p x || false)) (sym (list_any-append p (take i xs) (drop i xs)) ∙ ap (list_any p) (take-append-drop i xs))

-- the spans with that of one segment more
pub shows_more : (old new : Taken) (before : List ProgramHeader) (g : ProgramHeader) (i : ℕ) → Shows old before → IsPlace g.address old.spans.items i → i ≤ length old.spans.items → 0 < g.memory_size → list_any (shares_byte g) before ≡ false → new.spans.items ≡ insert old.spans.items i (span_of g) → Shows new (before ++ g ∷ [])
shows_more old new before g i shows place within some none is = record {
  ordered = subst AreOrdered (sym is) (ordered_inserted g old.spans.items i shows.ordered place within some (shows.same g ∙ none));
  same = λ q.
      ap (list_any (shares_address q)) is
      ∙ any_inserted (shares_address q) old.spans.items i (span_of g)
      ∙ ap (λ b. b || (shares_byte q g || false)) (shows.same q)
      ∙ sym (list_any-append (shares_byte q) before (g ∷ []));
}

-- ---- the answer at the place

-- the span at the place tells whether the segment shares an address with any
pub shares_is : (g : ProgramHeader) (spans : List Span) (i : ℕ) (s : Span) → AreOrdered spans → IsPlace g.address spans i → i < length spans → 0 < g.memory_size → s ≡ get_or spans i s → ltb s.base (end_of g) ≡ list_any (shares_address g) spans
shares_is g spans i s ordered place lt some read =
    let base : s.base ≡ (get_or spans i s).base = ap (λ (t : Span). t.base) read in
    elim (cases_lt s.base (end_of g)) [
      | inl begins ↦ lt-ltb _ _ begins ∙ sym (shares_at_place g spans i s ordered place lt some (omega arith))
      | inr ends ↦ le-ltb _ _ ends ∙ sym (none_at_place g spans i s ordered place lt (omega arith))
    ]
