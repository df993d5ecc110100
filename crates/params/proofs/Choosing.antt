-- Cells chosen in ascending order, and columns and summaries put one behind another.
use Rattle.std.proofs.Common.{◌≡◌, ◌≢◌, ℕ, ◌+◌, ◌<◌, Bool, true, false, true≢false, List, [], ◌∷◌, ◌++◌, length, get_or, take, Option, Some, None, refl, sym, ◌∙◌, ap, subst, arith, inl, inr, zero, suc, length-append, eqb-true, eq-eqb}
use Rattle.std.specs.Prelude.{◌⊎◌, ◌==◌, map, filter, not}
use Rattle.std.specs.List.{All, Contains, range_with_len}
use Rattle.std.specs.List.Sorted.{IsStrictlySortedBy}
use Rattle.std.specs.Ordering.{nat_cmp}
use Rattle.std.proofs.lemmas.List.{take_more, length-take-le}
use Rattle.std.proofs.lemmas.List.Elements.{All-contains_itself, All-weaker}
use Rattle.std.proofs.lemmas.Bool.{not-true}
use Rattle.std.proofs.Math.Path.{fun_ext}
use Rattle.params.specs.Parts.{openers as all_openers}
use Rattle.std.proofs.lemmas.List.FromFn.{length-range_with_len, get_or-range_with_len}
use Rattle.std.proofs.lemmas.List.Kept.{IsStrictlySortedBy-filter}
use Rattle.std.proofs.lemmas.Map.Keys.{sorted_from_strictly_increasing}
use Rattle.rtl_core.specs.declared.machine.Machine.{Machine}
use Rattle.points.specs.declared.graph.Proc.{Proc}
use Rattle.points.specs.declared.graph.Summary.{Summary}
use Rattle.points.specs.declared.graph.Graph.{Graph}
use Rattle.points.specs.Exactly.{IsExactly}
use Rattle.points.specs.Summaries.{IsMoving, IsWholeSummary, AreWholeSummaries}
use Rattle.params.specs.ByEntry.{AreMoving}
use Rattle.params.specs.Cells.{is_zero, marked_cells, moving_cells}
use Rattle.params.specs.Leading.{row, AreUsers, AreColumns}
use Rattle.params.specs.Listed.{summary_at, summaries_at, whole_summary}
use Rattle.params.proofs.Members.{none-in, first-in, later-in, split-in}

-- ---- numbers in a row

pub range-rises : (n : ℕ) → IsStrictlySortedBy nat_cmp (range_with_len 0 n)
range-rises n = sorted_from_strictly_increasing (range_with_len 0 n) (λ k lt.
    let l = length-range_with_len 0 n in
    let a = get_or-range_with_len 0 n k 0 (omega (arith, lt, l)) in
    let b = get_or-range_with_len 0 n (k + 1) 0 (omega (arith, lt, l)) in
    omega (arith, a, b))

pub in-range : (n c : ℕ) → c < n → Contains (range_with_len 0 n) c
in-range n c lt = let l = length-range_with_len 0 n in (c, omega (arith, lt, l), (let z : 0 + c ≡ c = omega arith in get_or-range_with_len 0 n c c lt ∙ z))

pub from-range : (n c : ℕ) → Contains (range_with_len 0 n) c → c < n
from-range n c h =
    let l = length-range_with_len 0 n in
    let lt : h.0 < n = (let a = h.1 in omega (arith, a, l)) in
    let e = sym (get_or-range_with_len 0 n h.0 c lt) ∙ h.2 in
    omega (arith, lt, e)

module _ (p : ℕ → Bool) where
  pub from-filter : (xs : List ℕ) (c : ℕ) → Contains (filter p xs) c → Contains xs c × (p c ≡ true)
  from-filter [] c h = none-in c h
  from-filter (x ∷ xs) c h = by (p x) refl (from-filter xs c) h
    where
      later : Contains xs c × (p c ≡ true) → Contains (x ∷ xs) c × (p c ≡ true)
      later r = (later-in x c xs r.0, r.1)

      head : p x ≡ true → (x ≡ c) ⊎ Contains (filter p xs) c → (Contains (filter p xs) c → Contains xs c × (p c ≡ true)) → Contains (x ∷ xs) c × (p c ≡ true)
      head t (inl s) more = (subst (Contains (x ∷ xs)) s (first-in x xs), subst (λ y. p y ≡ true) s t)
      head t (inr r) more = later (more r)

      by : (b : Bool) → p x ≡ b → (Contains (filter p xs) c → Contains xs c × (p c ≡ true)) → Contains (filter p (x ∷ xs)) c → Contains (x ∷ xs) c × (p c ≡ true)
      by true e more h = head e (split-in x c (filter p xs) (subst (λ l. Contains l c) (kept e) h)) more
        where
          kept : p x ≡ true → filter p (x ∷ xs) ≡ x ∷ filter p xs
          kept e = rw e refl
      by false e more h = later (more (subst (λ l. Contains l c) (dropped e) h))
        where
          dropped : p x ≡ false → filter p (x ∷ xs) ≡ filter p xs
          dropped e = rw e refl

  pub to-filter : (xs : List ℕ) (c : ℕ) → Contains xs c → p c ≡ true → Contains (filter p xs) c
  to-filter [] c h t = none-in c h
  to-filter (x ∷ xs) c h t = by (p x) refl (λ r. to-filter xs c r t) (split-in x c xs h)
    where
      by : (b : Bool) → p x ≡ b → (Contains xs c → Contains (filter p xs) c) → (x ≡ c) ⊎ Contains xs c → Contains (filter p (x ∷ xs)) c
      by true e more (inl s) = subst (λ l. Contains l c) (sym (kept e)) (subst (Contains (x ∷ filter p xs)) s (first-in x (filter p xs)))
        where
          kept : p x ≡ true → filter p (x ∷ xs) ≡ x ∷ filter p xs
          kept e = rw e refl
      by true e more (inr r) = subst (λ l. Contains l c) (sym (kept e)) (later-in x c (filter p xs) (more r))
        where
          kept : p x ≡ true → filter p (x ∷ xs) ≡ x ∷ filter p xs
          kept e = rw e refl
      by false e more (inl s) = absurd (true≢false (sym t ∙ ap p (sym s) ∙ e))
      by false e more (inr r) = subst (λ l. Contains l c) (sym (dropped e)) (more r)
        where
          dropped : p x ≡ false → filter p (x ∷ xs) ≡ filter p xs
          dropped e = rw e refl

  pub chosen-rise : (n : ℕ) → IsStrictlySortedBy nat_cmp (filter p (range_with_len 0 n))
  chosen-rise n = IsStrictlySortedBy-filter nat_cmp p (range_with_len 0 n) (range-rises n)

-- ---- the zero cell

pub not-zero : (zero : Option ℕ) (c : ℕ) → not (is_zero zero c) ≡ true → zero ≢ Some c
not-zero None c h = λ e. let n : None ≡ Some c = e in cc
not-zero (Some z) c h = λ e. let s : z ≡ c = cc in true≢false (sym (eq-eqb z c s) ∙ not-true (z == c) h)

pub to-not-zero : (zero : Option ℕ) (c : ℕ) → zero ≢ Some c → not (is_zero zero c) ≡ true
to-not-zero None c h = refl
to-not-zero (Some z) c h = by (z == c) refl
  where
    by : (b : Bool) → (z == c) ≡ b → not (z == c) ≡ true
    by true e = absurd (h (ap (λ x. Some x) (eqb-true z c e)))
    by false e = ap not e

-- ---- whole registers

moving-exactly : (m : Machine) → IsExactly (IsMoving m) (moving_cells (length m.widths) m.zero)
moving-exactly m = record {
  sound = All-weaker (Contains cells) (IsMoving m) (λ c h. let f = from-filter moves (range_with_len 0 n) c h in record { there = from-range n c f.0; moves = not-zero m.zero c f.1 }) cells (All-contains_itself cells);
  whole = λ c h. to-filter moves (range_with_len 0 n) c (in-range n c h.there) (to-not-zero m.zero c h.moves);
}
  where
    n : ℕ
    n = length m.widths

    moves : ℕ → Bool
    moves c = not (is_zero m.zero c)

    cells : List ℕ
    cells = moving_cells n m.zero

-- all cells but the zero cell, ascending
pub moving-are : (m : Machine) → AreMoving m (moving_cells (length m.widths) m.zero)
moving-are m = record { rise = chosen-rise (λ c. not (is_zero m.zero c)) (length m.widths); exactly = moving-exactly m }

whole-is : (m : Machine) (p : Proc) → IsWholeSummary m (whole_summary (length m.widths) m.zero p)
whole-is m p = record { refs_rise = chosen-rise (λ c. not (is_zero m.zero c)) (length m.widths); refs = moving-exactly m; mods = refl }

pub whole-are : (m : Machine) (g : Graph) (xs : List Summary) → xs ≡ map (whole_summary (length m.widths) m.zero) g.procs → AreWholeSummaries m g xs
whole-are m g xs e = subst (AreWholeSummaries m g) (sym e) (record { entries = entries g.procs; each = each g.procs })
  where
    w : Proc → Summary
    w = whole_summary (length m.widths) m.zero

    entries : (ps : List Proc) → map (λ (s : Summary). s.entry) (map w ps) ≡ map (λ (p : Proc). p.entry) ps
    entries [] = refl
    entries (p ∷ ps) = ap (λ l. p.entry ∷ l) (entries ps)

    each : (ps : List Proc) → All (IsWholeSummary m) (map w ps)
    each ps = All-weaker (Contains (map w ps)) (IsWholeSummary m) (λ s c. is ps s c) (map w ps) (All-contains_itself (map w ps))
      where
        is : (ps : List Proc) (s : Summary) → Contains (map w ps) s → IsWholeSummary m s
        is [] s c = none-in s c
        is (p ∷ ps) s c = elim (split-in (w p) s (map w ps) c) [ inl e ↦ subst (IsWholeSummary m) e (whole-is m p) | inr r ↦ is ps s r ]

-- ---- one more

pub columns-more : (rows : List (List ℕ)) (openers : List ℕ) (given : List (List ℕ)) (columns : List (List Bool)) (places : List ℕ) (column : List Bool)
    → AreColumns rows openers given columns → AreUsers rows openers places column → AreColumns rows openers (given ++ places ∷ []) (columns ++ column ∷ [])
columns-more rows openers given columns places column f g = record {
  count = let a = length-append columns (column ∷ []) in let b = length-append given (places ∷ []) in let c = f.count in omega (arith, a, b, c);
  each = λ c lt. by c (grind (arith, lt, length-append given (places ∷ [])));
}
  where
    before : {X : Type 0} (xs ys : List (List X)) (k : ℕ) → k < length xs → get_or (xs ++ ys) k [] ≡ get_or xs k []
    before [] ys k lt = absurd (omega (arith, lt))
    before (x ∷ xs) ys zero lt = refl
    before (x ∷ xs) ys (suc k) lt = before xs ys k (omega (arith, lt))

    seam : {X : Type 0} (xs : List (List X)) (y : List X) → get_or (xs ++ y ∷ []) (length xs) [] ≡ y
    seam [] y = refl
    seam (x ∷ xs) y = seam xs y

    by : (c : ℕ) → (c < length given) ⊎ (c ≡ length given) → AreUsers rows openers (row (given ++ places ∷ []) c) (get_or (columns ++ column ∷ []) c [])
    by c (inl less) =
        let k = f.count in
        subst (λ l. AreUsers rows openers l (get_or (columns ++ column ∷ []) c [])) (sym (before given (places ∷ []) c less))
        (subst (λ l. AreUsers rows openers (row given c) l) (sym (before columns (column ∷ []) c (omega (arith, less, k)))) (f.each c less))
    by c (inr e) =
        let k : c ≡ length columns = (let z = f.count in omega (arith, e, z)) in
        subst (λ l. AreUsers rows openers l (get_or (columns ++ column ∷ []) c [])) (sym (ap (row (given ++ places ∷ [])) e ∙ seam given places))
        (subst (λ l. AreUsers rows openers places l) (sym (ap (λ j. get_or (columns ++ column ∷ []) j []) k ∙ seam columns column)) g)

pub columns-next : (rows : List (List ℕ)) (openers : List ℕ) (given : List (List ℕ)) (at : ℕ) (columns : List (List Bool)) (places : List ℕ) (column : List Bool)
    → at < length given → places ≡ get_or given at places → AreColumns rows openers (take at given) columns → AreUsers rows openers places column → AreColumns rows openers (take (at + 1) given) (columns ++ column ∷ [])
columns-next rows openers given at columns places column lt is f g =
    subst (λ l. AreColumns rows openers l (columns ++ column ∷ [])) (sym (take_more given at places lt ∙ ap (λ y. take at given ++ y ∷ []) (sym is))) (columns-more rows openers (take at given) columns places column f g)

pub no-columns : (rows : List (List ℕ)) (openers : List ℕ) → AreColumns rows openers [] []
no-columns rows openers = record { count = refl; each = λ c lt. absurd (omega (arith, lt)) }

pub listed-more : (reads writes : List (List Bool)) (zero : Option ℕ) (k : ℕ) (ps : List Proc) (p : Proc)
    → summaries_at reads writes zero k ps ++ summary_at reads writes zero (k + length ps) p ∷ [] ≡ summaries_at reads writes zero k (ps ++ p ∷ [])
listed-more reads writes z k [] p = let e : k + 0 ≡ k = omega arith in ap (λ n. summary_at reads writes z n p ∷ []) e
listed-more reads writes z k (q ∷ ps) p =
    let e : k + length (q ∷ ps) ≡ (k + 1) + length ps = omega arith in
    ap (λ l. summary_at reads writes z k q ∷ l) (ap (λ n. summaries_at reads writes z (k + 1) ps ++ summary_at reads writes z n p ∷ []) e ∙ listed-more reads writes z (k + 1) ps p)

-- the item of a loop, whatever is read past the end
pub read-at : {X : Type 0} (xs : List X) (k : ℕ) (x d : X) → k < length xs → x ≡ get_or xs k x → x ≡ get_or xs k d
read-at {X = X} xs k x d lt is = is ∙ by xs k lt
  where
    by : (ys : List X) (j : ℕ) → j < length ys → get_or ys j x ≡ get_or ys j d
    by [] j lt = absurd (omega (arith, lt))
    by (y ∷ ys) zero lt = refl
    by (y ∷ ys) (suc j) lt = by ys j (omega (arith, lt))

pub listed-next : (reads writes : List (List Bool)) (zero : Option ℕ) (ps : List Proc) (at : ℕ) (p : Proc) (refs mods : List ℕ) → at < length ps → p ≡ get_or ps at p
    → refs ≡ marked_cells reads zero at → mods ≡ marked_cells writes zero at
    → summaries_at reads writes zero 0 (take at ps) ++ (record { entry = p.entry; refs = refs; mods = mods }) ∷ [] ≡ summaries_at reads writes zero 0 (take (at + 1) ps)
listed-next reads writes z ps at p refs mods lt is r w =
    let n : length (take at ps) ≡ at = length-take-le at ps (omega (arith, lt)) in
    let k : 0 + length (take at ps) ≡ at = omega (arith, n) in
    let s : ◌≡◌ {A = Summary} (record { entry = p.entry; refs = refs; mods = mods }) (summary_at reads writes z at p) = (λ i. record { entry = p.entry; refs = r i; mods = w i }) in
    ap (λ x. summaries_at reads writes z 0 (take at ps) ++ x ∷ []) (s ∙ ap (λ j. summary_at reads writes z j p) (sym k))
    ∙ listed-more reads writes z 0 (take at ps) p
    ∙ ap (summaries_at reads writes z 0) (sym (take_more ps at p lt ∙ ap (λ y. take at ps ++ y ∷ []) (sym is)))

pub same-openers : (m : Machine) (g : Graph) (e f : ℕ → Bool) → ((a : ℕ) → e a ≡ f a) → all_openers m e g ≡ all_openers m f g
same-openers m g e f h = ap (λ x. all_openers m x g) (fun_ext h)

pub same-columns : (rows rows' : List (List ℕ)) (openers openers' : List ℕ) (given given' : List (List ℕ)) (columns : List (List Bool)) → rows ≡ rows' → openers ≡ openers' → given ≡ given' → AreColumns rows openers given columns → AreColumns rows' openers' given' columns
same-columns rows rows' openers openers' given given' columns e f h a = subst (λ r. AreColumns r openers' given' columns) e (subst (λ o. AreColumns rows o given' columns) f (subst (λ l. AreColumns rows openers l columns) h a))
