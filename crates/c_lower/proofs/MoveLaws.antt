-- What is pushed for a window move, one cell after another.
use Rattle.std.proofs.Common.{◌≡◌, ℕ, zero, suc, ◌+◌, List, [], ◌∷◌, ◌++◌, append_assoc, refl, sym, ap, ◌∙◌, arith, Some}
use Rattle.rtl_core.specs.declared.machine.WinShape.{WinShape}
use Rattle.c_lang.specs.declared.tree.COp.TheVariants.{Eq as Same, Add as Plus, Sub as Minus}
use Rattle.c_lang.specs.declared.tree.CExpr.TheVariants.{Num, Of, Bin as Op}
use Rattle.c_lang.specs.declared.tree.Stmt.{Stmt}
use Rattle.c_lang.specs.declared.tree.Stmt.TheVariants.{Set, TakeW, PutW, If, Stop as StopWith}
use Rattle.c_lang.specs.declared.tree.Var.TheVariants.{Cell as CellVar, Wn}
use Rattle.c_lower.specs.Lowered.{word_place, pushed, popped, moved, cleared, save_code, restore_code}
use Rattle.c_lower.proofs.CodeLaws.{onto}

-- numbers counted from the front
at_0 : (i : ℕ) → i ≡ i + 0
at_0 i = omega arith

at_next : (i n : ℕ) → i + 1 + n ≡ i + suc n
at_next i n = omega arith

-- ---- one cell more at the end
pushed_last : (n i first : ℕ) → pushed i first (suc n) [] ≡ pushed i first n [] ++ PutW (word_place (i + n)) (Of (CellVar (first + n))) ∷ []
pushed_last zero i first = ap (λ j. PutW (word_place j) (Of (CellVar first)) ∷ []) (at_0 i) ∙ ap (λ j. PutW (word_place (i + 0)) (Of (CellVar j)) ∷ []) (at_0 first)
pushed_last (suc n) i first =
    ap (λ l. PutW (word_place i) (Of (CellVar first)) ∷ l)
    (pushed_last n (i + 1) (first + 1) ∙ ap (λ j. pushed (i + 1) (first + 1) n [] ++ PutW (word_place j) (Of (CellVar (first + 1 + n))) ∷ []) (at_next i n)
    ∙ ap (λ j. pushed (i + 1) (first + 1) n [] ++ PutW (word_place (i + suc n)) (Of (CellVar j)) ∷ []) (at_next first n))

popped_last : (n i first : ℕ) → popped i first (suc n) [] ≡ popped i first n [] ++ TakeW (CellVar (first + n)) (word_place (i + n)) ∷ []
popped_last zero i first = ap (λ j. TakeW (CellVar first) (word_place j) ∷ []) (at_0 i) ∙ ap (λ j. TakeW (CellVar j) (word_place (i + 0)) ∷ []) (at_0 first)
popped_last (suc n) i first =
    ap (λ l. TakeW (CellVar first) (word_place i) ∷ l)
    (popped_last n (i + 1) (first + 1) ∙ ap (λ j. popped (i + 1) (first + 1) n [] ++ TakeW (CellVar (first + 1 + n)) (word_place j) ∷ []) (at_next i n)
    ∙ ap (λ j. popped (i + 1) (first + 1) n [] ++ TakeW (CellVar j) (word_place (i + suc n)) ∷ []) (at_next first n))

moved_last : (n from to : ℕ) → moved from to (suc n) [] ≡ moved from to n [] ++ Set (CellVar (to + n)) (Of (CellVar (from + n))) ∷ []
moved_last zero from to = ap (λ j. Set (CellVar to) (Of (CellVar j)) ∷ []) (at_0 from) ∙ ap (λ j. Set (CellVar j) (Of (CellVar (from + 0))) ∷ []) (at_0 to)
moved_last (suc n) from to =
    ap (λ l. Set (CellVar to) (Of (CellVar from)) ∷ l)
    (moved_last n (from + 1) (to + 1) ∙ ap (λ j. moved (from + 1) (to + 1) n [] ++ Set (CellVar (to + 1 + n)) (Of (CellVar j)) ∷ []) (at_next from n)
    ∙ ap (λ j. moved (from + 1) (to + 1) n [] ++ Set (CellVar j) (Of (CellVar (from + suc n))) ∷ []) (at_next to n))

cleared_last : (n first : ℕ) → cleared first (suc n) [] ≡ cleared first n [] ++ Set (CellVar (first + n)) (Num 0) ∷ []
cleared_last zero first = ap (λ j. Set (CellVar j) (Num 0) ∷ []) (at_0 first)
cleared_last (suc n) first =
    ap (λ l. Set (CellVar first) (Num 0) ∷ l) (cleared_last n (first + 1) ∙ ap (λ j. cleared (first + 1) n [] ++ Set (CellVar j) (Num 0) ∷ []) (at_next first n))

-- ---- a step of the loops
more : (x0 x1 front : List Stmt) (s : Stmt) (all : List Stmt) → all ≡ front ++ s ∷ [] → x1 ≡ x0 ++ front → x1 ++ s ∷ [] ≡ x0 ++ all
more x0 x1 front s all is h = ap (λ l. l ++ s ∷ []) h ∙ append_assoc x0 front (s ∷ []) ∙ ap (λ l. x0 ++ l) (sym is)

pub pushed_more : (x0 x1 : List Stmt) (i first n : ℕ) → x1 ≡ x0 ++ pushed i first n [] → x1 ++ PutW (word_place (i + n)) (Of (CellVar (first + n))) ∷ [] ≡ x0 ++ pushed i first (suc n) []
pushed_more x0 x1 i first n h = more x0 x1 (pushed i first n []) (PutW (word_place (i + n)) (Of (CellVar (first + n)))) _ (pushed_last n i first) h

pub popped_more : (x0 x1 : List Stmt) (i first n : ℕ) → x1 ≡ x0 ++ popped i first n [] → x1 ++ TakeW (CellVar (first + n)) (word_place (i + n)) ∷ [] ≡ x0 ++ popped i first (suc n) []
popped_more x0 x1 i first n h = more x0 x1 (popped i first n []) (TakeW (CellVar (first + n)) (word_place (i + n))) _ (popped_last n i first) h

pub moved_more : (x0 x1 : List Stmt) (from to n : ℕ) → x1 ≡ x0 ++ moved from to n [] → x1 ++ Set (CellVar (to + n)) (Of (CellVar (from + n))) ∷ [] ≡ x0 ++ moved from to (suc n) []
moved_more x0 x1 from to n h = more x0 x1 (moved from to n []) (Set (CellVar (to + n)) (Of (CellVar (from + n)))) _ (moved_last n from to) h

pub cleared_more : (x0 x1 : List Stmt) (first n : ℕ) → x1 ≡ x0 ++ cleared first n [] → x1 ++ Set (CellVar (first + n)) (Num 0) ∷ [] ≡ x0 ++ cleared first (suc n) []
cleared_more x0 x1 first n h = more x0 x1 (cleared first n []) (Set (CellVar (first + n)) (Num 0)) _ (cleared_last n first) h

-- ---- before a rest
pushed_then : (n i first : ℕ) (r : List Stmt) → pushed i first n [] ++ r ≡ pushed i first n r
pushed_then zero i first r = refl
pushed_then (suc n) i first r = ap (λ l. PutW (word_place i) (Of (CellVar first)) ∷ l) (pushed_then n (i + 1) (first + 1) r)

popped_then : (n i first : ℕ) (r : List Stmt) → popped i first n [] ++ r ≡ popped i first n r
popped_then zero i first r = refl
popped_then (suc n) i first r = ap (λ l. TakeW (CellVar first) (word_place i) ∷ l) (popped_then n (i + 1) (first + 1) r)

moved_then : (n from to : ℕ) (r : List Stmt) → moved from to n [] ++ r ≡ moved from to n r
moved_then zero from to r = refl
moved_then (suc n) from to r = ap (λ l. Set (CellVar to) (Of (CellVar from)) ∷ l) (moved_then n (from + 1) (to + 1) r)

cleared_then : (n first : ℕ) (r : List Stmt) → cleared first n [] ++ r ≡ cleared first n r
cleared_then zero first r = refl
cleared_then (suc n) first r = ap (λ l. Set (CellVar first) (Num 0) ∷ l) (cleared_then n (first + 1) r)

one_then : (s : Stmt) (r : List Stmt) → (s ∷ []) ++ r ≡ s ∷ r
one_then s r = refl

-- ---- a whole move
pub saved : (w : WinShape) (x0 x1 x2 x3 x4 x5 x6 x7 : List Stmt) → x1 ≡ x0 ++ If (Op Same (Of Wn) (Num 65536)) (StopWith 6 (Num 0) ∷ []) ∷ [] → x2 ≡ x1 ++ pushed 0 w.local_first w.count [] → x3 ≡ x2 ++ pushed w.count w.in_first w.count []
    → x4 ≡ x3 ++ Set Wn (Op Plus (Of Wn) (Num 1)) ∷ [] → x5 ≡ x4 ++ moved w.out_first w.in_first w.count [] → x6 ≡ x5 ++ cleared w.local_first w.count [] → x7 ≡ x6 ++ cleared w.out_first w.count [] → x7 ≡ x0 ++ save_code (Some w) []
saved w x0 x1 x2 x3 x4 x5 x6 x7 h1 h2 h3 h4 h5 h6 h7 =
    let k = w.count in
    let full = If (Op Same (Of Wn) (Num 65536)) (StopWith 6 (Num 0) ∷ []) in
    let count = Set Wn (Op Plus (Of Wn) (Num 1)) in
    let r6 = cleared w.out_first k [] in
    let r5 = cleared w.local_first k r6 in
    let r4 = moved w.out_first w.in_first k r5 in
    let r3 = count ∷ r4 in
    let r2 = pushed k w.in_first k r3 in
    let g6 = onto (cleared w.local_first k) (cleared_then k w.local_first) x5 x6 x7 r6 h6 h7 in
    let g5 = onto (moved w.out_first w.in_first k) (moved_then k w.out_first w.in_first) x4 x5 x7 r5 h5 g6 in
    let g4 = onto (λ r. count ∷ r) (one_then count) x3 x4 x7 r4 h4 g5 in
    let g3 = onto (pushed k w.in_first k) (pushed_then k k w.in_first) x2 x3 x7 r3 h3 g4 in
    let g2 = onto (pushed 0 w.local_first k) (pushed_then k 0 w.local_first) x1 x2 x7 r2 h2 g3 in
    onto (λ r. full ∷ r) (one_then full) x0 x1 x7 (pushed 0 w.local_first k r2) h1 g2

pub restored : (w : WinShape) (x0 x1 x2 x3 x4 x5 : List Stmt) → x1 ≡ x0 ++ If (Op Same (Of Wn) (Num 0)) (StopWith 7 (Num 0) ∷ []) ∷ [] → x2 ≡ x1 ++ Set Wn (Op Minus (Of Wn) (Num 1)) ∷ [] → x3 ≡ x2 ++ moved w.in_first w.out_first w.count []
    → x4 ≡ x3 ++ popped 0 w.local_first w.count [] → x5 ≡ x4 ++ popped w.count w.in_first w.count [] → x5 ≡ x0 ++ restore_code (Some w) []
restored w x0 x1 x2 x3 x4 x5 h1 h2 h3 h4 h5 =
    let k = w.count in
    let empty = If (Op Same (Of Wn) (Num 0)) (StopWith 7 (Num 0) ∷ []) in
    let count = Set Wn (Op Minus (Of Wn) (Num 1)) in
    let r4 = popped k w.in_first k [] in
    let r3 = popped 0 w.local_first k r4 in
    let r2 = moved w.in_first w.out_first k r3 in
    let g4 = onto (popped 0 w.local_first k) (popped_then k 0 w.local_first) x3 x4 x5 r4 h4 h5 in
    let g3 = onto (moved w.in_first w.out_first k) (moved_then k w.in_first w.out_first) x2 x3 x5 r3 h3 g4 in
    let g2 = onto (λ r. count ∷ r) (one_then count) x1 x2 x5 r2 h2 g3 in
    onto (λ r. empty ∷ r) (one_then empty) x0 x1 x5 (count ∷ r2) h1 g2
