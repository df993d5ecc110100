-- A table of a file, one row more.
use Rattle.std.proofs.Common.{◌≡◌, ℕ, ◌+◌, Bool, true, false, cond, List, [], ◌∷◌, ◌++◌, map, filter, refl, sym, ap, ◌∙◌, arith}
use Rattle.std.specs.List.{range_with_len}
use Rattle.std.proofs.lemmas.List.{map-append}
use Rattle.std.proofs.lemmas.List.FromFn.{map-range_with_len_more, filter_of_map_range_with_len_more}

-- the rows so far with the next one are one row more
pub row_more : {X : Type 0} (f : ℕ → X) (i : ℕ) (old new : List X) (x : X) → old ≡ map f (range_with_len 0 i) → new ≡ old ++ x ∷ [] → x ≡ f i → new ≡ map f (range_with_len 0 (i + 1))
row_more f i old new x is_old is_new is_row =
    is_new ∙ ap (λ xs. xs ++ x ∷ []) is_old ∙ ap (λ y. map f (range_with_len 0 i) ++ y ∷ []) is_row ∙ sym (map-range_with_len_more f 0 i i (omega arith))

-- what passes of one row, and what is taken of it
one_row : {X Y : Type 0} (g : X → Y) (b : Bool) (x : X) → map g (cond b (x ∷ []) []) ≡ cond b (g x ∷ []) []
one_row g true x = refl
one_row g false x = refl

-- the same, where only rows that pass are kept, and of them a part
pub kept_row_more : {X Y : Type 0} (g : X → Y) (p : X → Bool) (f : ℕ → X) (i : ℕ) (old new : List Y) (x : X) → old ≡ map g (filter p (map f (range_with_len 0 i))) → new ≡ old ++ cond (p x) (g x ∷ []) [] → x ≡ f i → new ≡ map g (filter p (map f (range_with_len 0 (i + 1))))
kept_row_more g p f i old new x is_old is_new is_row =
    is_new
    ∙ ap (λ ys. ys ++ cond (p x) (g x ∷ []) []) is_old
    ∙ ap (λ y. map g (filter p (map f (range_with_len 0 i))) ++ cond (p y) (g y ∷ []) []) is_row
    ∙ ap (λ ys. map g (filter p (map f (range_with_len 0 i))) ++ ys) (sym (one_row g (p (f i)) (f i)))
    ∙ sym (map-append g (filter p (map f (range_with_len 0 i))) (cond (p (f i)) (f i ∷ []) []))
    ∙ ap (map g) (sym (filter_of_map_range_with_len_more p f 0 i i (omega arith)))
