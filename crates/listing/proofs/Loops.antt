-- What a sink took when a loop over a list is at a place.
use Rattle.std.proofs.Common.{◌≡◌, ℕ, ◌+◌, ◌<◌, ◌≤◌, List, [], ◌∷◌, ◌++◌, length, take, drop, get_or, suc, sym, ap, subst, ◌∙◌, take-append-drop, drop-cons}
use Rattle.std.specs.List.{flat_map}
use Rattle.std.proofs.lemmas.List.{append-nil, take_all, take_more}
use Rattle.std.proofs.lemmas.List.Concat.{flat_map-append}
use Rattle.edge_io.specs.Output.{Output, TookPart}
use Rattle.c_text.specs.Output.{Took}
use Rattle.c_text.proofs.Written.{took_both, part_here, part_then}

module _ {X : Type 0} (f : X → List ℕ) where
  flat_map_next : (xs : List X) (i : ℕ) (d : X) → i < length xs → flat_map f (take (i + 1) xs) ≡ flat_map f (take i xs) ++ f (get_or xs i d)
  flat_map_next xs i d l =
      ap (flat_map f) (take_more xs i d l) ∙ flat_map-append f (take i xs) (get_or xs i d ∷ [])
      ∙ ap (λ ys. flat_map f (take i xs) ++ ys) (append-nil (f (get_or xs i d)))

  flat_map_split : (xs : List X) (i : ℕ) (d : X) → i < length xs → flat_map f xs ≡ flat_map f (take i xs) ++ (f (get_or xs i d) ++ flat_map f (drop (suc i) xs))
  flat_map_split xs i d l =
      ap (flat_map f) (sym (take-append-drop i xs)) ∙ flat_map-append f (take i xs) (drop i xs)
      ∙ ap (λ ys. flat_map f (take i xs) ++ flat_map f ys) (drop-cons xs i d l)

  -- the next element was taken, too
  pub took_next : {o p q : Output} (xs : List X) (i : ℕ) (d : X) → i < length xs → Took o p (flat_map f (take i xs)) → Took p q (f (get_or xs i d)) → Took o q (flat_map f (take (i + 1) xs))
  took_next {o} {p} {q} xs i d l a b = subst (Took o q) (sym (flat_map_next xs i d l)) (took_both a b)

  -- the sink failed in the next element
  pub part_next : {o p q : Output} (xs : List X) (i : ℕ) (d : X) → i < length xs → Took o p (flat_map f (take i xs)) → TookPart p q (f (get_or xs i d)) → TookPart o q (flat_map f xs)
  part_next {o} {p} {q} xs i d l a b = subst (TookPart o q) (sym (flat_map_split xs i d l)) (part_then a (part_here _ b))

  -- all were taken
  pub took_end : {o q : Output} (xs : List X) (i : ℕ) → length xs ≤ i → Took o q (flat_map f (take i xs)) → Took o q (flat_map f xs)
  took_end {o} {q} xs i l a = subst (Took o q) (ap (flat_map f) (take_all i xs l)) a
