-- Lists with the same members.
use Rattle.std.proofs.Common.{◌≡◌, List, [], ◌∷◌, refl, sym, ◌∙◌, ap, inl, inr, subst}
use Rattle.std.specs.Prelude.{◌⊎◌, map}
use Rattle.std.specs.Cmp.{IsTotalOrder}
use Rattle.std.specs.Ordering.{ordering_reverse}
use Rattle.std.specs.declared.cmp.Ordering.{Ordering}
use Rattle.std.specs.declared.cmp.Ordering.TheVariants.{Less, Greater}
use Rattle.std.specs.List.{All, Contains}
use Rattle.std.specs.List.Sorted.{IsStrictlySortedBy}
use Rattle.std.proofs.lemmas.List.Elements.{All-from_recursion, All-contains, All-head, All-tail}
use Rattle.std.proofs.lemmas.Map.Keys.{sorted_head, sorted_tail}
use Rattle.worklist.specs.Closures.{HaveSameMembers}
use Rattle.worklist.proofs.Members.{no_member, head_member, tail_member, member_cases}

module _ {T : Type 0} (cmp : T → T → Ordering) (total : IsTotalOrder cmp) where
  not_both_less : (x y : T) → cmp x y ≡ Less → cmp y x ≡ Less → ⊥
  not_both_less x y a b = let e = total.antisymm x y ∙ ap ordering_reverse b in let f : Less ≡ Greater = sym a ∙ e in cc

  above_head : (x : T) (xs : List T) → IsStrictlySortedBy cmp (x ∷ xs) → (z : T) → Contains xs z → cmp x z ≡ Less
  above_head x xs s z c = All-contains (λ y. cmp x y ≡ Less) xs z (All-from_recursion (λ y. cmp x y ≡ Less) xs (sorted_head cmp x xs s)) c

  same_heads : (x y : T) (xs ys : List T) → IsStrictlySortedBy cmp (x ∷ xs) → IsStrictlySortedBy cmp (y ∷ ys) → (y ≡ x) ⊎ Contains ys x → (x ≡ y) ⊎ Contains xs y → x ≡ y
  same_heads x y xs ys sx sy (inl e) b = sym e
  same_heads x y xs ys sx sy (inr c) (inl e) = e
  same_heads x y xs ys sx sy (inr c) (inr d) = absurd (not_both_less x y (above_head x xs sx y d) (above_head y ys sy x c))

  in_tail : (x y z : T) (xs ys : List T) → x ≡ y → IsStrictlySortedBy cmp (x ∷ xs) → Contains xs z → (y ≡ z) ⊎ Contains ys z → Contains ys z
  in_tail x y z xs ys e s c (inl f) =
      let m : cmp z z ≡ Less = subst (λ w. cmp w z ≡ Less) (e ∙ f) (above_head x xs s z c) in
      absurd (not_both_less z z m m)
  in_tail x y z xs ys e s c (inr d) = d

  same_tails : (x y : T) (xs ys : List T) → x ≡ y → IsStrictlySortedBy cmp (x ∷ xs) → IsStrictlySortedBy cmp (y ∷ ys) → HaveSameMembers (x ∷ xs) (y ∷ ys) → HaveSameMembers xs ys
  same_tails x y xs ys e sx sy m = record {
    there = λ z c. in_tail x y z xs ys e sx c (member_cases y z ys (m.there z (tail_member x z xs c)));
    back = λ z c. in_tail y x z ys xs (sym e) sy c (member_cases x z xs (m.back z (tail_member y z ys c)));
  }

  -- lists that ascend and have the same members are equal
  pub one_ascending : (xs ys : List T) → IsStrictlySortedBy cmp xs → IsStrictlySortedBy cmp ys → HaveSameMembers xs ys → xs ≡ ys
  one_ascending [] [] sx sy m = refl
  one_ascending [] (y ∷ ys) sx sy m = absurd (no_member y (m.back y (head_member y ys)))
  one_ascending (x ∷ xs) [] sx sy m = absurd (no_member x (m.there x (head_member x xs)))
  one_ascending (x ∷ xs) (y ∷ ys) sx sy m =
      let e = same_heads x y xs ys sx sy (member_cases y x ys (m.there x (head_member x xs))) (member_cases x y xs (m.back y (head_member y ys))) in
      let t = one_ascending xs ys (sorted_tail cmp x xs sx) (sorted_tail cmp y ys sy) (same_tails x y xs ys e sx sy m) in
      λ i. e i ∷ t i

-- lists whose items are each known by a part of them
module _ {X K : Type 0} (f : X → K) (P : X → Type 0) (one : (x y : X) → P x → P y → f x ≡ f y → x ≡ y) where
  pub one_by_parts : (xs ys : List X) → All P xs → All P ys → map f xs ≡ map f ys → xs ≡ ys
  one_by_parts [] [] a b e = refl
  one_by_parts [] (y ∷ ys) a b e = absurd (cc)
  one_by_parts (x ∷ xs) [] a b e = absurd (cc)
  one_by_parts (x ∷ xs) (y ∷ ys) a b e =
      let h : f x ≡ f y = cc in
      let t : map f xs ≡ map f ys = cc in
      let p = one x y (All-head P x xs a) (All-head P y ys b) h in
      let q = one_by_parts xs ys (All-tail P x xs a) (All-tail P y ys b) t in
      λ i. p i ∷ q i
