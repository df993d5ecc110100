-- Lists that have an element, and of which each element is right.
use Rattle.std.proofs.Common.{◌≡◌, ℕ, zero, suc, ◌+◌, ◌<◌, ◌≤◌, List, [], ◌∷◌, ◌++◌, length, map, refl, sym, arith}
use Rattle.std.specs.Prelude.{All}
use Rattle.std.specs.List.{flat_map}
use Rattle.std.proofs.lemmas.List.{length-append, length-map}
use Rattle.std.proofs.lemmas.List.Elements.{All-nil, All-cons, All-head, All-tail, All-append, All-map, All-weaker}
use Rattle.rtl_core.specs.declared.encodings.Item.{Item}
use Rattle.sled_rules.specs.Alternatives.{choices}

pub record Full {X : Type 0} (P : X → Type 0) (xs : List X) : Type 0 where
  pub some : 0 < length xs
  pub each : All P xs

pub full_one : {X : Type 0} (P : X → Type 0) (x : X) → P x → Full P (x ∷ [])
full_one P x p = record { some = omega arith; each = All-cons P x [] p (All-nil P) }

pub full_weaker : {X : Type 0} (P Q : X → Type 0) (xs : List X) → ((x : X) → P x → Q x) → Full P xs → Full Q xs
full_weaker P Q xs h full = record { some = full.some; each = All-weaker P Q h xs full.each }

pub full_append : {X : Type 0} (P : X → Type 0) (xs ys : List X) → Full P xs → All P ys → Full P (xs ++ ys)
full_append P xs ys full more = record { some = omega (arith, length-append xs ys, full.some); each = All-append P xs ys full.each more }

-- ---- choices

all_choices : (P Q R : List Item → Type 0) (f : List Item → List Item → List Item) → ((x y : List Item) → P x → Q y → R (f x y)) → (xs ys : List (List Item))
    → All P xs → All Q ys → All R (choices f xs ys)
all_choices P Q R f each [] ys ps qs = All-nil R
all_choices P Q R f each (x ∷ xs) ys ps qs =
    All-append R (map (f x) ys) (choices f xs ys)
    (All-map R (f x) ys (All-weaker Q (λ y. R (f x y)) (λ y q. each x y (All-head P x xs ps) q) ys qs))
    (all_choices P Q R f each xs ys (All-tail P x xs ps) qs)

some_choices : (f : List Item → List Item → List Item) (xs ys : List (List Item)) → 0 < length xs → 0 < length ys → 0 < length (choices f xs ys)
some_choices f [] ys h k = absurd (omega (arith, h))
some_choices f (x ∷ xs) ys h k = omega (arith, k, length-append (map (f x) ys) (choices f xs ys), length-map ys (f x))

-- each choice is right where both halves are
pub full_choices : (P Q R : List Item → Type 0) (f : List Item → List Item → List Item) → ((x y : List Item) → P x → Q y → R (f x y)) → (xs ys : List (List Item))
    → Full P xs → Full Q ys → Full R (choices f xs ys)
full_choices P Q R f each xs ys ps qs = record {
  some = some_choices f xs ys ps.some qs.some;
  each = all_choices P Q R f each xs ys ps.each qs.each;
}

-- the front half of lists that are right
pub all_left : {X : Type 0} (P : X → Type 0) (xs ys : List X) → All P (xs ++ ys) → All P xs
all_left P [] ys h = All-nil P
all_left P (x ∷ xs) ys h = All-cons P x xs (All-head P x (xs ++ ys) h) (all_left P xs ys (All-tail P x (xs ++ ys) h))
