-- Lists no two of whose members are alike, and tests of numbered members.
use Rattle.std.proofs.Common.{◌≡◌, ◌≢◌, ℕ, zero, suc, ◌+◌, Bool, true, false, ◌||◌, List, [], ◌∷◌, ◌++◌, map, take, slice_get, Some, refl, sym, ap, ◌∙◌, subst, arith}
use Rattle.std.specs.Prelude.{not, ◌==◌}
use Rattle.std.specs.List.{AllByRecursion, Contains, list_any, list_all}
use Rattle.std.specs.List.Sorted.{IsStrictlySortedBy}
use Rattle.std.specs.Ordering.{nat_cmp}
use Rattle.std.specs.declared.cmp.Ordering.TheVariants.{Less}
use Rattle.std.proofs.lemmas.Bool.{and_from, eqb-true}
use Rattle.std.proofs.lemmas.Map.Keys.{sorted_head, sorted_tail}
use Rattle.c_lang.specs.Items.{Item, numbered}
use Rattle.c_lang.specs.State.{has}
use Rattle.c_lang.specs.StaticRules.{no_two, no_twice}
use Rattle.params.proofs.Members.{first-in, later-in, above, both-below}

-- ---- members with their numbers

-- what holds of each member at its place holds of all items
pub numbered-all : {A : Type 0} (test : Item → Bool) (item : ℕ → A → Item) (i : ℕ) (xs : List A) → ((k : ℕ) (x : A) → slice_get xs k ≡ Some x → test (item (i + k) x) ≡ true) → list_all test (numbered item i xs) ≡ true
numbered-all test item i [] h = refl
numbered-all test item i (x ∷ xs) h =
    and_from (test (item i x)) (list_all test (numbered item (i + 1) xs)) (subst (λ n. test (item n x) ≡ true) (let n : i + 0 ≡ i = omega arith in n) (h 0 x refl))
    (numbered-all test item (i + 1) xs (λ k y e. subst (λ n. test (item n y) ≡ true) (let n : i + suc k ≡ i + 1 + k = omega arith in n) (h (suc k) y e)))

-- the same, counted from 0 on
pub numbered-each : {A : Type 0} (test : Item → Bool) (item : ℕ → A → Item) (xs : List A) → ((k : ℕ) (x : A) → slice_get xs k ≡ Some x → test (item k x) ≡ true) → list_all test (numbered item 0 xs) ≡ true
numbered-each test item xs h = numbered-all test item 0 xs (λ k x e. subst (λ n. test (item n x) ≡ true) (let n : k ≡ 0 + k = omega arith in n) (h k x e))

pub got-mapped : {A B : Type 0} (f : A → B) (xs : List A) (k : ℕ) (y : B) → slice_get (map f xs) k ≡ Some y → (x : A) × (slice_get xs k ≡ Some x) × (f x ≡ y)
got-mapped f [] k y e = let no : ⊥ = cc in absurd no
got-mapped f (x ∷ xs) zero y e = (x, refl, cc)
got-mapped f (x ∷ xs) (suc k) y e = got-mapped f xs k y e

pub got-in : {A : Type 0} (xs : List A) (k : ℕ) (x : A) → slice_get xs k ≡ Some x → Contains xs x
got-in [] k x e = let no : ⊥ = cc in absurd no
got-in (y ∷ ys) zero x e = let same : y ≡ x = cc in subst (λ z. Contains (y ∷ ys) z) same (first-in y ys)
got-in (y ∷ ys) (suc k) x e = later-in y x ys (got-in ys k x e)

-- ---- no two alike

-- each member is unlike all later ones
abbrev pub Apart : {A : Type 0} → List A → Type 0
Apart [] = Unit {0}
Apart (x ∷ xs) = AllByRecursion (λ y. x ≢ y) xs × Apart xs

module _ {A : Type 0} (alike : A → A → Bool) (is : (x y : A) → alike x y ≡ true → x ≡ y) where
  none-alike : (x : A) (xs : List A) → AllByRecursion (λ y. x ≢ y) xs → list_any (alike x) xs ≡ false
  none-alike x [] h = refl
  none-alike x (y ∷ ys) h = by (alike x y) refl (none-alike x ys h.1)
    where
      by : (b : Bool) → alike x y ≡ b → list_any (alike x) ys ≡ false → (alike x y || list_any (alike x) ys) ≡ false
      by true e rest = absurd (h.0 (is x y e))
      by false e rest = ap (λ b. b || list_any (alike x) ys) e ∙ rest

  pub apart-no_two : (xs : List A) → Apart xs → no_two alike xs ≡ true
  apart-no_two [] h = refl
  apart-no_two (x ∷ xs) h = and_from (not (list_any (alike x) xs)) (no_two alike xs) (ap not (none-alike x xs h.0)) (apart-no_two xs h.1)

pub each-joined : {A : Type 0} (Q : A → Type 0) (xs ys : List A) → AllByRecursion Q xs → AllByRecursion Q ys → AllByRecursion Q (xs ++ ys)
each-joined Q [] ys h k = k
each-joined Q (x ∷ xs) ys h k = (h.0, each-joined Q xs ys h.1 k)

pub each-weaker : {A : Type 0} (Q R : A → Type 0) → ((x : A) → Q x → R x) → (xs : List A) → AllByRecursion Q xs → AllByRecursion R xs
each-weaker Q R f [] h = tt
each-weaker Q R f (x ∷ xs) h = (f x h.0, each-weaker Q R f xs h.1)

-- two lists whose members are told apart by what they are
pub apart-joined : {A : Type 0} (Q R : A → Type 0) → ((x y : A) → Q x → R y → x ≢ y) → (xs ys : List A) → Apart xs → AllByRecursion Q xs → Apart ys → AllByRecursion R ys → Apart (xs ++ ys)
apart-joined Q R differ [] ys h q k r = k
apart-joined Q R differ (x ∷ xs) ys h q k r =
    (each-joined (λ y. x ≢ y) xs ys h.0 (each-weaker R (λ y. x ≢ y) (λ y s. differ x y q.0 s) ys r), apart-joined Q R differ xs ys h.1 q.1 k r)

-- ---- lists that rise

rises-apart : (xs : List ℕ) → IsStrictlySortedBy nat_cmp xs → Apart xs
rises-apart [] s = tt
rises-apart (x ∷ xs) s = (
  each-weaker (λ y. nat_cmp x y ≡ Less) (λ y. x ≢ y) (λ y l e. let m = subst (λ z. nat_cmp x z ≡ Less) (sym e) l in both-below x x m m) xs (sorted_head nat_cmp x xs s),
  rises-apart xs (sorted_tail nat_cmp x xs s),
)

pub rises-once : (xs : List ℕ) → IsStrictlySortedBy nat_cmp xs → no_twice xs ≡ true
rises-once xs s = apart-no_two (λ x y. x == y) (λ x y e. eqb-true x y e) xs (rises-apart xs s)

-- a member is not among those before it
pub not-before : (xs : List ℕ) (k x : ℕ) → IsStrictlySortedBy nat_cmp xs → slice_get xs k ≡ Some x → has (take k xs) x ≡ false
not-before xs zero x s e = refl
not-before [] (suc k) x s e = refl
not-before (y ∷ ys) (suc k) x s e = by (y == x) refl (not-before ys k x (sorted_tail nat_cmp y ys s) e)
  where
    by : (b : Bool) → (y == x) ≡ b → has (take k ys) x ≡ false → ((y == x) || has (take k ys) x) ≡ false
    by true f rest =
        let up = above y ys s x (got-in ys k x e) in
        let m = subst (λ z. nat_cmp z x ≡ Less) (eqb-true y x f) up in
        absurd (both-below x x m m)
    by false f rest = ap (λ b. b || has (take k ys) x) f ∙ rest
