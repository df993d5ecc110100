-- Some of which each stands once, with one more.
use Rattle.std.proofs.Common.{◌≡◌, Bool, true, false, true≢false, List, [], ◌∷◌, ◌++◌, append-nil, refl, sym, ap, ◌∙◌, subst, rules}
use Rattle.std.specs.Prelude.{◌||◌, if◌then◌else◌}
use Rattle.std.specs.List.{list_any}
use Rattle.points.specs.declared.block.Next.{Next}
use Rattle.points.specs.contracts.block.NextPartialEq.TheImpl as next_equality
use Rattle.points.specs.Courses.{all_but, once}

abbrev equals : Next → Next → Bool
equals = next_equality.eq-value.it

abbrev pub among : Next → List Next → Bool
among n os = list_any (λ o. equals n o) os

equals-itself : (n : Next) → equals n n ≡ true
equals-itself n = search rules

equals-is : (n o : Next) → equals n o ≡ true → n ≡ o
equals-is n o h = search rules

-- unlike this one, seen from the other side
unlike : (n o : Next) → equals n o ≡ false → equals o n ≡ false
unlike n o h = by (equals o n) refl
  where
    by : (b : Bool) → equals o n ≡ b → equals o n ≡ false
    by false e = e
    by true e = absurd (true≢false (sym (equals-itself n) ∙ ap (equals n) (sym (equals-is o n e)) ∙ h))

abbrev kept : Next → Next → List Next
kept x n = if equals x n then [] else n ∷ []

but-push : (x n : Next) (os : List Next) → all_but x (os ++ n ∷ []) ≡ all_but x os ++ kept x n
but-push x n [] = by (equals x n) refl
  where
    by : (b : Bool) → equals x n ≡ b → all_but x (n ∷ []) ≡ kept x n
    by true e = rw e refl
    by false e = rw e refl
but-push x n (o ∷ os) = by (equals x o) refl (but-push x n os)
  where
    by : (b : Bool) → equals x o ≡ b → all_but x (os ++ n ∷ []) ≡ all_but x os ++ kept x n → all_but x (o ∷ (os ++ n ∷ [])) ≡ all_but x (o ∷ os) ++ kept x n
    by true e h = rw e h
    by false e h = rw e (ap (λ xs. o ∷ xs) h)

among-but : (x n : Next) (os : List Next) → equals n x ≡ false → among n (all_but x os) ≡ among n os
among-but x n [] h = refl
among-but x n (o ∷ os) h = by (equals x o) refl (among-but x n os h)
  where
    by : (b : Bool) → equals x o ≡ b → among n (all_but x os) ≡ among n os → among n (all_but x (o ∷ os)) ≡ among n (o ∷ os)
    by true e r = rw (e, sym (ap (equals n) (equals-is x o e)) ∙ h) r
    by false e r = rw e (ap (λ b. equals n o || b) r)

but-pushed-itself : (x n : Next) (os : List Next) → equals x n ≡ true → all_but x (os ++ n ∷ []) ≡ all_but x os
but-pushed-itself x n os e = but-push x n os ∙ ap (λ b. all_but x os ++ (if b then [] else n ∷ [])) e ∙ append-nil (all_but x os)

abbrev pub pushed : List Next → Next → List Next
pushed os n = if among n os then os else os ++ n ∷ []

first-pushed : (x n : Next) (os : List Next) → x ∷ all_but x (pushed os n) ≡ pushed (x ∷ all_but x os) n
first-pushed x n os = by (equals n x) (among n os) refl refl
  where
    by : (b c : Bool) → equals n x ≡ b → among n os ≡ c → x ∷ all_but x (pushed os n) ≡ pushed (x ∷ all_but x os) n
    by true true e f = rw (e, f) refl
    by true false e f = rw (e, f) (ap (λ xs. x ∷ xs) (but-pushed-itself x n os (subst (λ y. equals x y ≡ true) (sym (equals-is n x e)) (equals-itself x))))
    by false true e f = rw (e, among-but x n os e ∙ f, f) refl
    by false false e f = rw (e, among-but x n os e ∙ f, f, but-push x n os, unlike n x e) refl

pub once-pushed : (xs : List Next) (n : Next) → once (xs ++ n ∷ []) ≡ pushed (once xs) n
once-pushed [] n = refl
once-pushed (x ∷ xs) n = ap (λ os. x ∷ all_but x os) (once-pushed xs n) ∙ first-pushed x n (once xs)

-- one that stands there already, and one that does not
pub held_on : (old before : List Next) (n : Next) → among n old ≡ true → old ≡ once before → old ≡ once (before ++ n ∷ [])
held_on old before n h e = e ∙ sym (once-pushed before n ∙ rw (sym (ap (among n) e) ∙ h) refl)

pub new_on : (old before : List Next) (n : Next) → among n old ≡ false → old ≡ once before → old ++ n ∷ [] ≡ once (before ++ n ∷ [])
new_on old before n h e = ap (λ os. os ++ n ∷ []) e ∙ sym (once-pushed before n ∙ rw (sym (ap (among n) e) ∙ h) refl)
