-- What ranges in a row map at one address.
use Rattle.std.proofs.Common.{◌≡◌, ℕ, ◌<◌, ◌≤◌, true, false, List, [], ◌∷◌, ◌++◌, refl, sym, ap, ◌∙◌}
use Rattle.std.specs.Prelude.{Option, Some, None}
use Rattle.std.specs.Option.{option_or}
use Rattle.std.proofs.lemmas.Bool.{leb-true, lt-leb, le-ltb, ltb-true, lt-ltb, le-leb, and_parts, and_from, and_left, and_right, cond-true, cond-false}
use Rattle.std.proofs.Math.Path.{fun_ext}
use Rattle.rtl_core.specs.Contents.{Contents, Held}
use Rattle.rtl_core.specs.FirstMemory.{part_at, parts_memory}
use Rattle.space.specs.declared.range.Range.{Range}
use Rattle.space.specs.Ranges.{end_of, held, holds, part_of, memory_of}

pub not_below : (r : Range) (a : ℕ) → a < r.base → holds r a ≡ false
not_below r a h = and_left _ _ (lt-leb _ _ h)

pub not_above : (r : Range) (a : ℕ) → end_of r ≤ a → holds r a ≡ false
not_above r a h = and_right _ _ (le-ltb _ _ h)

pub held_from : (r : Range) (a : ℕ) → r.base ≤ a → a < end_of r → holds r a ≡ true
held_from r a l h = and_from _ _ (le-leb _ _ l) (lt-ltb _ _ h)

pub held_low : (r : Range) (a : ℕ) → holds r a ≡ true → r.base ≤ a
held_low r a h = leb-true _ _ (and_parts _ _ h).0

pub held_high : (r : Range) (a : ℕ) → holds r a ≡ true → a < end_of r
held_high r a h = ltb-true _ _ (and_parts _ _ h).1

pub part_here : (r : Range) (a : ℕ) → holds r a ≡ true → part_at (part_of r) a ≡ Some (held r a)
part_here r a h = cond-true _ _ _ h

pub part_not : (r : Range) (a : ℕ) → holds r a ≡ false → part_at (part_of r) a ≡ None
part_not r a h = cond-false _ _ _ h

pub memory_cons : (r : Range) (rs : List Range) (a : ℕ) → memory_of (r ∷ rs) a ≡ option_or (part_at (part_of r) a) (memory_of rs a)
unfolding parts_memory
memory_cons r rs a = refl

pub memory_nil : (a : ℕ) → memory_of [] a ≡ None
unfolding parts_memory
memory_nil a = refl

pub memory_here : (r : Range) (rs : List Range) (a : ℕ) → holds r a ≡ true → memory_of (r ∷ rs) a ≡ Some (held r a)
memory_here r rs a h = memory_cons r rs a ∙ ap (λ o. option_or o (memory_of rs a)) (part_here r a h)

pub memory_skip : (r : Range) (rs : List Range) (a : ℕ) → holds r a ≡ false → memory_of (r ∷ rs) a ≡ memory_of rs a
memory_skip r rs a h = memory_cons r rs a ∙ ap (λ o. option_or o (memory_of rs a)) (part_not r a h)

or_assoc : (o p q : Option Held) → option_or o (option_or p q) ≡ option_or (option_or o p) q
or_assoc None p q = refl
or_assoc (Some h) p q = refl

pub or_none : (o : Option Held) → option_or o None ≡ o
or_none None = refl
or_none (Some h) = refl

pub memory_append : (xs ys : List Range) (a : ℕ) → memory_of (xs ++ ys) a ≡ option_or (memory_of xs a) (memory_of ys a)
memory_append [] ys a = sym (ap (λ o. option_or o (memory_of ys a)) (memory_nil a))
memory_append (x ∷ xs) ys a =
    memory_cons x (xs ++ ys) a
    ∙ ap (option_or (part_at (part_of x) a)) (memory_append xs ys a)
    ∙ or_assoc (part_at (part_of x) a) (memory_of xs a) (memory_of ys a)
    ∙ sym (ap (λ o. option_or o (memory_of ys a)) (memory_cons x xs a))

-- one range behind two lists that map the same
pub same_more : (xs ys zs : List Range) → memory_of xs ≡ memory_of ys → memory_of (xs ++ zs) ≡ memory_of (ys ++ zs)
same_more xs ys zs e = fun_ext (λ a.
    memory_append xs zs a ∙ ap (λ (m : Contents). option_or (m a) (memory_of zs a)) e ∙ sym (memory_append ys zs a))
