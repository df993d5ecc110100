-- The functions of a program, taken from the last one on.
use Rattle.std.proofs.Common.{◌≡◌, ◌<◌, ◌^◌, List, [], ◌∷◌, ◌++◌, length, sym, ap, ◌∙◌, subst, arith, append_assoc, length-append}
use Rattle.std.specs.Prelude.{reverse}
use Rattle.std.proofs.lemmas.List.{append-nil, reverse-append}
use Rattle.c_lang.specs.declared.tree.Function.{Function}
use Rattle.c_read.specs.Combined.{Each}

abbrev IsSmall : Function → Type 0
IsSmall f = f.temps < 2 ^ 16

-- those that are left, and those that are taken
pub record Popped (all left taken : List Function) : Type 0 where
  pub whole : all ≡ left ++ reverse taken
  pub small : Each IsSmall left

each_left : (xs ys : List Function) → Each IsSmall (xs ++ ys) → Each IsSmall xs
each_left [] ys h = tt
each_left (x ∷ xs) ys h = (h.0, each_left xs ys h.1)

each_last : (xs : List Function) (y : Function) → Each IsSmall (xs ++ y ∷ []) → IsSmall y
each_last [] y h = h.0
each_last (x ∷ xs) y h = each_last xs y h.1

pub popped_none : (all : List Function) → Each IsSmall all → Popped all all []
popped_none all h = record { whole = sym (append-nil all); small = h }

pub last_small : (all left rest taken : List Function) (f : Function) → Popped all left taken → left ≡ rest ++ f ∷ [] → f.temps < 2 ^ 16
last_small all left rest taken f p e = each_last rest f (subst (Each IsSmall) e p.small)

pub popped_more : (all left rest taken new : List Function) (f : Function) → Popped all left taken → left ≡ rest ++ f ∷ [] → new ≡ taken ++ f ∷ [] → Popped all rest new
popped_more all left rest taken new f p e n = record {
  whole = p.whole ∙ ap (λ l. l ++ reverse taken) e ∙ append_assoc rest (f ∷ []) (reverse taken) ∙ ap (λ l. rest ++ l) (sym (ap reverse n ∙ reverse-append taken (f ∷ [])));
  small = each_left rest (f ∷ []) (subst (Each IsSmall) e p.small);
}

pub less_left : (left rest : List Function) (f : Function) → left ≡ rest ++ f ∷ [] → length rest < length left
less_left left rest f e = omega (arith, ap length e, length-append rest (f ∷ []))

pub popped_all : (all left taken : List Function) → Popped all left taken → left ≡ [] → reverse taken ≡ all
popped_all all left taken p e = sym (p.whole ∙ ap (λ l. l ++ reverse taken) e)
