-- Constructors by their names.
use Rattle.std.proofs.Common.{◌≡◌, ℕ, ◌+◌, ◌<◌, ◌≤◌, cond, List, [], ◌∷◌, length, get_or, drop, Some, nat_eq, refl, sym, ap, subst, ◌∙◌}
use Rattle.std.specs.List.{position_from}
use Rattle.std.specs.Cmp.Lexicographic.{pointwise}
use Rattle.std.proofs.Math.ListN.{drop_of_length-le}
use Rattle.std.proofs.lemmas.List.{drop_more}
use Rattle.std.proofs.lemmas.Iterator.Adapters.{position_from-zero}
use Rattle.rtl_core.specs.declared.encodings.Coded.{Coded}
use Rattle.rtl_core.specs.declared.encodings.Encodings.{Encodings}
use Rattle.ssl_rules.specs.Lookup.{named}
use Rattle.ssl_core.specs.Kept.{with_new, kept}
use Rattle.ssl_core.specs.Numbers.{numbered, AreNumbered}
use Rattle.ssl_core.proofs.KeptLemmas.{kept-found}

numbered-found : (c : ℕ) (ks : List Coded) (name : List ℕ) → named (numbered c ks) name ≡ position_from (λ k. pointwise nat_eq name k.name) c ks
numbered-found c [] name = refl
numbered-found c (k ∷ ks) name = ap (cond (pointwise nat_eq name k.name) (Some c)) (numbered-found (c + 1) ks name)

-- the names of i constructors, of which the first of each name counts
pub record IsNamedTo (ks : List Coded) (i : ℕ) (numbers : List (List ℕ × ℕ)) : Type 0 where
  pub rest : kept numbers (numbered i (drop i ks)) ≡ kept [] (numbered 0 ks)

pub named_none : (ks : List Coded) → IsNamedTo ks 0 []
named_none ks = record { rest = refl }

pub named_more : (ks : List Coded) (i : ℕ) (numbers next : List (List ℕ × ℕ)) (k : Coded) (name : List ℕ) → i < length ks → k ≡ get_or ks i k → name ≡ k.name
    → IsNamedTo ks i numbers → next ≡ with_new numbers name i → IsNamedTo ks (i + 1) next
named_more ks i numbers next k name h is n inv e =
    let d : drop i ks ≡ k ∷ drop (i + 1) ks = drop_more ks i k h ∙ ap (λ y. y ∷ drop (i + 1) ks) (sym is) in
    record {
      rest = ap (λ t. kept t (numbered (i + 1) (drop (i + 1) ks))) (e ∙ ap (λ n. with_new numbers n i) n) ∙ ap (λ l. kept numbers (numbered i l)) (sym d) ∙ inv.rest;
    }

pub named_all : (enc : Encodings) (i : ℕ) (numbers : List (List ℕ × ℕ)) → length enc.constructors ≤ i → IsNamedTo enc.constructors i numbers → AreNumbered numbers enc
named_all enc i numbers h inv =
    let whole : numbers ≡ kept [] (numbered 0 enc.constructors) =
    ap (λ l. kept numbers (numbered i l)) (sym (drop_of_length-le enc.constructors h)) ∙ inv.rest in
    record {
      found = λ name. ap (λ t. named t name) whole ∙ kept-found [] (numbered 0 enc.constructors) name ∙ numbered-found 0 enc.constructors name
          ∙ sym (position_from-zero (λ k. pointwise nat_eq name k.name) enc.constructors);
    }

pub named_items : (enc : Encodings) (items : List Coded) (i : ℕ) (numbers : List (List ℕ × ℕ)) → items ≡ enc.constructors → length items ≤ i → IsNamedTo enc.constructors i numbers → AreNumbered numbers enc
named_items enc items i numbers e h inv = let past : length enc.constructors ≤ i = subst (λ ks. length ks ≤ i) e h in named_all enc i numbers past inv
