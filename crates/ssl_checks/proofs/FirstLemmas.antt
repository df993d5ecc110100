-- One thing more, where the first that differs is looked for.
use Rattle.std.proofs.Common.{◌≡◌, ℕ, ◌+◌, ◌<◌, List, [], ◌∷◌, length, get_or, drop, Option, Some, None, refl, sym, ap, ◌∙◌}
use Rattle.std.proofs.lemmas.List.{drop_more}
use Rattle.std.specs.Option.{option_or}
use Rattle.ssl_rules.specs.declared.widths.Mismatch.{Mismatch}
use Rattle.ssl_rules.specs.Widths.{first_differing}
use Rattle.ssl_checks.proofs.ArgumentLemmas.{or_assoc}

-- where k things are read: what is left, against what the whole comes to
pub record IsFirst {A : Type 0} (differs : A → Option Mismatch) (xs : List A) (k : ℕ) (found : Option Mismatch) : Type 0 where
  pub whole : option_or found (first_differing differs (drop k xs)) ≡ first_differing differs xs

pub IsFirst-more : {A : Type 0} (differs : A → Option Mismatch) (xs : List A) (k : ℕ) (found : Option Mismatch) (x : A) → k < length xs → x ≡ get_or xs k x
    → IsFirst differs xs k found → IsFirst differs xs (k + 1) (option_or found (differs x))
IsFirst-more differs xs k found x h is f =
    let d : drop k xs ≡ x ∷ drop (k + 1) xs = drop_more xs k x h ∙ ap (λ y. y ∷ drop (k + 1) xs) (sym is) in
    record { whole = or_assoc found (differs x) (first_differing differs (drop (k + 1) xs)) ∙ ap (λ l. option_or found (first_differing differs l)) (sym d) ∙ f.whole }
