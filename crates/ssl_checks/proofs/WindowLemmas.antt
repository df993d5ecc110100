-- One window cell more.
use Rattle.std.proofs.Common.{◌≡◌, ℕ, zero, suc, ◌+◌, ◌-◌, ◌<◌, List, [], ◌∷◌, Option, Some, None, refl, sym, ap, ◌∙◌, arith}
use Rattle.std.specs.Option.{option_or}
use Rattle.ssl_rules.specs.declared.tables.Tables.{Tables}
use Rattle.ssl_rules.specs.declared.widths.Mismatch.{Mismatch}
use Rattle.ssl_rules.specs.Widths.{asked, cell_width}
use Rattle.ssl_rules.specs.Windows.{group_differs}
use Rattle.ssl_checks.proofs.ArgumentLemmas.{or_assoc}

-- where k of n cells are read: what is left, against what the whole comes to
abbrev pub IsRead : Tables → ℕ → ℕ → ℕ → Option Mismatch → Type 0
IsRead t first n k differs = option_or differs (group_differs t (first + k) (n - k)) ≡ group_differs t first n

pub group-step : (t : Tables) (first n k : ℕ) → k < n
    → group_differs t (first + k) (n - k) ≡ option_or (asked 32 (Some (cell_width t (first + k)))) (group_differs t (first + (k + 1)) (n - (k + 1)))
group-step t first n k h =
    let e : n - k ≡ suc (n - (k + 1)) = omega arith in
    let f : first + k + 1 ≡ first + (k + 1) = omega arith in
    ap (λ m. group_differs t (first + k) m) e ∙ ap (λ c. option_or (asked 32 (Some (cell_width t (first + k)))) (group_differs t c (n - (k + 1)))) f

pub IsRead-more : (t : Tables) (first n k : ℕ) (differs : Option Mismatch) → k < n → IsRead t first n k differs
    → IsRead t first n (k + 1) (option_or differs (asked 32 (Some (cell_width t (first + k)))))
IsRead-more t first n k differs h r =
    or_assoc differs (asked 32 (Some (cell_width t (first + k)))) (group_differs t (first + (k + 1)) (n - (k + 1)))
    ∙ ap (λ o. option_or differs o) (sym (group-step t first n k h)) ∙ r
