-- One cell more.
use Rattle.std.proofs.Common.{◌≡◌, ℕ, zero, suc, ◌+◌, ◌-◌, List, [], ◌∷◌, ◌++◌, refl, sym, ap, ◌∙◌, arith, replicate, add-one}
use Rattle.rtl_core.specs.declared.machine.CellPart.{CellPart}
use Rattle.ssl_rules.specs.TableGrowth.{whole_cells}

-- the next of several whole cells
pub whole_cells-next : (first w n : ℕ) → whole_cells first w (suc n) ≡ whole_cells first w n ++ record { cell = first + n; lo = 0; hi = w - 1 } ∷ []
whole_cells-next first w zero =
    let part : ℕ → List CellPart = λ c. record { cell = c; lo = 0; hi = w - 1 } ∷ [] in
    let e : first ≡ first + 0 = omega arith in
    ap part e
whole_cells-next first w (suc n) =
    let rest : ℕ → List CellPart = λ c. record { cell = first; lo = 0; hi = w - 1 } ∷ (whole_cells (first + 1) w n ++ record { cell = c; lo = 0; hi = w - 1 } ∷ []) in
    let e : first + 1 + n ≡ first + suc n = omega arith in
    ap (λ l. record { cell = first; lo = 0; hi = w - 1 } ∷ l) (whole_cells-next (first + 1) w n) ∙ ap rest e

-- one copy more
pub replicate-next : (n w : ℕ) → replicate (suc n) w ≡ replicate n w ++ w ∷ []
replicate-next zero w = refl
replicate-next (suc n) w = ap (λ l. w ∷ l) (replicate-next n w)

pub whole_cells-more : (first w n : ℕ) → whole_cells first w n ++ record { cell = first + n; lo = 0; hi = w - 1 } ∷ [] ≡ whole_cells first w (n + 1)
whole_cells-more first w n = rw add-one (sym (whole_cells-next first w n))

pub replicate-more : (n w : ℕ) → replicate n w ++ w ∷ [] ≡ replicate (n + 1) w
replicate-more n w = rw add-one (sym (replicate-next n w))
