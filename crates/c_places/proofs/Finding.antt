-- Functions and blocks by number.
use Rattle.std.proofs.Common.{◌≡◌, ℕ, zero, suc, ◌+◌, ◌<◌, ◌≤◌, Some, None, List, [], ◌∷◌, length, drop, get_or, refl, sym, ap, ◌∙◌, drop-cons, arith}
use Rattle.std.specs.Prelude.{if◌then◌else◌, slice_get, option_map}
use Rattle.std.proofs.lemmas.Option.{slice_get_read, slice_get_past}
use Rattle.std.proofs.lemmas.Bool.{eq-eqb}
use Rattle.c_lang.specs.declared.tree.Function.{Function}
use Rattle.c_lang.specs.Step.{Found, function_from}
use Rattle.c_places.specs.Rest.{found}

none_left : (fs : List Function) (i j entry : ℕ) → length fs ≤ i → function_from j (drop i fs) entry ≡ None
none_left [] zero j entry h = refl
none_left [] (suc i) j entry h = refl
none_left (f ∷ fs) zero j entry h = absurd (omega arith)
none_left (f ∷ fs) (suc i) j entry h = none_left fs i j entry (omega arith)

-- no function has the address
pub found_nowhere : (fs : List Function) (i entry : ℕ) → length fs ≤ i → function_from i (drop i fs) entry ≡ function_from 0 fs entry
    → found fs (length fs) ≡ function_from 0 fs entry
found_nowhere fs i entry h same =
    ap (option_map (numbered (length fs))) (slice_get_past fs (length fs) (omega arith)) ∙ sym (none_left fs i i entry h) ∙ same
  where
    numbered : ℕ → Function → Found
    numbered k f = record { index = k; function = f }

-- the function at a place has the address, and none before it
pub found_here : (fs : List Function) (i entry : ℕ) (f : Function) → i < length fs → f ≡ get_or fs i f → f.entry ≡ entry
    → function_from i (drop i fs) entry ≡ function_from 0 fs entry → found fs i ≡ function_from 0 fs entry
found_here fs i entry f lt is named same =
    let at : slice_get fs i ≡ Some f = slice_get_read fs (length fs) i f refl lt is in
    let left : drop i fs ≡ f ∷ drop (suc i) fs = drop-cons fs i f lt ∙ ap (λ x. x ∷ drop (suc i) fs) (sym is) in
    let first : function_from i (f ∷ drop (suc i) fs) entry ≡ Some (numbered i f) =
    ap (λ b. if b then Some (numbered i f) else function_from (i + 1) (drop (suc i) fs) entry) (eq-eqb f.entry entry named) in
    ap (option_map (numbered i)) at ∙ sym first ∙ ap (λ xs. function_from i xs entry) (sym left) ∙ same
  where
    numbered : ℕ → Function → Found
    numbered k f = record { index = k; function = f }
