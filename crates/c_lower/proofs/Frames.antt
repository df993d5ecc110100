-- Variables that are kept, and the cells that they show.
use Rattle.std.proofs.Common.{◌≡◌, ◌≢◌, ℕ, ◌<◌, ◌≤◌, ◌==◌, ◌||◌, Bool, true, false, if◌then◌else◌, Option, Some, None, List, refl, sym, ap, ◌∙◌, arith}
use Rattle.std.specs.Prelude.{slice_index}
use Rattle.std.proofs.lemmas.Bool.{eq-eqb, ne_eqb, eqb-true}
use Rattle.rtl_core.specs.declared.machine.Machine.{Machine}
use Rattle.rtl_core.specs.SoundTerms.{Fit}
use Rattle.c_lang.specs.declared.tree.Var.{Var}
use Rattle.c_lang.specs.declared.tree.Var.TheVariants.{Ra, Pt, Cell, Temp, Result, Wn, Depth, ServeR, ServeE}
use Rattle.c_lang.specs.declared.tree.CExpr.TheVariants.{Num, Of}
use Rattle.c_lang.specs.Value.{Vars}
use Rattle.c_lang.specs.State.{with_var}
use Rattle.c_lang.proofs.ValueLaws.{value-Num, value-Of}
use Rattle.c_lower.specs.Cells.{cell_c}
use Rattle.c_lower.specs.Code.{temp}
use Rattle.c_lower.specs.Naming.{is_nameable}
use Rattle.c_lower.proofs.Operators.{Is}
use Rattle.c_lower.proofs.Steps.{Mid, sees}

-- every variable but the temporaries from k on
abbrev pub Below : ℕ → Var → Type 0
Below k (Temp i) = i < k
Below k _ = Unit {0}

-- every variable but the temporaries from k on is as it was
pub record Kept (k : ℕ) (old new : Vars) : Type 0 where
  pub same : (v : Var) → Below k v → new v ≡ old v

-- the variables of the named cells hold the cells' values
pub record ShowsCells (named : ℕ → Bool) (cells : List ℕ) (vars : Vars) : Type 0 where
  pub reads : (c : ℕ) → named c ≡ true → vars (Cell c) ≡ Some (slice_index cells c)

below_more : (j k : ℕ) (v : Var) → j ≤ k → Below j v → Below k v
below_more j k (Temp i) le h = omega arith
below_more j k Ra le h = tt
below_more j k Pt le h = tt
below_more j k (Cell c) le h = tt
below_more j k (Result c) le h = tt
below_more j k Wn le h = tt
below_more j k Depth le h = tt
below_more j k ServeR le h = tt
below_more j k ServeE le h = tt

pub kept_on : (j k : ℕ) (a b c : Vars) → j ≤ k → Kept j a b → Kept k b c → Kept j a c
kept_on j k a b c le h g = record { same = λ v d. g.same v (below_more j k v le d) ∙ h.same v d }

set_below : (k n : ℕ) (vars : Vars) (v : Var) → Below k v → with_var vars (Temp k) n v ≡ vars v
set_below k n vars (Temp i) h =
    let ne : k ≢ i = omega arith in ap (λ t. if t then Some n else vars (Temp i)) (ne_eqb k i ne)
set_below k n vars Ra h = refl
set_below k n vars Pt h = refl
set_below k n vars (Cell c) h = refl
set_below k n vars (Result c) h = refl
set_below k n vars Wn h = refl
set_below k n vars Depth h = refl
set_below k n vars ServeR h = refl
set_below k n vars ServeE h = refl

pub kept_set : (k n : ℕ) (vars : Vars) → Kept k vars (with_var vars (Temp k) n)
kept_set k n vars = record { same = set_below k n vars }

pub just_set : (k n : ℕ) (vars : Vars) → with_var vars (Temp k) n (Temp k) ≡ Some n
just_set k n vars = ap (λ t. if t then Some n else vars (Temp k)) (eq-eqb k k refl)

pub shows_kept : (named : ℕ → Bool) (cells : List ℕ) (k : ℕ) (old new : Vars) → Kept k old new
    → ShowsCells named cells old → ShowsCells named cells new
shows_kept named cells k old new h s = record { reads = λ c n. h.same (Cell c) tt ∙ s.reads c n }

pub temp_is : (k x : ℕ) (mid : Mid) → mid.vars (Temp k) ≡ Some x → Is (sees mid) (temp k) x
temp_is k x mid h = record { is = value-Of (sees mid) (Temp k) ∙ h }

pub named_is : (named : ℕ → Bool) (cells : List ℕ) (c : ℕ) (mid : Mid) → named c ≡ true
    → ShowsCells named cells mid.vars → Is (sees mid) (Of (Cell c)) (slice_index cells c)
named_is named cells c mid n s = record { is = value-Of (sees mid) (Cell c) ∙ s.reads c n }

module _ (m : Machine) (named : ℕ → Bool) (cells : List ℕ) (fit : Fit m cells) (mid : Mid)
    (shows : ShowsCells named cells mid.vars) where
  cell_by : (zero_cell : Option ℕ) (c : ℕ) → m.zero ≡ zero_cell → is_nameable zero_cell named c ≡ true
      → Is (sees mid) (cell_c zero_cell c) (slice_index cells c)
  cell_by None c e n = named_is named cells c mid n shows
  cell_by (Some z) c e n = by (c == z) refl n
    where
      by : (t : Bool) → (c == z) ≡ t → (t || named c) ≡ true
          → Is (sees mid) (if t then Num 0 else Of (Cell c)) (slice_index cells c)
      by true same n =
          record { is = value-Num (sees mid) 0 ∙ ap Some (sym (fit.zeroed c (e ∙ ap Some (sym (eqb-true c z same))))) }
      by false same n = named_is named cells c mid n shows

  -- a cell that may be named reads as its value
  pub cell_is : (c : ℕ) → is_nameable m.zero named c ≡ true → Is (sees mid) (cell_c m.zero c) (slice_index cells c)
  cell_is c n = cell_by m.zero c refl n
