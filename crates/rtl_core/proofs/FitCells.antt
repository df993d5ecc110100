-- Cells still fit their machine when a value of its width is put into one of them.
use Rattle.std.proofs.Common.{◌≡◌, ◌≢◌, ℕ, ◌^◌, ◌<◌, Bool, true, false, List, length, Option, Some, None, refl, sym, ap, ◌∙◌, ⊎_elim, arith, nat_eq}
use Rattle.std.specs.Prelude.{slice_set, slice_index, if◌then◌else◌}
use Rattle.std.proofs.lemmas.List.{get_or-set_other, get_or-set_same, length-set}
use Rattle.std.proofs.lemmas.Bool.{cases_eq, eqb-false}
use Rattle.rtl_core.specs.declared.machine.Machine.{Machine}
use Rattle.rtl_core.specs.SoundTerms.{Fit}
use Rattle.rtl_core.specs.Transfers.{put_cell}

-- a cell that is not the zero cell
pub fit-set : (m : Machine) (cells : List ℕ) (c v : ℕ) → c < length m.widths → v < 2 ^ slice_index m.widths c → ((z : ℕ) → m.zero ≡ Some z → c ≢ z) → Fit m cells → Fit m (slice_set cells c v)
fit-set m cells c v h small ne fit = record {
  count = length-set cells c v ∙ fit.count;
  each = λ d below. let within : c < length cells = omega (arith, fit.count) in ⊎_elim
      (λ same. let e : slice_index (slice_set cells c v) d ≡ v = ap (λ k. slice_index (slice_set cells c v) k) same ∙ get_or-set_same cells c v 0 within in rw (e, same) small)
      (λ other. rw (get_or-set_other cells c d v 0 other) (fit.each d below))
      (cases_eq d c);
  zeroed = λ z e. let other : z ≢ c = λ w. ne z e (sym w) in get_or-set_other cells c z v 0 other ∙ fit.zeroed z e;
}

-- any cell; the zero cell stays
pub fit-put : (m : Machine) (cells : List ℕ) (c v : ℕ) → c < length m.widths → v < 2 ^ slice_index m.widths c → Fit m cells → Fit m (put_cell m.zero c v cells)
fit-put m cells c v h small fit = by m.zero refl
  where
    at : (z : ℕ) → m.zero ≡ Some z → (b : Bool) → nat_eq c z ≡ b → Fit m (if b then cells else slice_set cells c v)
    at z e true q = fit
    at z e false q = fit-set m cells c v h small (λ y f. let same : z ≡ y = cc in λ w. eqb-false c z q (w ∙ sym same)) fit

    by : (o : Option ℕ) → m.zero ≡ o → Fit m (put_cell o c v cells)
    by None e = fit-set m cells c v h small (λ y f. cc) fit
    by (Some z) e = at z e (nat_eq c z) refl
