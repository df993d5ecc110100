-- At the start of a partial run the values fit the cells.
use Rattle.std.proofs.Common.{◌≡◌, ◌≢◌, ℕ, inl, inr, ◌<◌, ◌≤◌, ◌^◌, Bool, true, false, List, length, replicate, get_or, Option, None, Some, sym, ◌∙◌, ap, subst, arith}
use Rattle.std.specs.Prelude.{slice_index, ◌⊎◌}
use Rattle.std.proofs.lemmas.List.{get_or-replicate, length-replicate, length-set, get_or_past}
use Rattle.std.proofs.lemmas.Nat.{pow_pos}
use Rattle.std.proofs.lemmas.Bool.{cases_lt}
use Rattle.rtl_core.specs.declared.machine.Machine.{Machine}
use Rattle.rtl_core.specs.SoundTerms.{Fit}
use Rattle.rtl_core.proofs.FitCells.{fit-set}
use Rattle.points.specs.Machine.{Setting}
use Rattle.points.specs.PartialRuns.{knowing_only, with_zero_known}
use Rattle.jumptables.specs.Mentions.{knowing_zero}
use Rattle.jumptables.specs.Runs.{IsWhole}

zero-at : (n c : ℕ) → (c < n) ⊎ (n ≤ c) → ◌≡◌ {A = ℕ} (get_or (replicate n 0) c 0) 0
zero-at n c (inl lt) = get_or-replicate n c 0 0 lt
zero-at n c (inr le) = get_or_past (replicate n 0) c 0 (let e = length-replicate {A = ℕ} n 0 in omega (arith, e))

zeros-fit : (m : Machine) → Fit m (replicate (length m.widths) 0)
zeros-fit m = record {
  count = length-replicate (length m.widths) 0;
  each = λ c lt. subst (λ v. v < 2 ^ slice_index m.widths c) (sym (get_or-replicate (length m.widths) c 0 0 lt)) (pow_pos (slice_index m.widths c));
  zeroed = λ c is. zero-at (length m.widths) c (cases_lt c (length m.widths));
}

flags-with_zero : (z : Option ℕ) (known : List Bool) (n : ℕ) → length known ≡ n → length (with_zero_known z known) ≡ n
flags-with_zero None known n e = e
flags-with_zero (Some z) known n e = length-set known z true ∙ e

pub starts-whole : (s : Setting) (c x : ℕ) → c < length s.machine.widths → s.machine.zero ≢ Some c → x < 2 ^ slice_index s.machine.widths c → IsWhole s.machine (knowing_only s c x)
starts-whole s c x lt ne small =
    let n = length s.machine.widths in
    record {
      fit = fit-set s.machine (replicate n 0) c x lt small (λ z is same. ne (is ∙ ap Some (sym same))) (zeros-fit s.machine);
      flags = length-set (with_zero_known s.machine.zero (replicate n false)) c true ∙ flags-with_zero s.machine.zero (replicate n false) n (length-replicate n false);
    }

pub idle-whole : (s : Setting) → IsWhole s.machine (knowing_zero s)
idle-whole s =
    let n = length s.machine.widths in
    record { fit = zeros-fit s.machine; flags = flags-with_zero s.machine.zero (replicate n false) n (length-replicate n false) }
