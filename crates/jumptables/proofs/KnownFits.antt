-- A known value fits its width.
use Rattle.std.proofs.Common.{◌≡◌, ℕ, ◌^◌, ◌<◌, Bool, true, false, List, Option, None, Result, Ok, Err, subst}
use Rattle.std.specs.Prelude.{if◌then◌else◌}
use Rattle.std.specs.Option.{IfSome}
use Rattle.rtl_core.specs.declared.frozen.Frozen.{Frozen}
use Rattle.rtl_core.specs.declared.machine.Machine.{Machine}
use Rattle.rtl_core.specs.declared.stop.Trap.{Trap}
use Rattle.rtl_core.specs.SoundTerms.{AreWidths, Fit, IsSoundTerm}
use Rattle.rtl_core.specs.Terms.{Term, width_of}
use Rattle.rtl_core.specs.Value.{value_of}
use Rattle.rtl_core.proofs.Fits.{FitsIn, value_fits}
use Rattle.points.specs.PartialRuns.{frozen_contents, is_known, value_or_none, known_value}

some_fits : (w : ℕ) (r : Result ℕ Trap) → FitsIn w r → IfSome (value_or_none r) (λ v. v < 2 ^ w)
some_fits w (Ok v) h = h
some_fits w (Err t) h = tt

if_known : (w : ℕ) (b : Bool) (o : Option ℕ) → IfSome o (λ v. v < 2 ^ w) → IfSome (if b then o else None) (λ v. v < 2 ^ w)
if_known w true o h = h
if_known w false o h = tt

pub known-fits : (m : Machine) (f : Frozen) (values : List ℕ) (known : List Bool) (t : Term) → AreWidths m.widths → Fit m values → IsSoundTerm m.widths t → IfSome (known_value m f values known t) (λ v. v < 2 ^ width_of m.widths t)
known-fits m f values known t widths fit sound =
    let w = width_of m.widths t in
    let r = value_of m values (frozen_contents f) t in
    if_known w (is_known known t) (value_or_none r) (some_fits w r (value_fits m widths values fit (frozen_contents f) t sound))

pub fits-at : (w v : ℕ) (o : Option ℕ) → v ≡ w → IfSome o (λ x. x < 2 ^ v) → IfSome o (λ x. x < 2 ^ w)
fits-at w v o e h = subst (λ k. IfSome o (λ x. x < 2 ^ k)) e h
