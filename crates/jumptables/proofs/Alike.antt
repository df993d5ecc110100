-- Values of a term over cells that agree where the term looks.
use Rattle.std.proofs.Common.{◌≡◌, ℕ, Bool, false, List, get_or, Ok, refl, ap}
use Rattle.rtl_core.specs.declared.frozen.Frozen.{Frozen}
use Rattle.rtl_core.specs.declared.machine.Machine.{Machine}
use Rattle.rtl_core.specs.Contents.{Contents}
use Rattle.rtl_core.specs.Terms.{Term, Const, Cell, Load, Unary, Binary, Slice, Zext, Sext, Choice}
use Rattle.rtl_core.specs.Value.{value_of}
use Rattle.points.specs.PartialRuns.{frozen_contents, is_known, known_value}

-- each cell that a term mentions has the same value and the same flag on both sides
abbrev pub AreAlike : (values others : List ℕ) (known also : List Bool) → Term → Type 0
AreAlike vs os ks ls (Const w n) = Unit {0}
AreAlike vs os ks ls (Cell c) = (get_or vs c 0 ≡ get_or os c 0) × (get_or ks c false ≡ get_or ls c false)
AreAlike vs os ks ls (Load b a) = AreAlike vs os ks ls a
AreAlike vs os ks ls (Unary op a) = AreAlike vs os ks ls a
AreAlike vs os ks ls (Binary op a b) = AreAlike vs os ks ls a × AreAlike vs os ks ls b
AreAlike vs os ks ls (Slice a lo hi) = AreAlike vs os ks ls a
AreAlike vs os ks ls (Zext w a) = AreAlike vs os ks ls a
AreAlike vs os ks ls (Sext w a) = AreAlike vs os ks ls a
AreAlike vs os ks ls (Choice c a b) = AreAlike vs os ks ls c × AreAlike vs os ks ls a × AreAlike vs os ks ls b

module _ (vs os : List ℕ) (ks ls : List Bool) where
  known-alike : (t : Term) → AreAlike vs os ks ls t → is_known ks t ≡ is_known ls t
  known-alike (Const w n) h = refl
  known-alike (Cell c) h = h.1
  known-alike (Load b a) h = known-alike a h
  known-alike (Unary op a) h = known-alike a h
  known-alike (Binary op a b) h = let x = known-alike a h.0 in let y = known-alike b h.1 in cc
  known-alike (Slice a lo hi) h = known-alike a h
  known-alike (Zext w a) h = known-alike a h
  known-alike (Sext w a) h = known-alike a h
  known-alike (Choice c a b) h = let x = known-alike c h.0 in let y = known-alike a h.1 in let z = known-alike b h.2 in cc

  value-alike : (m : Machine) (mem : Contents) (t : Term) → AreAlike vs os ks ls t → value_of m vs mem t ≡ value_of m os mem t
  value-alike m mem (Const w n) h = refl
  value-alike m mem (Cell c) h = ap Ok h.0
  value-alike m mem (Load b a) h = rw (value-alike m mem a h) refl
  value-alike m mem (Unary op a) h = rw (value-alike m mem a h) refl
  value-alike m mem (Binary op a b) h = rw (value-alike m mem a h.0, value-alike m mem b h.1) refl
  value-alike m mem (Slice a lo hi) h = rw (value-alike m mem a h) refl
  value-alike m mem (Zext w a) h = value-alike m mem a h
  value-alike m mem (Sext w a) h = rw (value-alike m mem a h) refl
  value-alike m mem (Choice c a b) h = simp (value-alike m mem c h.0, value-alike m mem a h.1, value-alike m mem b h.2)

  pub same-value : (m : Machine) (f : Frozen) (t : Term) → AreAlike vs os ks ls t → known_value m f vs ks t ≡ known_value m f os ls t
  same-value m f t h = rw (known-alike t h, value-alike m (frozen_contents f) t h) refl
