-- A constant term has the same value over all cells and memories, and there is one.
use Rattle.std.proofs.Common.{◌≡◌, ℕ, zero, suc, ◌^◌, ◌<◌, ◌==◌, Bool, true, false, true≢false, List, [], length, Some, None, Result, Ok, Err, refl, sym, ap, ◌∙◌, subst}
use Rattle.std.specs.Prelude.{◌&&◌, not, if◌then◌else◌, replicate, slice_index}
use Rattle.std.proofs.lemmas.Bool.{and_parts, not-true}
use Rattle.std.proofs.lemmas.List.{length-replicate}
use Rattle.std.proofs.lemmas.Nat.{pow_pos}
use Rattle.std.proofs.lemmas.Option.{same_Some}
use Rattle.rtl_core.specs.declared.machine.Machine.{Machine}
use Rattle.rtl_core.specs.declared.stop.Trap.{Trap}
use Rattle.rtl_core.specs.Arithmetic.{binary, unary, is_division, bits_of, sign_extended}
use Rattle.rtl_core.specs.Contents.{Contents}
use Rattle.rtl_core.specs.SoundTerms.{AreWidths, Fit, IsSoundTerm}
use Rattle.rtl_core.specs.Terms.{Term, Const, Cell, Load, Unary, Binary, Slice, Zext, Sext, Choice, term_of, width_of}
use Rattle.rtl_core.specs.Value.{and_then, choice, value_of}
use Rattle.rtl_core.proofs.Fits.{FitsIn, value_fits}
use Rattle.points.specs.ConstantTargets.{ConstantsHaveValues, TargetsAreValues, TargetsAreAddresses}
use Rattle.points.specs.Kinds.{is_constant, constant_value, value_or_zero}

-- both are the same value
abbrev pub Both : Result ℕ Trap → Result ℕ Trap → Type 0
Both x y = (v : ℕ) × (x ≡ Ok v) × (y ≡ Ok v)

both-then : (x y : Result ℕ Trap) (f g : ℕ → Result ℕ Trap) → Both x y → ((v : ℕ) → Both (f v) (g v)) → Both (and_then x f) (and_then y g)
both-then x y f g h k = let r = k h.0 in (r.0, ap (λ o. and_then o f) h.1 ∙ r.1, ap (λ o. and_then o g) h.2 ∙ r.2)

abbrev ended : Bool → ℕ → Result ℕ Trap
ended trap v = if trap then Err Trap.Divide else Ok v

both-ended : (d e : Bool) (v : ℕ) → d ≡ false → Both (ended (d && e) v) (ended (d && e) v)
both-ended true e v h = absurd (true≢false h)
both-ended false e v h = (v, refl, refl)

module _ (m : Machine) (cells : List ℕ) (mem : Contents) where
  abbrev here : Term → Result ℕ Trap
  here t = value_of m cells mem t

  abbrev bare : Term → Result ℕ Trap
  bare t = value_of m [] (λ a. None) t

  pub constant-both : (t : Term) → is_constant t ≡ true → Both (here t) (bare t)
  constant-both (Const w n) h = (n, refl, refl)
  constant-both (Cell c) h = absurd (true≢false (sym h))
  constant-both (Load b a) h = absurd (true≢false (sym h))
  constant-both (Unary op a) h =
      let f : ℕ → Result ℕ Trap = λ x. Ok (unary op (width_of m.widths a) x) in
      both-then (here a) (bare a) f f (constant-both a h) (λ v. (unary op (width_of m.widths a) v, refl, refl))
  constant-both (Binary op a b) h =
      let p = and_parts (not (is_division op)) (is_constant a && is_constant b) h in
      let q = and_parts (is_constant a) (is_constant b) p.1 in
      let last : ℕ → ℕ → Result ℕ Trap = λ x y. ended (is_division op && (y == 0)) (binary op (width_of m.widths a) x y) in
      both-then (here a) (bare a) (λ x. and_then (here b) (last x)) (λ x. and_then (bare b) (last x)) (constant-both a q.0)
      (λ x. both-then (here b) (bare b) (last x) (last x) (constant-both b q.1)
      (λ y. both-ended (is_division op) (y == 0) (binary op (width_of m.widths a) x y) (not-true (is_division op) p.0)))
  constant-both (Slice a lo hi) h =
      let f : ℕ → Result ℕ Trap = λ x. Ok (bits_of lo hi x) in
      both-then (here a) (bare a) f f (constant-both a h) (λ v. (bits_of lo hi v, refl, refl))
  constant-both (Zext w a) h = constant-both a h
  constant-both (Sext w a) h =
      let f : ℕ → Result ℕ Trap = λ x. Ok (sign_extended (width_of m.widths a) w x) in
      both-then (here a) (bare a) f f (constant-both a h) (λ v. (sign_extended (width_of m.widths a) w v, refl, refl))
  constant-both (Choice c a b) h =
      let p = and_parts (is_constant c) (is_constant a && is_constant b) h in
      let q = and_parts (is_constant a) (is_constant b) p.1 in
      let last : ℕ → ℕ → ℕ → Result ℕ Trap = λ n x y. Ok (choice n x y) in
      both-then (here c) (bare c) (λ n. and_then (here a) (λ x. and_then (here b) (last n x))) (λ n. and_then (bare a) (λ x. and_then (bare b) (last n x))) (constant-both c p.0)
      (λ n. both-then (here a) (bare a) (λ x. and_then (here b) (last n x)) (λ x. and_then (bare b) (last n x)) (constant-both a q.0)
      (λ x. both-then (here b) (bare b) (last n x) (last n x) (constant-both b q.1) (λ y. (choice n x y, refl, refl))))

  -- the value of a constant term
  pub constant-is : (t : Term) → is_constant t ≡ true → value_of m cells mem t ≡ Ok (constant_value m t)
  constant-is t h = let r = constant-both t h in r.1 ∙ sym (ap (λ o. Ok (value_or_zero o)) r.2)

  -- so it is no trap, and what a value of it is
  pub constant-ok : (t : Term) (r : Result ℕ Trap) (v : ℕ) → is_constant t ≡ true → r ≡ here t → r ≡ Ok v → v ≡ constant_value m t
  constant-ok t r v h e is = ap value_or_zero (sym is ∙ e ∙ constant-is t h)

  pub constant-err : (t : Term) (r : Result ℕ Trap) (trap : Trap) → is_constant t ≡ true → r ≡ here t → r ≡ Err trap → ⊥
  constant-err t r trap h e is = true≢false (ap went (sym (constant-is t h) ∙ sym e ∙ is))
    where
      went : Result ℕ Trap → Bool
      went (Ok v) = true
      went (Err stop) = false

-- ---- cells that are all 0

zero-at : (n c : ℕ) → slice_index (replicate n 0) c ≡ 0
zero-at zero zero = refl
zero-at zero (suc c) = refl
zero-at (suc n) zero = refl
zero-at (suc n) (suc c) = zero-at n c

abbrev pub zeros : Machine → List ℕ
zeros m = replicate (length m.widths) 0

pub zeros-fit : (m : Machine) → Fit m (zeros m)
zeros-fit m = record {
  count = length-replicate (length m.widths) 0;
  each = λ c h. let P : ℕ → Type 0 = λ v. v < 2 ^ slice_index m.widths c in subst P (sym (zero-at (length m.widths) c)) (pow_pos (slice_index m.widths c));
  zeroed = λ c h. zero-at (length m.widths) c;
}

-- a constant term of 32 bits is an address
pub constant-small : (m : Machine) (t : Term) → AreWidths m.widths → IsSoundTerm m.widths t → width_of m.widths t ≡ 32 → is_constant t ≡ true → constant_value m t < 2 ^ 32
constant-small m t widths ok width h =
    let none : Contents = λ a. None in
    let fits : FitsIn (width_of m.widths t) (Ok (constant_value m t)) =
    subst (FitsIn (width_of m.widths t)) (constant-is m (zeros m) none t h) (value_fits m widths (zeros m) (zeros-fit m) none t ok) in
    let P : ℕ → Type 0 = λ w. constant_value m t < 2 ^ w in
    subst P width fits

-- ---- the laws

pub constants_have_values : ConstantsHaveValues
constants_have_values m cells mem t h = constant-is m cells mem t h

-- the target is there where the term is constant, and is its value
target-is : (m : Machine) (t : Term) (v : ℕ) (b : Bool) → is_constant t ≡ b → (if b then Some (constant_value m t) else None) ≡ Some v → (is_constant t ≡ true) × (constant_value m t ≡ v)
target-is m t v true h e = (h, same_Some (constant_value m t) v e)
target-is m t v false h e = absurd cc

pub targets_are_values : TargetsAreValues
targets_are_values m cells mem e v is =
    let t = term_of e in
    let h = target-is m t v (is_constant t) refl is in
    constant-is m cells mem t h.0 ∙ ap Ok h.1

pub targets_are_addresses : TargetsAreAddresses
targets_are_addresses m e v widths sound is =
    let t = term_of e in
    let h = target-is m t v (is_constant t) refl is in
    subst (λ n. n < 2 ^ 32) h.1 (constant-small m t widths sound.0 sound.1 h.0)
