-- Variables in slots, one of them set.
use Rattle.std.proofs.Common.{◌≡◌, ◌≢◌, ℕ, zero, suc, ◌+◌, ◌*◌, ◌<◌, Bool, true, false, Option, Some, None, List, length, drop, replicate, length-drop, refl, sym, ap, ◌∙◌, arith}
use Rattle.std.specs.Prelude.{if◌then◌else◌, slice_index, slice_index_or, slice_set}
use Rattle.std.proofs.Math.Path.{fun_ext}
use Rattle.std.proofs.lemmas.List.{get_or-set_same, get_or-set_other, drop-set-add}
use Rattle.std.proofs.lemmas.Bool.{eqb-true, eqb-false}
use Rattle.rtl_core.specs.Arithmetic.{flag}
use Rattle.c_lang.specs.declared.tree.Var.{Var}
use Rattle.c_lang.specs.declared.tree.Var.TheVariants.{Ra, Pt, Cell, Temp, Result, Wn, Depth, ServeR, ServeE}
use Rattle.c_lang.specs.State.{same_var, with_var, is_global}
use Rattle.c_lang.specs.Step.{no_vars}
use Rattle.c_frames.specs.Slots.{slot_of, seen, local_vars, global_vars}

-- one variable lies in one slot
slot_same : (v w : Var) → same_var v w ≡ true → slot_of v ≡ slot_of w
slot_same Ra Ra h = refl
slot_same Pt Pt h = refl
slot_same (Cell i) (Cell j) h = ap (λ c. 2 * c + 2) (eqb-true i j h)
slot_same (Temp i) (Temp j) h = ap (λ c. 2 * c + 3) (eqb-true i j h)
slot_same (Result i) (Result j) h = ap (λ c. c + 4) (eqb-true i j h)
slot_same Wn Wn h = refl
slot_same Depth Depth h = refl
slot_same ServeR ServeR h = refl
slot_same ServeE ServeE h = refl
slot_same _ _ h = absurd cc

-- and belongs to its call, or to all
kind_same : (v w : Var) → same_var v w ≡ true → is_global v ≡ is_global w
kind_same Ra Ra h = refl
kind_same Pt Pt h = refl
kind_same (Cell i) (Cell j) h = refl
kind_same (Temp i) (Temp j) h = refl
kind_same (Result i) (Result j) h = refl
kind_same Wn Wn h = refl
kind_same Depth Depth h = refl
kind_same ServeR ServeR h = refl
kind_same ServeE ServeE h = refl
kind_same _ _ h = absurd cc

-- another variable of the same kind lies elsewhere
slot_apart : (v w : Var) → flag (is_global v) ≡ flag (is_global w) → same_var v w ≡ false → slot_of w ≢ slot_of v
slot_apart Ra Ra k h = absurd cc
slot_apart Pt Pt k h = absurd cc
slot_apart (Cell i) (Cell j) k h = let ne = eqb-false i j h in λ e. ne (omega arith)
slot_apart (Temp i) (Temp j) k h = let ne = eqb-false i j h in λ e. ne (omega arith)
slot_apart (Result i) (Result j) k h = let ne = eqb-false i j h in λ e. ne (omega arith)
slot_apart Wn Wn k h = absurd cc
slot_apart Depth Depth k h = absurd cc
slot_apart ServeR ServeR k h = absurd cc
slot_apart ServeE ServeE k h = absurd cc
slot_apart _ _ k h = λ e. omega (arith, k, e)

-- a variable of the call set in its slot
pub local_put : (slots : List (Option ℕ)) (v : Var) (n : ℕ) → is_global v ≡ false → slot_of v < length slots
    → local_vars (slice_set slots (slot_of v) (Some n)) ≡ with_var (local_vars slots) v n
unfolding local_vars
local_put slots v n kind lt = fun_ext (λ w. at w (same_var v w) refl (is_global w) refl)
  where
    at : (w : Var) (t : Bool) → same_var v w ≡ t → (g : Bool) → is_global w ≡ g
        → (if g then None else slice_index_or (slice_set slots (slot_of v) (Some n)) (slot_of w) None)
        ≡ (if t then Some n else (if g then None else slice_index_or slots (slot_of w) None))
    at w true same true g = let e = kind_same v w same in absurd cc
    at w true same false g =
        ap (λ i. slice_index_or (slice_set slots (slot_of v) (Some n)) i None) (sym (slot_same v w same))
        ∙ get_or-set_same slots (slot_of v) (Some n) None lt
    at w false other true g = refl
    at w false other false g = get_or-set_other slots (slot_of v) (slot_of w) (Some n) None (slot_apart v w (ap flag (kind ∙ sym g)) other)

-- a shared variable set in its slot
pub global_put : (slots : List ℕ) (v : Var) (n : ℕ) → is_global v ≡ true → slot_of v < length slots
    → global_vars (slice_set slots (slot_of v) n) ≡ with_var (global_vars slots) v n
unfolding global_vars
global_put slots v n kind lt = fun_ext (λ w. at w (same_var v w) refl (is_global w) refl)
  where
    at : (w : Var) (t : Bool) → same_var v w ≡ t → (g : Bool) → is_global w ≡ g
        → (if g then Some (slice_index (slice_set slots (slot_of v) n) (slot_of w)) else None)
        ≡ (if t then Some n else (if g then Some (slice_index slots (slot_of w)) else None))
    at w true same false g = let e = kind_same v w same in absurd cc
    at w true same true g =
        ap (λ i. Some (slice_index (slice_set slots (slot_of v) n) i)) (sym (slot_same v w same))
        ∙ ap Some (get_or-set_same slots (slot_of v) n 0 lt)
    at w false other false g = refl
    at w false other true g = ap Some (get_or-set_other slots (slot_of v) (slot_of w) n 0 (slot_apart v w (ap flag (kind ∙ sym g)) other))

both_kinds : (b : Bool) (x y : Option ℕ) → (if b then (if b then x else None) else (if b then None else y)) ≡ (if b then x else y)
both_kinds true x y = refl
both_kinds false x y = refl

-- the variables of the call and the shared ones are what the call sees
pub seen_is : (locals : List (Option ℕ)) (globals : List ℕ) → (λ v. if is_global v then global_vars globals v else local_vars locals v) ≡ seen locals globals
unfolding seen local_vars global_vars
seen_is locals globals = fun_ext (λ v. both_kinds (is_global v) (Some (slice_index globals (slot_of v))) (slice_index_or locals (slot_of v) None))

none_unset : (n i : ℕ) (x : Option ℕ) → slice_index_or (replicate n x) i x ≡ x
none_unset zero i x = refl
none_unset (suc n) zero x = refl
none_unset (suc n) (suc i) x = none_unset n i x

zero_anywhere : (n i : ℕ) → slice_index (replicate n 0) i ≡ 0
zero_anywhere zero i = refl
zero_anywhere (suc n) zero = refl
zero_anywhere (suc n) (suc i) = zero_anywhere n i

either_none : (g : Bool) (o : Option ℕ) → o ≡ None → (if g then None else o) ≡ None
either_none true o e = refl
either_none false o e = e

-- no variable of a call is set at first
pub unset : (size : ℕ) → local_vars (replicate size None) ≡ no_vars
unfolding local_vars
unset size = fun_ext (λ v. either_none (is_global v) (slice_index_or (replicate size None) (slot_of v) None) (none_unset size (slot_of v) None))

-- all shared variables are 0 at first
pub zeros : (n : ℕ) → global_vars (replicate n 0) ≡ (λ v. if is_global v then Some 0 else None)
unfolding global_vars
zeros n = fun_ext (λ v. at (is_global v) (slot_of v))
  where
    at : (g : Bool) (i : ℕ) → (if g then Some (slice_index (replicate n 0) i) else None) ≡ (if g then Some 0 else None)
    at true i = ap Some (zero_anywhere n i)
    at false i = refl

-- a shared variable set where it lies
pub put_global : (slots globals : List ℕ) (at : ℕ) (v : Var) (n : ℕ) → at ≡ slot_of v → is_global v ≡ true → at < length slots → slots ≡ globals
    → global_vars (slice_set slots at n) ≡ (if is_global v then with_var (global_vars globals) v n else global_vars globals)
put_global slots globals at v n place kind lt same =
    let lt' : slot_of v < length slots = omega (arith, lt, place) in
    ap (λ i. global_vars (slice_set slots i n)) place ∙ global_put slots v n kind lt' ∙ ap (λ gs. with_var (global_vars gs) v n) same
    ∙ ap (λ b. if b then with_var (global_vars globals) v n else global_vars globals) (sym kind)

-- a variable of the call on top set where it lies
pub put_local : (slots top : List (Option ℕ)) (base size at : ℕ) (v : Var) (n : ℕ) → at ≡ slot_of v → is_global v ≡ false → at < size
    → length slots ≡ base + size → drop base slots ≡ top
    → local_vars (drop base (slice_set slots (base + at) (Some n))) ≡ (if is_global v then local_vars top else with_var (local_vars top) v n)
put_local slots top base size at v n place kind lt count same =
    let len : length top ≡ size = ap length (sym same) ∙ length-drop base slots ∙ omega (arith, count) in
    let lt' : slot_of v < length top = omega (arith, lt, place, len) in
    ap local_vars (drop-set-add base slots at (Some n)) ∙ ap (λ xs. local_vars (slice_set xs at (Some n))) same
    ∙ ap (λ i. local_vars (slice_set top i (Some n))) place ∙ local_put top v n kind lt'
    ∙ ap (λ b. if b then local_vars top else with_var (local_vars top) v n) (sym kind)
