-- The machine and the conventions of the tests of services fit, and so do the first cells.
use Rattle.std.proofs.Common.{◌≡◌, ◌≢◌, ℕ, zero, suc, ◌^◌, ◌<◌, ◌≤◌, true, List, [], ◌∷◌, length, set, get_or, refl, sym, ap, ◌∙◌, subst, arith, inl, inr, length-set, get_or-set_other, get_or-set_same}
use Rattle.std.specs.Prelude.{nat_lt, if◌then◌else◌, slice_index, Option, Some, None, is_some, IsTrue}
use Rattle.std.specs.List.{list_any}
use Rattle.std.proofs.lemmas.Bool.{lt-ltb, le-ltb, cases_lt, cases_eq, eq-eqb, ne_eqb}
use Rattle.std.proofs.Math.Path.{fun_ext}
use Rattle.rtl_core.specs.declared.conv.Conv.{Conv}
use Rattle.rtl_core.specs.declared.conv.ServiceShape.{ServiceShape}
use Rattle.rtl_core.specs.declared.machine.Machine.{Machine}
use Rattle.rtl_core.specs.Contents.{Contents, put, rewritten}
use Rattle.rtl_core.specs.SoundConv.{IsCellOf, IsCellIfAny, AreServiceCells, FitsMachine, calls_service}
use Rattle.rtl_core.specs.SoundTerms.{Fit}

-- ---- the machine: five cells of 32 bits and a flag

-- a cell of the machine's
cell_of : (m : Machine) → m.widths ≡ 32 ∷ 32 ∷ 32 ∷ 32 ∷ 32 ∷ 1 ∷ [] → (c w : ℕ) → c < 6 → slice_index (32 ∷ 32 ∷ 32 ∷ 32 ∷ 32 ∷ 1 ∷ []) c ≡ w → IsCellOf m w c
cell_of m ws c w h is = (omega (arith, ap length ws), ap (λ k. slice_index k c) ws ∙ is)

pub flag_cell : (m : Machine) → m.widths ≡ 32 ∷ 32 ∷ 32 ∷ 32 ∷ 32 ∷ 1 ∷ [] → IsCellIfAny m 1 (Some 5)
flag_cell m ws = cell_of m ws 5 1 (omega arith) refl

-- the shape of the tests' services
pub record IsShape (s : ServiceShape) : Type 0 where
  pub number : s.number ≡ 0
  pub arg_x : s.arg_x ≡ 1
  pub arg_y : s.arg_y ≡ 2
  pub arg_z : s.arg_z ≡ 3
  pub result : s.result ≡ 4

word_at : (m : Machine) → m.widths ≡ 32 ∷ 32 ∷ 32 ∷ 32 ∷ 32 ∷ 1 ∷ [] → (c k : ℕ) → c ≡ k → k < 5 → IsCellOf m 32 c
word_at m ws c k is h = subst (IsCellOf m 32) (sym is) (cell_of m ws k 32 (omega arith) (word k h))
  where
    word : (k : ℕ) → k < 5 → slice_index (32 ∷ 32 ∷ 32 ∷ 32 ∷ 32 ∷ 1 ∷ []) k ≡ 32
    word zero h = refl
    word (suc zero) h = refl
    word (suc (suc zero)) h = refl
    word (suc (suc (suc zero))) h = refl
    word (suc (suc (suc (suc zero)))) h = refl
    word (suc (suc (suc (suc (suc k))))) h = absurd (omega arith)

pub shape_cells : (m : Machine) → m.widths ≡ 32 ∷ 32 ∷ 32 ∷ 32 ∷ 32 ∷ 1 ∷ [] → (s : ServiceShape) → IsShape s → IsCellIfAny m 1 s.error → AreServiceCells m s
shape_cells m ws s is flag = record {
  number = word_at m ws s.number 0 is.number (omega arith);
  arg_x = word_at m ws s.arg_x 1 is.arg_x (omega arith);
  arg_y = word_at m ws s.arg_y 2 is.arg_y (omega arith);
  arg_z = word_at m ws s.arg_z 3 is.arg_z (omega arith);
  result = word_at m ws s.result 4 is.result (omega arith);
  error = flag;
}

-- conventions of the tests
pub conventions_fit : (m : Machine) (conv : Conv) (s : ServiceShape) → m.widths ≡ 32 ∷ 32 ∷ 32 ∷ 32 ∷ 32 ∷ 1 ∷ [] → m.zero ≡ None → m.forms ≡ []
    → conv.stack_cell ≡ 4 → conv.service ≡ Some s → IsShape s → IsCellIfAny m 1 s.error → conv.link ≡ None → conv.calls ≡ [] → conv.returns ≡ [] → conv.pads ≡ [] → FitsMachine conv m
conventions_fit m conv s ws none forms stack service is flag link calls returns pads = record {
  stack = word_at m ws conv.stack_cell 4 stack (omega arith);
  moving = λ e. let no : ⊥ = cc (e, none) in no;
  cells = λ t at. let same : s ≡ t = cc (service, at) in subst (AreServiceCells m) same (shape_cells m ws s is flag);
  link = subst (IsCellIfAny m 32) (sym link) tt;
  calls = λ k d h. absurd (omega (arith, ap length calls));
  returns = λ k d h. absurd (omega (arith, ap length returns));
  pads = λ k d h. absurd (omega (arith, ap length pads));
  service = λ h. subst (λ o. IsTrue (is_some o)) (sym service) (some s);
}
  where
    some : (s : ServiceShape) → IsTrue (is_some (Some s))
    some s = refl

pub first_fits : (m : Machine) → m.widths ≡ 32 ∷ 32 ∷ 32 ∷ 32 ∷ 32 ∷ 1 ∷ [] → m.zero ≡ None → (n x y z : ℕ) → n < 2 ^ 32 → x < 2 ^ 32 → y < 2 ^ 32 → z < 2 ^ 32
    → Fit m (n ∷ x ∷ y ∷ z ∷ 7 ∷ 1 ∷ [])
first_fits m ws none n x y z hn hx hy hz = record {
  count = sym (ap length ws);
  each = λ c h. let there : c < 6 = omega (arith, ap length ws) in
      subst (λ k. slice_index (n ∷ x ∷ y ∷ z ∷ 7 ∷ 1 ∷ []) c < 2 ^ slice_index k c) (sym ws) (each c there);
  zeroed = λ c e. let no : ⊥ = cc (e, none) in absurd no;
}
  where
    each : (c : ℕ) → c < 6 → slice_index (n ∷ x ∷ y ∷ z ∷ 7 ∷ 1 ∷ []) c < 2 ^ slice_index (32 ∷ 32 ∷ 32 ∷ 32 ∷ 32 ∷ 1 ∷ []) c
    each zero h = hn
    each (suc zero) h = hx
    each (suc (suc zero)) h = hy
    each (suc (suc (suc zero))) h = hz
    each (suc (suc (suc (suc zero)))) h = omega arith
    each (suc (suc (suc (suc (suc zero))))) h = omega arith
    each (suc (suc (suc (suc (suc (suc c)))))) h = absurd (omega arith)
