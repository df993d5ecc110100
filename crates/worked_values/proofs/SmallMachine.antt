-- The machine of the tests fits its first cells, and the acts of the tests are sound on it.
use Rattle.std.proofs.Common.{◌≡◌, ℕ, zero, suc, ◌+◌, ◌-◌, ◌*◌, ◌^◌, ◌<◌, ◌≤◌, true, Some, List, [], ◌∷◌, length, refl, sym, ap, ◌∙◌, subst, arith, inl}
use Rattle.std.specs.Prelude.{◌++◌, slice_index, is_some, IsTrue, All}
use Rattle.std.proofs.lemmas.List.Elements.{All-push}
use Rattle.rtl_core.specs.declared.expr.Bin.TheVariants.{DivU}
use Rattle.rtl_core.specs.declared.expr.Expr.{Expr}
use Rattle.rtl_core.specs.declared.expr.Expr.TheVariants as E
use Rattle.rtl_core.specs.declared.expr.Un.{Un}
use Rattle.rtl_core.specs.declared.machine.Machine.{Machine}
use Rattle.rtl_core.specs.declared.machine.WinShape.{WinShape}
use Rattle.rtl_core.specs.declared.transfer.Act.TheVariants as A
use Rattle.rtl_core.specs.declared.transfer.Transfer.{Transfer}
use Rattle.rtl_core.specs.Access.{is_size}
use Rattle.rtl_core.specs.SoundMachine.{AreWindowCells, AreSoundWindows, HaveSoundWindows}
use Rattle.rtl_core.specs.SoundTerms.{IsWidth, AreWidths, IsSoundTerm, HasWidth, IsSoundAct, IsSoundTransfer}
use Rattle.rtl_core.specs.Terms.{Term, Const, Cell, Load, Unary, Binary, Slice, Zext, term_of, width_of}
use Rattle.rtl_core.proofs.AccessLaws.{size_bounds}
use Rattle.rtl_core.proofs.TermLaws.{term-Const, term-Cell, term-Load, term-Un, term-Bin, term-Slice, term-Zext}
use Rattle.rtl_meaning.specs.Saved.{Fits}
use Rattle.worked_values.specs.TestMachine.{IsSmall}

-- ---- expressions

has : (ws : List ℕ) (e : Expr) (t : Term) (w : ℕ) → term_of e ≡ t → IsSoundTerm ws t → width_of ws t ≡ w → HasWidth ws e w
has ws e t w is sound width = (subst (IsSoundTerm ws) (sym is) sound, ap (width_of ws) is ∙ width)

pub number_has : (ws : List ℕ) (w n : ℕ) → IsWidth w → n < 2 ^ w → HasWidth ws (E.Const w n) w
number_has ws w n i h = has ws (E.Const w n) (Const w n) w (term-Const w n) (i, h) refl

pub quotient_has : (ws : List ℕ) (a b : Expr) → HasWidth ws a 64 → HasWidth ws b 64 → HasWidth ws (E.Bin DivU a b) 64
quotient_has ws a b h k = has ws (E.Bin DivU a b) (Binary DivU (term_of a) (term_of b)) 64 (term-Bin DivU a b) (h.0, k.0, k.1 ∙ sym h.1) h.1

pub turned_has : (ws : List ℕ) (op : Un) (a : Expr) (w : ℕ) → HasWidth ws a w → HasWidth ws (E.Un op a) w
turned_has ws op a w h = has ws (E.Un op a) (Unary op (term_of a)) w (term-Un op a) h.0 h.1

slice_has : (ws : List ℕ) (a : Expr) (w hi n : ℕ) → hi < w → hi + 1 ≡ n → HasWidth ws a w → HasWidth ws (E.Slice a 0 hi) n
slice_has ws a w hi n under is h = has ws (E.Slice a 0 hi) (Slice (term_of a) 0 hi) n (term-Slice a 0 hi) (h.0, omega arith, omega (arith, h.1)) (omega arith)

pub loaded_has : (ws : List ℕ) (n : ℕ) (a : Expr) → is_size n ≡ true → HasWidth ws a 32 → HasWidth ws (E.Zext 64 (E.Load n a)) 64
loaded_has ws n a size h =
    let b = size_bounds n size in
    has ws (E.Zext 64 (E.Load n a)) (Zext 64 (Load n (term_of a))) 64 (term-Zext 64 (E.Load n a) ∙ ap (Zext 64) (term-Load n a)) ((h.0, h.1, size), omega arith, omega arith) refl

-- ---- the machine

count : (m : Machine) → IsSmall m → length m.widths ≡ 5
count m s = ap length s.widths

wide_cell : (m : Machine) → IsSmall m → slice_index m.widths 4 ≡ 64
wide_cell m s = ap (λ ws. slice_index ws 4) s.widths

word_of : (c : ℕ) → c < 4 → slice_index (32 ∷ 32 ∷ 32 ∷ 32 ∷ 64 ∷ []) c ≡ 32
word_of zero h = refl
word_of (suc zero) h = refl
word_of (suc (suc zero)) h = refl
word_of (suc (suc (suc zero))) h = refl
word_of (suc (suc (suc (suc c)))) h = absurd (omega arith)

word_cell : (m : Machine) → IsSmall m → (c : ℕ) → c < 4 → slice_index m.widths c ≡ 32
word_cell m s c h = ap (λ ws. slice_index ws c) s.widths ∙ word_of c h

pub cell_has : (m : Machine) → IsSmall m → HasWidth m.widths (E.Cell 4) 64
cell_has m s = has m.widths (E.Cell 4) (Cell 4) 64 (term-Cell 4) (omega (arith, count m s)) (wide_cell m s)

pub set_word : (m : Machine) → IsSmall m → (c : ℕ) (e : Expr) → c < 4 → HasWidth m.widths e 32 → IsSoundAct m (A.SetCell c e)
set_word m s c e h k = (omega (arith, count m s), subst (HasWidth m.widths e) (sym (word_cell m s c h)) k)

pub set_wide : (m : Machine) → IsSmall m → (e : Expr) → HasWidth m.widths e 64 → IsSoundAct m (A.SetCell 4 e)
set_wide m s e h = (omega (arith, count m s), subst (HasWidth m.widths e) (sym (wide_cell m s)) h)

pub set_middle : (m : Machine) → IsSmall m → (a : Expr) → HasWidth m.widths a 32 → IsSoundAct m (A.SetSlice 4 8 15 (E.Slice a 0 7))
set_middle m s a h = (omega (arith, count m s), omega arith, omega (arith, wide_cell m s), slice_has m.widths a 32 7 8 (omega arith) refl h)

pub store_low : (m : Machine) → IsSmall m → (n : ℕ) (a : Expr) → is_size n ≡ true → HasWidth m.widths a 32 → IsSoundAct m (A.Store n a (E.Slice (E.Cell 4) 0 (8 * n - 1)))
store_low m s n a size h =
    let b = size_bounds n size in
    (size, h, slice_has m.widths (E.Cell 4) 64 (8 * n - 1) (8 * n) (omega arith) (omega arith) (cell_has m s))

pub windows_there : (m : Machine) → IsSmall m → IsTrue (is_some m.windows)
windows_there m s = subst (λ o. IsTrue (is_some o)) (sym s.windows) refl

-- one more transfer
pub push_sound : (m : Machine) (ts : List Transfer) (t : Transfer) → All (IsSoundTransfer m) ts → IsSoundTransfer m t → All (IsSoundTransfer m) (ts ++ t ∷ [])
push_sound m ts t h k = All-push (IsSoundTransfer m) ts t h k

-- ---- what an instruction needs

widths_of : AreWidths (32 ∷ 32 ∷ 32 ∷ 32 ∷ 64 ∷ [])
widths_of = record { each = each }
  where
    each : (c : ℕ) → c < 5 → IsWidth (slice_index (32 ∷ 32 ∷ 32 ∷ 32 ∷ 64 ∷ []) c)
    each zero h = (omega arith, omega arith)
    each (suc zero) h = (omega arith, omega arith)
    each (suc (suc zero)) h = (omega arith, omega arith)
    each (suc (suc (suc zero))) h = (omega arith, omega arith)
    each (suc (suc (suc (suc zero)))) h = (omega arith, omega arith)
    each (suc (suc (suc (suc (suc c))))) h = absurd (omega arith)

values_of : (c : ℕ) → c < 5 → slice_index (0 ∷ 11 ∷ 12 ∷ 13 ∷ 14 ∷ []) c < 2 ^ slice_index (32 ∷ 32 ∷ 32 ∷ 32 ∷ 64 ∷ []) c
values_of zero h = omega arith
values_of (suc zero) h = omega arith
values_of (suc (suc zero)) h = omega arith
values_of (suc (suc (suc zero))) h = omega arith
values_of (suc (suc (suc (suc zero)))) h = omega arith
values_of (suc (suc (suc (suc (suc c))))) h = absurd (omega arith)

one_cell : (m : Machine) → IsSmall m → (f : ℕ) → 1 ≤ f → f < 4 → AreWindowCells m f 1
one_cell m s f pos small i lt =
    let e : f ≡ f + i = omega arith in
    (omega (arith, count m s), ap (λ c. slice_index m.widths c) (sym e) ∙ word_cell m s f small, λ z. let same : 0 ≡ f + i = cc (z, s.zeroed) in absurd (omega arith))

small_shape : (m : Machine) → IsSmall m → HaveSoundWindows m m.windows
small_shape m s w is =
    let shape : WinShape = record { out_first = 1; local_first = 2; in_first = 3; count = 1 } in
    let same : shape ≡ w = cc (is, s.windows) in
    let sound : AreSoundWindows m shape = record {
      some = omega arith;
      few = omega arith;
      out = one_cell m s 1 (omega arith) (omega arith);
      local = one_cell m s 2 (omega arith) (omega arith);
      in_ = one_cell m s 3 (omega arith) (omega arith);
      out_local = inl (omega arith);
      local_in = inl (omega arith);
      out_in = inl (omega arith);
    } in
    subst (AreSoundWindows m) same sound

zero_fits : (m : Machine) → IsSmall m → (z : ℕ) → m.zero ≡ Some z → slice_index (0 ∷ 11 ∷ 12 ∷ 13 ∷ 14 ∷ []) z ≡ 0
zero_fits m s z is = let same : 0 ≡ z = cc (is, s.zeroed) in ap (λ c. slice_index (0 ∷ 11 ∷ 12 ∷ 13 ∷ 14 ∷ []) c) (sym same)

pub first_fits : (m : Machine) → IsSmall m → Fits m (0 ∷ 11 ∷ 12 ∷ 13 ∷ 14 ∷ []) []
first_fits m s = record {
  widths = subst AreWidths (sym s.widths) widths_of;
  windows = small_shape m s;
  fit = record {
    count = sym (count m s);
    each = λ c h. let there : c < 5 = omega (arith, count m s) in
        subst (λ ws. slice_index (0 ∷ 11 ∷ 12 ∷ 13 ∷ 14 ∷ []) c < 2 ^ slice_index ws c) (sym s.widths) (values_of c there);
    zeroed = zero_fits m s;
  };
  shape = record { all = λ w is. tt };
}
