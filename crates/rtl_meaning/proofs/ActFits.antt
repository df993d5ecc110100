-- Cells still fit their machine behind each act, and saved windows are still its own.
use Rattle.std.proofs.Common.{◌≡◌, ◌≢◌, ℕ, zero, suc, ◌+◌, ◌-◌, ◌^◌, ◌<◌, ◌≤◌, ◌==◌, Bool, true, false, if◌then◌else◌, Option, Some, None, Result, Ok, Err, List, [], ◌∷◌, ◌++◌, length, take, drop, replicate, get_or, refl, sym, ap, ◌∙◌, subst, arith, drop-cons, add-one}
use Rattle.std.specs.Prelude.{slice_index, slice_set}
use Rattle.std.proofs.lemmas.List.{length-append, length-replicate, length-take-le, length-drop}
use Rattle.rtl_core.specs.declared.expr.Expr.{Expr}
use Rattle.rtl_core.specs.declared.machine.Machine.{Machine}
use Rattle.rtl_core.specs.declared.machine.WinShape.{WinShape}
use Rattle.rtl_core.specs.declared.stop.Stop.{Stop}
use Rattle.rtl_core.specs.declared.stop.Stop.TheVariants as Stop
use Rattle.rtl_core.specs.declared.stop.Trap.{Trap}
use Rattle.rtl_core.specs.declared.transfer.Act.{Act}
use Rattle.rtl_core.specs.declared.transfer.Act.TheVariants.{SetCell, SetSlice, Store, Jump, Annul, Trap as TrapWith, Service, WinSave, WinRestore}
use Rattle.rtl_core.specs.declared.transfer.Transfer.{Transfer}
use Rattle.rtl_core.specs.Access.{stored}
use Rattle.rtl_core.specs.Arithmetic.{with_bits}
use Rattle.rtl_core.specs.Contents.{Contents}
use Rattle.rtl_core.specs.SoundMachine.{AreWindowCells, AreSoundWindows}
use Rattle.rtl_core.specs.SoundTerms.{AreWidths, HasWidth, IsSoundAct, IsSoundGuard, IsSoundTransfer, Fit}
use Rattle.rtl_core.specs.Terms.{term_of, width_of}
use Rattle.rtl_core.specs.Transfers.{Doing, Ran, Went, Halted, with_result, put_cell, saving, restoring, acted, transferred, then_on, all_transferred}
use Rattle.rtl_core.specs.Value.{value_of, choice}
use Rattle.rtl_core.specs.Windows.{cells_from, put_cells, entered, window_of, left, most_windows}
use Rattle.rtl_core.proofs.FitCells.{fit-set, fit-put}
use Rattle.rtl_core.proofs.Fits.{FitsIn, value_fits}
use Rattle.rtl_core.proofs.Ranges.{with_bits_lt}
use Rattle.rtl_meaning.specs.Saved.{AreWords, IsWindow, AreWindows, HaveShape, Fits}
use Rattle.rtl_meaning.proofs.CellGroups.{cells_length}

-- ---- numbers of 32 bits

words_append : (a b : List ℕ) → AreWords a → AreWords b → AreWords (a ++ b)
words_append [] b h k = k
words_append (v ∷ a) b h k = (h.0, words_append a b h.1 k)

words_take : (n : ℕ) (vs : List ℕ) → AreWords vs → AreWords (take n vs)
words_take zero vs h = tt
words_take (suc n) [] h = tt
words_take (suc n) (v ∷ vs) h = (h.0, words_take n vs h.1)

words_drop : (n : ℕ) (vs : List ℕ) → AreWords vs → AreWords (drop n vs)
words_drop zero vs h = h
words_drop (suc n) [] h = tt
words_drop (suc n) (v ∷ vs) h = words_drop n vs h.1

words_zeros : (n : ℕ) → AreWords (replicate n 0)
words_zeros zero = tt
words_zeros (suc n) = (omega arith, words_zeros n)

-- ---- window cells

-- one cell of a window
abbrev IsWindowCell : Machine → ℕ → Type 0
IsWindowCell m c = (c < length m.widths) × (slice_index m.widths c ≡ 32) × (m.zero ≢ Some c)

first_cell : (m : Machine) (first n : ℕ) → AreWindowCells m first (suc n) → IsWindowCell m first
first_cell m first n g = let e : first + 0 ≡ first = omega arith in subst (IsWindowCell m) e (g 0 (omega arith))

more_cells : (m : Machine) (first n : ℕ) → AreWindowCells m first (suc n) → AreWindowCells m (first + 1) n
more_cells m first n g = λ i lt. let e : first + suc i ≡ first + 1 + i = omega arith in subst (IsWindowCell m) e (g (suc i) (omega arith))

words_from : (m : Machine) (first n : ℕ) (cells : List ℕ) → AreWindowCells m first n → Fit m cells → AreWords (cells_from first n cells)
words_from m first zero cells g fit = tt
words_from m first (suc n) cells g fit =
    let c = first_cell m first n g in
    (subst (λ w. slice_index cells first < 2 ^ w) c.1 (fit.each first c.0), words_from m (first + 1) n cells (more_cells m first n g) fit)

put_fit : (m : Machine) (first : ℕ) (vs cells : List ℕ) → AreWindowCells m first (length vs) → AreWords vs → Fit m cells → Fit m (put_cells first vs cells)
put_fit m first [] cells g h fit = fit
put_fit m first (v ∷ vs) cells g h fit =
    let c = first_cell m first (length vs) g in
    let small : v < 2 ^ slice_index m.widths first = subst (λ w. v < 2 ^ w) (sym c.1) h.0 in
    put_fit m (first + 1) vs (slice_set cells first v) (more_cells m first (length vs) g) h.1
    (fit-set m cells first v c.0 small (λ z is same. c.2 (is ∙ ap Some (sym same))) fit)

-- so many values put into the cells of a window
put_window : (m : Machine) (first n : ℕ) (vs cells : List ℕ) → length vs ≡ n → AreWindowCells m first n → AreWords vs → Fit m cells → Fit m (put_cells first vs cells)
put_window m first n vs cells count g h fit = put_fit m first vs cells (subst (AreWindowCells m first) (sym count) g) h fit

entered_fit : (m : Machine) (w : WinShape) (cells : List ℕ) → AreSoundWindows m w → Fit m cells → Fit m (entered w cells)
entered_fit m w cells s fit =
    put_window m w.out_first w.count (replicate w.count 0) _ (length-replicate w.count 0) s.out (words_zeros w.count)
    (put_window m w.local_first w.count (replicate w.count 0) _ (length-replicate w.count 0) s.local (words_zeros w.count)
    (put_window m w.in_first w.count (cells_from w.out_first w.count cells) cells (cells_length w.out_first w.count cells) s.in_ (words_from m w.out_first w.count cells s.out fit) fit))

left_fit : (m : Machine) (w : WinShape) (kept cells : List ℕ) → AreSoundWindows m w → IsWindow w kept → Fit m cells → Fit m (left w kept cells)
left_fit m w kept cells s k fit =
    let n : w.count ≤ length kept = omega (arith, k.count) in
    let locals = length-take-le w.count kept n in
    let ins : length (drop w.count kept) ≡ w.count = omega (arith, length-drop w.count kept, k.count) in
    put_window m w.in_first w.count (drop w.count kept) _ ins s.in_ (words_drop w.count kept k.words)
    (put_window m w.local_first w.count (take w.count kept) _ locals s.local (words_take w.count kept k.words)
    (put_window m w.out_first w.count (cells_from w.in_first w.count cells) cells (cells_length w.in_first w.count cells) s.out (words_from m w.in_first w.count cells s.in_ fit) fit))

kept_window : (m : Machine) (w : WinShape) (cells : List ℕ) → AreSoundWindows m w → Fit m cells → IsWindow w (window_of w cells)
kept_window m w cells s fit = record {
  count =
      omega (arith, length-append (cells_from w.local_first w.count cells) (cells_from w.in_first w.count cells), cells_length w.local_first w.count cells, cells_length w.in_first w.count cells);
  words = words_append _ _ (words_from m w.local_first w.count cells s.local fit) (words_from m w.in_first w.count cells s.in_ fit);
}

-- ---- acts

-- what a run comes to still fits
abbrev pub FitsRan : Machine → Ran → Type 0
FitsRan m (Went d) = Fits m d.cells d.saved
FitsRan m (Halted stop d) = Fits m d.cells d.saved

result_fits : {A : Type 0} (m : Machine) (pc : ℕ) (d : Doing) (r : Result A Trap) (go : A → Ran) → Fits m d.cells d.saved → ((v : A) → r ≡ Ok v → FitsRan m (go v)) → FitsRan m (with_result pc d r go)
result_fits m pc d (Ok v) go f h = h v refl
result_fits m pc d (Err trap) go f h = f

-- other cells that fit
refit : (m : Machine) (cells new : List ℕ) (saved : List (List ℕ)) → Fits m cells saved → Fit m new → Fits m new saved
refit m cells new saved f fit = record { widths = f.widths; windows = f.windows; fit = fit; shape = f.shape }

small : (m : Machine) (cells : List ℕ) (mem : Contents) (e : Expr) (w v : ℕ) → AreWidths m.widths → Fit m cells → HasWidth m.widths e w → value_of m cells mem (term_of e) ≡ Ok v → v < 2 ^ w
small m cells mem e w v widths fit h is =
    subst (λ k. v < 2 ^ k) h.1 (subst (FitsIn (width_of m.widths (term_of e))) is (value_fits m widths cells fit mem (term_of e) h.0))

saving_fits : (m : Machine) (d : Doing) → Fits m d.cells d.saved → (o : Option WinShape) → m.windows ≡ o → FitsRan m (saving o d)
saving_fits m d f None is = f
saving_fits m d f (Some w) is = by (length d.saved == most_windows)
  where
    new : Fits m (entered w d.cells) (window_of w d.cells ∷ d.saved)
    new =
        let s = f.windows w is in
        record {
          widths = f.widths;
          windows = f.windows;
          fit = entered_fit m w d.cells s f.fit;
          shape = record {
            all = λ v at. let same : w ≡ v = cc in subst (λ u. AreWindows u (window_of w d.cells ∷ d.saved)) same (kept_window m w d.cells s f.fit, f.shape.all w is);
          };
        }

    by : (b : Bool) → FitsRan m (if b then Halted Stop.WindowFull d else Went (record d { cells = entered w d.cells; saved = window_of w d.cells ∷ d.saved }))
    by true = f
    by false = new

restoring_fits : (m : Machine) (d : Doing) → Fits m d.cells d.saved → (o : Option WinShape) (saved : List (List ℕ)) → m.windows ≡ o → d.saved ≡ saved → FitsRan m (restoring o saved d)
restoring_fits m d f None saved is at = f
restoring_fits m d f (Some w) [] is at = f
restoring_fits m d f (Some w) (kept ∷ older) is at =
    let h = subst (AreWindows w) at (f.shape.all w is) in
    record {
      widths = f.widths;
      windows = f.windows;
      fit = left_fit m w kept d.cells (f.windows w is) h.0 f.fit;
      shape = record { all = λ v there. let same : w ≡ v = cc in subst (λ u. AreWindows u older) same h.1 };
    }

acted_fits : (m : Machine) (pc : ℕ) (act : Act) (d : Doing) → IsSoundAct m act → Fits m d.cells d.saved → FitsRan m (acted m pc act d)
acted_fits m pc (SetCell c e) d s f =
    result_fits m pc d (value_of m d.cells d.memory (term_of e)) _ f
    (λ v is. refit m d.cells _ d.saved f (fit-put m d.cells c v s.0 (small m d.cells d.memory e _ v f.widths f.fit s.1 is) f.fit))
acted_fits m pc (SetSlice c lo hi e) d s f =
    result_fits m pc d (value_of m d.cells d.memory (term_of e)) _ f
    (λ v is.
    let fits = with_bits_lt lo hi (slice_index m.widths c) (slice_index d.cells c) v s.1 s.2 (f.fit.each c s.0) (small m d.cells d.memory e (hi + 1 - lo) v f.widths f.fit s.3 is) in
    refit m d.cells _ d.saved f (fit-put m d.cells c (with_bits lo hi (slice_index d.cells c) v) s.0 fits f.fit))
acted_fits m pc (Store n a e) d s f =
    result_fits m pc d (value_of m d.cells d.memory (term_of a)) _ f
    (λ at is. result_fits m pc d (value_of m d.cells d.memory (term_of e)) _ f (λ v is_e. result_fits m pc d (stored m.order m.align d.memory n at v) _ f (λ mem done. f)))
acted_fits m pc (Jump e) d s f = result_fits m pc d (value_of m d.cells d.memory (term_of e)) _ f (λ v is. f)
acted_fits m pc Annul d s f = f
acted_fits m pc (TrapWith e) d s f = result_fits m pc d (value_of m d.cells d.memory (term_of e)) _ f (λ v is. f)
acted_fits m pc Service d s f = f
acted_fits m pc WinSave d s f = saving_fits m d f m.windows refl
acted_fits m pc WinRestore d s f = restoring_fits m d f m.windows d.saved refl refl

-- behind a transfer, done or not, all fits
pub transferred_fits : (m : Machine) (pc : ℕ) (guard : Option Expr) (act : Act) (d : Doing) → IsSoundAct m act → Fits m d.cells d.saved → FitsRan m (transferred m pc guard act d)
transferred_fits m pc None act d s f = acted_fits m pc act d s f
transferred_fits m pc (Some guard) act d s f = result_fits m pc d (value_of m d.cells d.memory (term_of guard)) _ f (λ n is. by n)
  where
    by : (n : ℕ) → FitsRan m (choice n (acted m pc act d) (Went d))
    by zero = f
    by (suc n) = acted_fits m pc act d s f

went_fits : (m : Machine) (d : Doing) (r : Ran) → r ≡ Went d → FitsRan m r → Fits m d.cells d.saved
went_fits m d (Went new) is h = let same : new ≡ d = cc in subst (λ x. Fits m x.cells x.saved) same h
went_fits m d (Halted stop new) is h = let no : ⊥ = cc in absurd no

halted_fits : (m : Machine) (d : Doing) (stop : Stop) (r : Ran) → r ≡ Halted stop d → FitsRan m r → Fits m d.cells d.saved
halted_fits m d stop (Went new) is h = let no : ⊥ = cc in absurd no
halted_fits m d stop (Halted s new) is h = let same : new ≡ d = cc in subst (λ x. Fits m x.cells x.saved) same h

-- ---- transfers in order

module _ (m : Machine) (pc : ℕ) (t : Transfer) (d new : Doing) (sound : IsSoundTransfer m t) (fits : Fits m d.cells d.saved) where
  -- all fits behind a transfer that went on
  pub fits_behind : transferred m pc t.guard t.act d ≡ Went new → Fits m new.cells new.saved
  fits_behind is = went_fits m new (transferred m pc t.guard t.act d) is (transferred_fits m pc t.guard t.act d sound.act fits)

  -- and behind one that stopped
  pub fits_at_stop : (stop : Stop) → transferred m pc t.guard t.act d ≡ Halted stop new → Fits m new.cells new.saved
  fits_at_stop stop is = halted_fits m new stop (transferred m pc t.guard t.act d) is (transferred_fits m pc t.guard t.act d sound.act fits)

-- one more is done
pub more_done : (m : Machine) (pc : ℕ) (ts : List Transfer) (i : ℕ) (t : Transfer) (d new : Doing) → i < length ts → t ≡ get_or ts i t → transferred m pc t.guard t.act d ≡ Went new
    → all_transferred m pc (drop (i + 1) ts) new ≡ all_transferred m pc (drop i ts) d
more_done m pc ts i t d new h is went =
    ap (λ k. all_transferred m pc (drop k ts) new) (add-one i)
    ∙ sym (ap (λ r. then_on r (all_transferred m pc (drop (suc i) ts))) went)
    ∙ ap (λ u. all_transferred m pc (u ∷ drop (suc i) ts) d) is
    ∙ sym (ap (λ us. all_transferred m pc us d) (drop-cons ts i t h))

-- the next one stops
pub stopped_at : (m : Machine) (pc : ℕ) (ts : List Transfer) (i : ℕ) (t : Transfer) (d new : Doing) (stop : Stop) → i < length ts → t ≡ get_or ts i t → transferred m pc t.guard t.act d ≡ Halted stop new
    → Halted stop new ≡ all_transferred m pc (drop i ts) d
stopped_at m pc ts i t d new stop h is halted =
    sym (ap (λ r. then_on r (all_transferred m pc (drop (suc i) ts))) halted)
    ∙ ap (λ u. all_transferred m pc (u ∷ drop (suc i) ts) d) is
    ∙ sym (ap (λ us. all_transferred m pc us d) (drop-cons ts i t h))

-- all are done
pub all_done : (m : Machine) (pc : ℕ) (ts : List Transfer) (i : ℕ) (d : Doing) → length ts ≤ i → Went d ≡ all_transferred m pc (drop i ts) d
all_done m pc [] zero d h = refl
all_done m pc [] (suc i) d h = refl
all_done m pc (t ∷ ts) zero d h = absurd (omega arith)
all_done m pc (t ∷ ts) (suc i) d h = all_done m pc ts i d (omega arith)
