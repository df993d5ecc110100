-- What the transfers of an instruction leave alone: each cell that they do not assign.
use Rattle.std.proofs.Common.{◌≡◌, ◌≢◌, ℕ, zero, suc, ◌+◌, ◌-◌, ◌<◌, ◌≤◌, Bool, true, false, List, [], ◌∷◌, ◌++◌, length, Option, Some, None, Result, Ok, Err, refl, sym, ap, ◌∙◌, subst, arith, nat_eq}
use Rattle.std.specs.Prelude.{slice_index, slice_set, take, drop, replicate, if◌then◌else◌}
use Rattle.std.specs.List.{Contains}
use Rattle.std.proofs.lemmas.List.{get_or-set_other, length-append, length-take-le, length-drop, length-replicate}
use Rattle.std.proofs.lemmas.List.Elements.{Contains-append_left, Contains-append_right}
use Rattle.rtl_core.specs.declared.conv.Conv.{Conv}
use Rattle.rtl_core.specs.declared.expr.Expr.{Expr}
use Rattle.rtl_core.specs.declared.machine.Machine.{Machine}
use Rattle.rtl_core.specs.declared.machine.WinShape.{WinShape}
use Rattle.rtl_core.specs.declared.stop.Stop.{Stop}
use Rattle.rtl_core.specs.declared.stop.Trap.{Trap}
use Rattle.rtl_core.specs.declared.transfer.Act.{Act}
use Rattle.rtl_core.specs.declared.transfer.Act.TheVariants.{SetCell, SetSlice, Store, Jump, Annul, Trap as TrapWith, Service, WinSave, WinRestore}
use Rattle.rtl_core.specs.declared.transfer.Transfer.{Transfer}
use Rattle.rtl_core.specs.Access.{stored}
use Rattle.rtl_core.specs.Terms.{term_of}
use Rattle.rtl_core.specs.Transfers.{Doing, Ran, Went, Halted, with_result, with_value, put_cell, saving, restoring, acted, transferred, then_on, all_transferred}
use Rattle.rtl_core.specs.Value.{value_of, choice}
use Rattle.rtl_core.specs.Windows.{cells_from, put_cells, entered, window_of, left, most_windows}
use Rattle.c_lower.specs.Contract.{AreWindows}
use Rattle.points.specs.Summaries.{cells_in_row, window_cells, act_assigns, transfers_assign}
use Rattle.c_control.proofs.Naming.{first-in, row-in}

-- the saved windows have the words of a window
abbrev pub HaveLengths : Option WinShape → List (List ℕ) → Type 0
HaveLengths None saved = Unit {0}
HaveLengths (Some w) [] = Unit {0}
HaveLengths (Some w) (kept ∷ older) = (length kept ≡ w.count + w.count) × HaveLengths (Some w) older

pub have-lengths : (o : Option WinShape) (saved : List (List ℕ)) → AreWindows o saved → HaveLengths o saved
have-lengths None saved h = tt
have-lengths (Some w) [] h = tt
have-lengths (Some w) (kept ∷ older) h = (h.0, have-lengths (Some w) older h.2)

from-length : (first n : ℕ) (cells : List ℕ) → length (cells_from first n cells) ≡ n
from-length first zero cells = refl
from-length first (suc n) cells = ap suc (from-length (first + 1) n cells)

put-other : (first : ℕ) (vs cells : List ℕ) (c : ℕ) → ((k : ℕ) → first ≤ k → k < first + length vs → c ≢ k) → slice_index (put_cells first vs cells) c ≡ slice_index cells c
put-other first [] cells c h = refl
put-other first (v ∷ vs) cells c h =
    put-other (first + 1) vs (slice_set cells first v) c (λ k le lt. h k (omega (arith, le)) (omega (arith, lt)))
    ∙ get_or-set_other cells first c v 0 (h first (omega arith) (omega arith))

module _ (m : Machine) (conv : Conv) (pc c : ℕ) where
  -- where the run went on, the cell is as before
  abbrev pub Stays : ℕ → Ran → Type 0
  Stays x (Went d) = (slice_index d.cells c ≡ x) × HaveLengths m.windows d.saved
  Stays x (Halted stop d) = Unit {0}

  apart : (first n : ℕ) → (Contains (cells_in_row first n) c → ⊥) → (vs : List ℕ) → length vs ≡ n → (k : ℕ) → first ≤ k → k < first + length vs → c ≢ k
  apart first n h vs e k le lt same = h (subst (λ j. Contains (cells_in_row first n) j) (sym same) (row-in first n k le (omega (arith, lt, e))))

  put-cell : (d : ℕ) (v : ℕ) (cells : List ℕ) → c ≢ d → slice_index (put_cell m.zero d v cells) c ≡ slice_index cells c
  put-cell d v cells ne = by m.zero
    where
      if-put : (b : Bool) → slice_index (if b then cells else slice_set cells d v) c ≡ slice_index cells c
      if-put true = refl
      if-put false = get_or-set_other cells d c v 0 ne

      by : (o : Option ℕ) → slice_index (put_cell o d v cells) c ≡ slice_index cells c
      by None = get_or-set_other cells d c v 0 ne
      by (Some z) = if-put (nat_eq d z)

  result-stays : {A : Type 0} (x : ℕ) (d : Doing) (r : Result A Trap) (go : A → Ran) → ((v : A) → Stays x (go v)) → Stays x (with_result pc d r go)
  result-stays x d (Ok v) go h = h v
  result-stays x d (Err trap) go h = tt

  value-stays : (x : ℕ) (d : Doing) (e : Expr) (go : ℕ → Ran) → ((v : ℕ) → Stays x (go v)) → Stays x (with_value m pc d e go)
  value-stays x d e go h = result-stays x d (value_of m d.cells d.memory (term_of e)) go h

  module _ (w : WinShape) (h : Contains (window_cells (Some w)) c → ⊥) where
    abbrev outs : List ℕ
    outs = cells_in_row w.out_first w.count

    abbrev locals : List ℕ
    locals = cells_in_row w.local_first w.count

    abbrev ins : List ℕ
    ins = cells_in_row w.in_first w.count

    not-out : Contains outs c → ⊥
    not-out i = h (Contains-append_left outs (locals ++ ins) c i)

    not-local : Contains locals c → ⊥
    not-local i = h (Contains-append_right outs (locals ++ ins) c (Contains-append_left locals ins c i))

    not-in : Contains ins c → ⊥
    not-in i = h (Contains-append_right outs (locals ++ ins) c (Contains-append_right locals ins c i))

    entered-stays : (cells : List ℕ) → slice_index (entered w cells) c ≡ slice_index cells c
    entered-stays cells =
        let zeros = replicate w.count 0 in
        let new = cells_from w.out_first w.count cells in
        put-other w.out_first zeros (put_cells w.local_first zeros (put_cells w.in_first new cells)) c (apart w.out_first w.count not-out zeros (length-replicate w.count 0))
        ∙ put-other w.local_first zeros (put_cells w.in_first new cells) c (apart w.local_first w.count not-local zeros (length-replicate w.count 0))
        ∙ put-other w.in_first new cells c (apart w.in_first w.count not-in new (from-length w.out_first w.count cells))

    left-stays : (kept cells : List ℕ) → length kept ≡ w.count + w.count → slice_index (left w kept cells) c ≡ slice_index cells c
    left-stays kept cells e =
        let back = drop w.count kept in
        let local = take w.count kept in
        let new = cells_from w.in_first w.count cells in
        let half : length kept - w.count ≡ w.count = omega (arith, e) in
        let enough : w.count ≤ length kept = omega (arith, e) in
        let size-back : length back ≡ w.count = length-drop w.count kept ∙ half in
        let size-local : length local ≡ w.count = length-take-le w.count kept enough in
        put-other w.in_first back (put_cells w.local_first local (put_cells w.out_first new cells)) c (apart w.in_first w.count not-in back size-back)
        ∙ put-other w.local_first local (put_cells w.out_first new cells) c (apart w.local_first w.count not-local local size-local)
        ∙ put-other w.out_first new cells c (apart w.out_first w.count not-out new (from-length w.in_first w.count cells))

  saving-stays : (o : Option WinShape) → m.windows ≡ o → (Contains (window_cells o) c → ⊥) → (d : Doing) → HaveLengths m.windows d.saved → Stays (slice_index d.cells c) (saving o d)
  saving-stays None e h d sizes = (refl, sizes)
  saving-stays (Some w) e h d sizes = by (nat_eq (length d.saved) most_windows)
    where
      by : (b : Bool) → Stays (slice_index d.cells c) (if b then Halted Stop.WindowFull d else Went (record d { cells = entered w d.cells; saved = window_of w d.cells ∷ d.saved }))
      by true = tt
      by false =
          let ls = cells_from w.local_first w.count d.cells in
          let size = length-append ls (cells_from w.in_first w.count d.cells) ∙ ap (λ k. k + length (cells_from w.in_first w.count d.cells)) (from-length w.local_first w.count d.cells)
          ∙ ap (λ k. w.count + k) (from-length w.in_first w.count d.cells) in
          (entered-stays w h d.cells, subst (λ o. HaveLengths o (window_of w d.cells ∷ d.saved)) (sym e) (size, subst (λ o. HaveLengths o d.saved) e sizes))

  restoring-stays : (o : Option WinShape) → m.windows ≡ o → (Contains (window_cells o) c → ⊥) → (saved : List (List ℕ)) (d : Doing) → HaveLengths m.windows saved → HaveLengths m.windows d.saved → Stays (slice_index d.cells c) (restoring o saved d)
  restoring-stays None e h saved d sizes whole = (refl, whole)
  restoring-stays (Some w) e h [] d sizes whole = tt
  restoring-stays (Some w) e h (kept ∷ older) d sizes whole =
      let parts = subst (λ o. HaveLengths o (kept ∷ older)) e sizes in (left-stays w h kept d.cells parts.0, subst (λ o. HaveLengths o older) (sym e) parts.1)

  acted-stays : (act : Act) (d : Doing) → (Contains (act_assigns m conv act) c → ⊥) → HaveLengths m.windows d.saved → Stays (slice_index d.cells c) (acted m pc act d)
  acted-stays (SetCell k e) d h sizes = value-stays (slice_index d.cells c) d e _ (λ v. (put-cell k _ d.cells (λ same. h (subst (λ j. Contains (k ∷ []) j) (sym same) (first-in k []))), sizes))
  acted-stays (SetSlice k lo hi e) d h sizes = value-stays (slice_index d.cells c) d e _ (λ v. (put-cell k _ d.cells (λ same. h (subst (λ j. Contains (k ∷ []) j) (sym same) (first-in k []))), sizes))
  acted-stays (Store n a e) d h sizes =
      value-stays (slice_index d.cells c) d a _ (λ at. value-stays (slice_index d.cells c) d e _ (λ v. result-stays (slice_index d.cells c) d (stored m.order m.align d.memory n at v) _ (λ mem. (refl, sizes))))
  acted-stays (Jump e) d h sizes = value-stays (slice_index d.cells c) d e _ (λ v. (refl, sizes))
  acted-stays Annul d h sizes = (refl, sizes)
  acted-stays (TrapWith e) d h sizes = value-stays (slice_index d.cells c) d e _ (λ v. tt)
  acted-stays Service d h sizes = (refl, sizes)
  acted-stays WinSave d h sizes = saving-stays m.windows refl h d sizes
  acted-stays WinRestore d h sizes = restoring-stays m.windows refl h d.saved d sizes sizes

  transferred-stays : (o : Option Expr) (act : Act) (d : Doing) → (Contains (act_assigns m conv act) c → ⊥) → HaveLengths m.windows d.saved → Stays (slice_index d.cells c) (transferred m pc o act d)
  transferred-stays None act d h sizes = acted-stays act d h sizes
  transferred-stays (Some guard) act d h sizes = value-stays (slice_index d.cells c) d guard _ (λ n. by n)
    where
      by : (n : ℕ) → Stays (slice_index d.cells c) (choice n (acted m pc act d) (Went d))
      by zero = (refl, sizes)
      by (suc n) = acted-stays act d h sizes

  pub all-stay : (ts : List Transfer) (d : Doing) → (Contains (transfers_assign m conv ts) c → ⊥) → HaveLengths m.windows d.saved → Stays (slice_index d.cells c) (all_transferred m pc ts d)
  all-stay [] d h sizes = (refl, sizes)
  all-stay (t ∷ ts) d h sizes =
      let first = act_assigns m conv t.act in
      let later = transfers_assign m conv ts in
      behind (transferred m pc t.guard t.act d) (transferred-stays t.guard t.act d (λ i. h (Contains-append_left first later c i)) sizes) (λ d' s. all-stay ts d' (λ i. h (Contains-append_right first later c i)) s)
    where
      behind : (r : Ran) → Stays (slice_index d.cells c) r → ((d' : Doing) → HaveLengths m.windows d'.saved → Stays (slice_index d'.cells c) (all_transferred m pc ts d'))
          → Stays (slice_index d.cells c) (then_on r (all_transferred m pc ts))
      behind (Halted stop d') k go = tt
      behind (Went d') k go = at (all_transferred m pc ts d') (go d' k.1)
        where
          at : (r : Ran) → Stays (slice_index d'.cells c) r → Stays (slice_index d.cells c) r
          at (Halted stop e) s = tt
          at (Went e) s = (s.0 ∙ k.0, s.1)
