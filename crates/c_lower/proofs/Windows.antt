-- The statements of window moves move the windows.
use Rattle.std.proofs.Common.{◌≡◌, ◌≢◌, ℕ, zero, suc, ◌+◌, ◌-◌, ◌*◌, ◌^◌, ◌<◌, ◌≤◌, ◌==◌, Bool, true, false, if◌then◌else◌, Option, Some, None, List, [], ◌∷◌, ◌++◌, length, take, drop, replicate, refl, sym, ap, ◌∙◌, subst, arith, ⊎_elim, inl, inr}
use Rattle.std.specs.Prelude.{slice_index, slice_set}
use Rattle.std.proofs.lemmas.List.{get_or-take, get_or-drop, get_or_append_left, get_or-append-add, length-append, length-take, length-drop}
use Rattle.std.proofs.lemmas.Bool.{eq-eqb, ne_eqb, eqb-false, cases_lt}
use Rattle.std.proofs.Math.Nat.{mod-eq_of_lt}
use Rattle.lockstep.specs.Runs.{Goes, Ends, Stops}
use Rattle.rtl_core.specs.declared.machine.Machine.{Machine}
use Rattle.rtl_core.specs.declared.machine.WinShape.{WinShape}
use Rattle.rtl_core.specs.declared.stop.Stop.TheVariants as Stop
use Rattle.rtl_core.specs.Arithmetic.{flag}
use Rattle.rtl_core.specs.Transfers.{Doing, Ran, Went, Halted, saving, restoring}
use Rattle.rtl_core.specs.Windows.{cells_from, put_cells, entered, window_of, left, most_windows}
use Rattle.c_lang.specs.declared.tree.COp.TheVariants.{Eq as Same, Add as Plus, Sub as Minus}
use Rattle.c_lang.specs.declared.tree.CExpr.TheVariants.{Num, Of, Bin as Op}
use Rattle.c_lang.specs.declared.tree.End.{End}
use Rattle.c_lang.specs.declared.tree.Program.{Program}
use Rattle.c_lang.specs.declared.tree.Stmt.{Stmt}
use Rattle.c_lang.specs.declared.tree.Stmt.TheVariants.{Set, Stop as StopWith}
use Rattle.c_lang.specs.declared.tree.Var.TheVariants.{Cell as CellVar, Wn}
use Rattle.c_lang.specs.Value.{Vars}
use Rattle.c_lang.specs.State.{State, CNext}
use Rattle.c_lang.proofs.ValueLaws.{value-Of}
use Rattle.c_lower.specs.Accounts.{many, save_steps, restore_steps}
use Rattle.c_lower.specs.Contract.{AreWords, AreWindows}
use Rattle.c_lower.specs.Lowered.{word_place, pushed, popped, moved, cleared, save_code, restore_code}
use Rattle.c_lower.specs.Naming.{is_nameable, GroupOnly, WindowOnly}
use Rattle.rtl_core.specs.SoundMachine.{AreApart, AreWindowCells, AreSoundWindows, HaveSoundWindows}
use Rattle.c_lower.proofs.Agreement.{Agrees, nameable_named, set_other, agrees_cell, agrees_saved, agrees_words}
use Rattle.c_lower.proofs.Frames.{named_is}
use Rattle.c_lower.proofs.Numbers.{minus_word}
use Rattle.c_lower.proofs.Operators.{Is, that, num, same, plus, minus, times}
use Rattle.c_lower.proofs.Steps.{Mid, sees, set, with_word, here, has, Run, run_set, run_take, run_put, run_if, run_stop}

-- ---- lists of cells
from_length : (first n : ℕ) (cells : List ℕ) → length (cells_from first n cells) ≡ n
from_length first zero cells = refl
from_length first (suc n) cells = ap suc (from_length (first + 1) n cells)

from_index : (first n : ℕ) (cells : List ℕ) (i : ℕ) → i < n
    → slice_index cells (first + i) ≡ slice_index (cells_from first n cells) i
from_index first zero cells i lt = absurd (omega arith)
from_index first (suc n) cells zero lt = let e : first + 0 ≡ first = omega arith in ap (λ k. slice_index cells k) e
from_index first (suc n) cells (suc i) lt =
    let e : first + suc i ≡ first + 1 + i = omega arith in
    ap (λ k. slice_index cells k) e ∙ from_index (first + 1) n cells i (omega arith)

shifted : (vs : List ℕ) (v first n : ℕ) (cells : List ℕ)
    → ((i : ℕ) → i < suc n → slice_index cells (first + i) ≡ slice_index (v ∷ vs) i) → (i : ℕ) → i < n
    → slice_index cells (first + 1 + i) ≡ slice_index vs i
shifted vs v first n cells h i lt =
    let e : first + 1 + i ≡ first + suc i = omega arith in ap (λ k. slice_index cells k) e ∙ h (suc i) (omega arith)

first_of_same : (vs : List ℕ) (v first n : ℕ) (cells : List ℕ)
    → ((i : ℕ) → i < suc n → slice_index cells (first + i) ≡ slice_index (v ∷ vs) i) → slice_index cells first ≡ v
first_of_same vs v first n cells h =
    let e : first ≡ first + 0 = omega arith in ap (λ k. slice_index cells k) e ∙ h 0 (omega arith)

-- a number in each half is one in the whole
both_halves : (P : ℕ → Type 0) (lo ins : List ℕ) (n : ℕ) → length lo ≡ n → ((i : ℕ) → i < n → P (slice_index lo i))
    → ((i : ℕ) → i < n → P (slice_index ins i)) → (i : ℕ) → i < n + n → P (slice_index (lo ++ ins) i)
both_halves P lo ins n ll f g i lt =
    ⊎_elim
    (λ l. let c : i < length lo = omega arith in subst P (sym (get_or_append_left lo ins 0 i c)) (f i l))
    (λ r. let e : length lo + (i - n) ≡ i = omega arith in let b : i - n < n = omega arith in
    subst (λ q. P (slice_index (lo ++ ins) q)) e (subst P (sym (get_or-append-add lo ins (i - n) 0)) (g (i - n) b)))
    (cases_lt i n)

-- the words of two halves are those of the whole
whole_words : (at n : ℕ) (words words1 words2 : ℕ → ℕ) (lo ins : List ℕ) → length lo ≡ n →
    ((j : ℕ) → j < n → words1 (at + (0 + j)) ≡ slice_index lo j)
    → ((j : ℕ) → j < n → words2 (at + (n + j)) ≡ slice_index ins j) → ((j : ℕ) → j < at + n → words2 j ≡ words1 j) →
    (i : ℕ) → i < n + n → words2 (at + i) ≡ slice_index (lo ++ ins) i
whole_words at n words words1 words2 lo ins ll first second old i lt =
    ⊎_elim
    (λ l. let b : at + i < at + n = omega arith in let e : at + i ≡ at + (0 + i) = omega arith in
    let c : i < length lo = omega arith in
    old (at + i) b ∙ ap words1 e ∙ first i l ∙ sym (get_or_append_left lo ins 0 i c))
    (λ r. let e : n + (i - n) ≡ i = omega arith in let f : length lo + (i - n) ≡ i = omega arith in
    let b : i - n < n = omega arith in
    ap (λ q. words2 (at + q)) (sym e) ∙ second (i - n) b ∙ sym (get_or-append-add lo ins (i - n) 0)
    ∙ ap (slice_index (lo ++ ins)) f)
    (cases_lt i n)

-- n named cells of 32 bits from the first on
pub record ArePlain (m : Machine) (named : ℕ → Bool) (first n : ℕ) : Type 0 where
  pub name : (c : ℕ) → first ≤ c → c < first + n → named c ≡ true
  pub inside : (c : ℕ) → first ≤ c → c < first + n → c < length m.widths
  pub words : (c : ℕ) → first ≤ c → c < first + n → slice_index m.widths c ≡ 32

pub plain_group : (m : Machine) (named : ℕ → Bool) (first n : ℕ) → AreWindowCells m first n
    → GroupOnly (is_nameable m.zero named) first n → ArePlain m named first n
plain_group m named first n g o = record {
  name =
      λ c a b. nameable_named m.zero named c (o.each c a b)
      (subst (λ d. m.zero ≢ Some d) (at c a) (g (c - first) (omega arith)).2);
  inside = λ c a b. subst (λ d. d < length m.widths) (at c a) (g (c - first) (omega arith)).0;
  words = λ c a b. subst (λ d. slice_index m.widths d ≡ 32) (at c a) (g (c - first) (omega arith)).1;
}
  where
    at : (c : ℕ) → first ≤ c → first + (c - first) ≡ c
    at c a = omega arith

pub plain_more : (m : Machine) (named : ℕ → Bool) (first n : ℕ) → ArePlain m named first (suc n)
    → ArePlain m named (first + 1) n
plain_more m named first n g =
    record {
      name = λ c a b. g.name c (omega arith) (omega arith);
      inside = λ c a b. g.inside c (omega arith) (omega arith);
      words = λ c a b. g.words c (omega arith) (omega arith);
    }

-- words behind the saved windows are free
words_put : (o : Option WinShape) (at x : ℕ) (words : ℕ → ℕ) (saved : List (List ℕ)) (w : WinShape) → o ≡ Some w
    → w.count ≤ 8 → length saved * 16 ≤ at → AreWindows o saved → AreWords words saved
    → AreWords (λ j. if at == j then x else words j) saved
words_put o at x words [] w e small free h a = tt
words_put o at x words (v ∷ older) w e small free h a =
    let s = subst (λ o. AreWindows o (v ∷ older)) e h in (
      (λ i lt. let size = s.0 in let ne : at ≢ length older * 16 + i = λ same. absurd (omega arith) in
          ap (λ t. if t then x else words (length older * 16 + i)) (ne_eqb at (length older * 16 + i) ne) ∙ a.0 i lt),
      words_put o at x words older w e small (omega arith) (subst (λ o. AreWindows o older) (sym e) s.2) a.1,
    )

pushed_at : (n i v : ℕ) (vs : List ℕ) (at : ℕ) (words words2 : ℕ → ℕ)
    → ((j : ℕ) → j < n → words2 (at + (i + 1 + j)) ≡ slice_index vs j)
    → ((j : ℕ) → j < at + (i + 1) → words2 j ≡ (if at + i == j then v else words j))
    → (j : ℕ) → j < suc n → words2 (at + (i + j)) ≡ slice_index (v ∷ vs) j
pushed_at n i v vs at words words2 new old zero lt =
    let e : at + (i + 0) ≡ at + i = omega arith in let b : at + i < at + (i + 1) = omega arith in
    ap words2 e ∙ old (at + i) b ∙ ap (λ t. if t then v else words (at + i)) (eq-eqb (at + i) (at + i) refl)
pushed_at n i v vs at words words2 new old (suc j) lt =
    let e : at + (i + suc j) ≡ at + (i + 1 + j) = omega arith in ap words2 e ∙ new j (omega arith)

-- the place of a word
word_is : (mid : Mid) (depth i : ℕ) → mid.globals Wn ≡ Some depth → depth ≤ most_windows → i < 16
    → Is (sees mid) (word_place i) (depth * 16 + i)
word_is mid depth i h deep lt =
    let env = sees mid in
    let wn : Is env (Of Wn) depth = record { is = value-Of env Wn ∙ h } in
    let big : depth * 16 < 2 ^ 64 = omega arith in let big2 : depth * 16 + i < 2 ^ 64 = omega arith in
    that (plus env (that (times env wn (num env 16)) (mod-eq_of_lt big)) (num env i)) (mod-eq_of_lt big2)

many_pos : (k n : ℕ) → 1 ≤ n → 1 ≤ many k n
many_pos zero n h = h
many_pos (suc k) n h = omega arith

module _ (m : Machine) (named : ℕ → Bool) (never_zero : (c : ℕ) → m.zero ≡ Some c → named c ≡ false) (p : Program)
    (base : State) (end : End)
    (has_cells : (c : ℕ) → named c ≡ true → has p base end (CellVar c) ≡ true) (has_count : has p base end Wn ≡ true)
    (Q : CNext → Type 0) where
  abbrev At : ℕ → List Stmt → Mid → Type 0
  At n rest mid = Run p base end Q n (Goes (here p base end rest mid))

  abbrev pub Behind : ℕ → List Stmt → Ran → Type 0
  Behind n rest (Halted stop d) = Q (Ends base.outer.output (Stops stop))
  Behind n rest (Went d) =
      (mid : Mid) → Agrees m named base d mid → Run p base end Q n (Goes (here p base end rest mid))

  abbrev Ag : Doing → Mid → Type 0
  Ag d mid = Agrees m named base d mid

  moved_run : (n from to : ℕ) (vs : List ℕ) (d : Doing) (mid : Mid) (k : ℕ) (rest : List Stmt) → length vs ≡ n
      → ((i : ℕ) → i < n → slice_index d.cells (from + i) ≡ slice_index vs i) →
      ArePlain m named from n → ArePlain m named to n → AreApart n from to → Ag d mid →
      ((new : Vars) → Ag (record d { cells = put_cells to vs d.cells }) (record mid { vars = new })
      → At k rest (record mid { vars = new })) → At (many n k) (moved from to n rest) mid
  moved_run zero from to [] d mid k rest len same pf pt apart a go = go mid.vars a
  moved_run zero from to (v ∷ vs) d mid k rest len same pf pt apart a go = absurd (omega arith)
  moved_run (suc n) from to [] d mid k rest len same pf pt apart a go = absurd (omega arith)
  moved_run (suc n) from to (v ∷ vs) d mid k rest len same pf pt apart a go =
      let fn = pf.name from (omega arith) (omega arith) in let fi = pf.inside from (omega arith) (omega arith) in
      let fw = pf.words from (omega arith) (omega arith) in
      let tn = pt.name to (omega arith) (omega arith) in let ti = pt.inside to (omega arith) (omega arith) in
      let tw = pt.words to (omega arith) (omega arith) in
      let is : slice_index d.cells from ≡ v = first_of_same vs v from n d.cells same in
      let fit = a.fit in
      let small : v < 2 ^ slice_index m.widths to = subst (λ w. v < 2 ^ w) (sym tw)
      (subst (λ w. v < 2 ^ w) fw (subst (λ u. u < 2 ^ slice_index m.widths from) is (fit.each from fi))) in
      run_set p base end Q (many n k) (CellVar to) (Of (CellVar from)) v (moved (from + 1) (to + 1) n rest) mid
      (has_cells to tn) (that (named_is named d.cells from mid fn a.shows) is)
      (moved_run n (from + 1) (to + 1) vs (record d { cells = slice_set d.cells to v }) (set mid (CellVar to) v) k rest
      (omega arith)
      (λ i lt. set_other d.cells to v (from + 1 + i) (λ e. absurd (⊎_elim (λ l. omega arith) (λ r. omega arith) apart))
      ∙ shifted vs v from n d.cells same i lt)
      (plain_more m named from n pf) (plain_more m named to n pt)
      (⊎_elim (λ l. inl (omega arith)) (λ r. inr (omega arith)) apart)
      (agrees_cell m named base never_zero d mid to v tn ti small a) go)

  cleared_run : (n first : ℕ) (d : Doing) (mid : Mid) (k : ℕ) (rest : List Stmt) → ArePlain m named first n → Ag d mid →
      ((new : Vars) → Ag (record d { cells = put_cells first (replicate n 0) d.cells }) (record mid { vars = new })
      → At k rest (record mid { vars = new })) → At (many n k) (cleared first n rest) mid
  cleared_run zero first d mid k rest pl a go = go mid.vars a
  cleared_run (suc n) first d mid k rest pl a go =
      let cn = pl.name first (omega arith) (omega arith) in let ci = pl.inside first (omega arith) (omega arith) in
      let cw = pl.words first (omega arith) (omega arith) in
      let small : 0 < 2 ^ slice_index m.widths first = subst (λ w. 0 < 2 ^ w) (sym cw) (omega arith) in
      run_set p base end Q (many n k) (CellVar first) (Num 0) 0 (cleared (first + 1) n rest) mid (has_cells first cn)
      (num (sees mid) 0)
      (cleared_run n (first + 1) (record d { cells = slice_set d.cells first 0 }) (set mid (CellVar first) 0) k rest
      (plain_more m named first n pl)
      (agrees_cell m named base never_zero d mid first 0 cn ci small a) go)

  popped_run : (n i first : ℕ) (vs : List ℕ) (d : Doing) (mid : Mid) (k : ℕ) (rest : List Stmt) → length vs ≡ n
      → i + n ≤ 16 → length d.saved < most_windows →
      ((j : ℕ) → j < n → mid.words (length d.saved * 16 + (i + j)) ≡ slice_index vs j)
      → ((j : ℕ) → j < n → slice_index vs j < 2 ^ 32) → ArePlain m named first n → Ag d mid →
      ((new : Vars) → Ag (record d { cells = put_cells first vs d.cells }) (record mid { vars = new })
      → At k rest (record mid { vars = new })) → At (many n k) (popped i first n rest) mid
  popped_run zero i first [] d mid k rest len room deep same small pl a go = go mid.vars a
  popped_run zero i first (v ∷ vs) d mid k rest len room deep same small pl a go = absurd (omega arith)
  popped_run (suc n) i first [] d mid k rest len room deep same small pl a go = absurd (omega arith)
  popped_run (suc n) i first (v ∷ vs) d mid k rest len room deep same small pl a go =
      let cn = pl.name first (omega arith) (omega arith) in let ci = pl.inside first (omega arith) (omega arith) in
      let cw = pl.words first (omega arith) (omega arith) in
      let at : i ≡ i + 0 = omega arith in
      let is : mid.words (length d.saved * 16 + i) ≡ v = ap (λ j. mid.words (length d.saved * 16 + j)) at
      ∙ same 0 (omega arith) in
      let fits : v < 2 ^ slice_index m.widths first = subst (λ w. v < 2 ^ w) (sym cw) (small 0 (omega arith)) in
      run_take p base end Q (many n k) (CellVar first) (word_place i) (length d.saved * 16 + i)
      (popped (i + 1) (first + 1) n rest) mid (has_cells first cn) (omega arith)
      (word_is mid (length d.saved) i a.count (omega arith) (omega arith))
      (subst (λ x. At (many n k) (popped (i + 1) (first + 1) n rest) (set mid (CellVar first) x)) (sym is)
      (popped_run n (i + 1) (first + 1) vs (record d { cells = slice_set d.cells first v })
      (set mid (CellVar first) v) k rest (omega arith) (omega arith) deep
      (λ j lt. let e : i + 1 + j ≡ i + suc j = omega arith in
      ap (λ q. mid.words (length d.saved * 16 + q)) e ∙ same (suc j) (omega arith))
      (λ j lt. small (suc j) (omega arith)) (plain_more m named first n pl)
      (agrees_cell m named base never_zero d mid first v cn ci fits a) go))

  pushed_run : (w : WinShape) (n i first : ℕ) (vs : List ℕ) (d : Doing) (mid : Mid) (k : ℕ) (rest : List Stmt)
      → m.windows ≡ Some w → w.count ≤ 8 → length vs ≡ n → i + n ≤ 16 → length d.saved < most_windows →
      ((j : ℕ) → j < n → slice_index d.cells (first + j) ≡ slice_index vs j) → ArePlain m named first n → Ag d mid →
      ((words2 : ℕ → ℕ) → Ag d (record mid { words = words2 })
      → ((j : ℕ) → j < n → words2 (length d.saved * 16 + (i + j)) ≡ slice_index vs j)
      → ((j : ℕ) → j < length d.saved * 16 + i → words2 j ≡ mid.words j)
      → At k rest (record mid { words = words2 })) →
      At (many n k) (pushed i first n rest) mid
  pushed_run w zero i first vs d mid k rest has8 few len room deep same pl a go =
      go mid.words a (λ j lt. absurd (omega arith)) (λ j lt. refl)
  pushed_run w (suc n) i first [] d mid k rest has8 few len room deep same pl a go = absurd (omega arith)
  pushed_run w (suc n) i first (v ∷ vs) d mid k rest has8 few len room deep same pl a go =
      let cn = pl.name first (omega arith) (omega arith) in
      let is : slice_index d.cells first ≡ v = first_of_same vs v first n d.cells same in
      let at = length d.saved * 16 + i in
      let mid1 = with_word p base end Q mid at v in
      run_put p base end Q (many n k) (word_place i) (Of (CellVar first)) at v (pushed (i + 1) (first + 1) n rest) mid
      (omega arith) (word_is mid (length d.saved) i a.count (omega arith) (omega arith))
      (that (named_is named d.cells first mid cn a.shows) is)
      (pushed_run w n (i + 1) (first + 1) vs d mid1 k rest has8 few (omega arith) (omega arith) deep
      (shifted vs v first n d.cells same) (plain_more m named first n pl)
      (agrees_words m named base d mid mid1.words
      (words_put m.windows at v mid.words d.saved w has8 few (omega arith) a.windows a.words) a)
      (λ words2 a2 new old. go words2 a2 (pushed_at n i v vs (length d.saved * 16) mid.words words2 new old)
      (λ j lt. let below : j < length d.saved * 16 + (i + 1) = omega arith in
      let ne : at ≢ j = λ e. absurd (omega arith) in
      old j below ∙ ap (λ t. if t then v else mid.words j) (ne_eqb at j ne))))

  from_small : (d : Doing) (mid : Mid) (first n : ℕ) → ArePlain m named first n → Ag d mid → (i : ℕ) → i < n
      → slice_index (cells_from first n d.cells) i < 2 ^ 32
  from_small d mid first n pl a i lt =
      let ci = pl.inside (first + i) (omega arith) (omega arith) in
      let cw = pl.words (first + i) (omega arith) (omega arith) in
      let fit = a.fit in
      subst (λ x. x < 2 ^ 32) (from_index first n d.cells i lt)
      (subst (λ w. slice_index d.cells (first + i) < 2 ^ w) cw (fit.each (first + i) ci))

  -- the number of saved windows
  count_is : (d : Doing) (mid : Mid) → Ag d mid → Is (sees mid) (Of Wn) (length d.saved)
  count_is d mid a = record { is = value-Of (sees mid) Wn ∙ a.count }

  module _ (w : WinShape) (has_windows : m.windows ≡ Some w) (sound : AreSoundWindows m w)
      (outs : ArePlain m named w.out_first w.count) (locals : ArePlain m named w.local_first w.count)
      (ins : ArePlain m named w.in_first w.count) where
    abbrev k : ℕ
    k = w.count

    abbrev full : Doing → Bool
    full d = length d.saved == most_windows

    save_full : (d : Doing) (mid : Mid) (n : ℕ) (rest : List Stmt) → full d ≡ true → Ag d mid
        → Q (Ends base.outer.output (Stops Stop.WindowFull)) → At (save_steps (Some w) n) (save_code (Some w) rest) mid
    save_full d mid n rest e a go =
        let env = sees mid in
        let l = many k (many k (suc (many k (many k (many k n))))) in
        run_if p base end Q l (Op Same (Of Wn) (Num most_windows)) 1 (StopWith 6 (Num 0) ∷ [])
        (pushed 0 w.local_first k
        (pushed k w.in_first k (Set Wn (Op Plus (Of Wn) (Num 1)) ∷ moved w.out_first w.in_first k
        (cleared w.local_first k (cleared w.out_first k rest))))) mid
        (that (same env (count_is d mid a) (num env most_windows)) (ap flag e))
        (stop_in l (many_pos k (many k (suc (many k (many k (many k n)))))
        (many_pos k (suc (many k (many k (many k n)))) (omega arith))) _)
      where
        stop_in : (l : ℕ) → 1 ≤ l → (later : List Stmt) → At l (StopWith 6 (Num 0) ∷ later) mid
        stop_in zero h later = absurd (omega arith)
        stop_in (suc l) h later =
            run_stop p base end Q l 6 (Num 0) 0 Stop.WindowFull later mid (omega arith) refl (num (sees mid) 0) go

    save_free : (d : Doing) (mid : Mid) (n : ℕ) (rest : List Stmt) → full d ≡ false → Ag d mid
        → ((mid2 : Mid) → Ag (record d { cells = entered w d.cells; saved = window_of w d.cells ∷ d.saved }) mid2
        → At n rest mid2)
        → At (save_steps (Some w) n) (save_code (Some w) rest) mid
    save_free d mid n rest e a go =
        let env = sees mid in
        let ne = eqb-false (length d.saved) most_windows e in
        let deep : length d.saved < most_windows = omega (arith, a.few) in
        let few = sound.few in
        let lo = cells_from w.local_first k d.cells in
        let up = cells_from w.in_first k d.cells in
        let out = cells_from w.out_first k d.cells in
        let ll = from_length w.local_first k d.cells in
        let lu = from_length w.in_first k d.cells in
        let s3 = cleared w.local_first k (cleared w.out_first k rest) in
        let s2 = moved w.out_first w.in_first k s3 in
        let s1 = pushed k w.in_first k (Set Wn (Op Plus (Of Wn) (Num 1)) ∷ s2) in
        run_if p base end Q (many k (many k (suc (many k (many k (many k n)))))) (Op Same (Of Wn) (Num most_windows)) 0
        (StopWith 6 (Num 0) ∷ []) (pushed 0 w.local_first k s1) mid
        (that (same env (count_is d mid a) (num env most_windows)) (ap flag e))
        (pushed_run w k 0 w.local_first lo d mid (many k (suc (many k (many k (many k n))))) s1 has_windows few ll
        (omega arith) deep (from_index w.local_first k d.cells) locals a
        (λ words1 a1 new1 old1. let mid1 = record mid { words = words1 } in
        pushed_run w k k w.in_first up d mid1 (suc (many k (many k (many k n))))
        (Set Wn (Op Plus (Of Wn) (Num 1)) ∷ s2) has_windows few lu (omega arith) deep
        (from_index w.in_first k d.cells) ins a1
        (λ words2 a2 new2 old2.
        let mid2 = record mid { words = words2 } in
        let deeper : length d.saved + 1 < 2 ^ 64 = omega arith in
        let one_more : length d.saved + 1 ≡ suc (length d.saved) = omega arith in
        let kept = lo ++ up in
        let size : length kept ≡ k + k = length-append lo up ∙ omega (arith, ll, lu) in
        let d1 = record d { saved = kept ∷ d.saved } in
        let small = both_halves (λ x. x < 2 ^ 32) lo up k ll (from_small d mid w.local_first k locals a)
        (from_small d mid w.in_first k ins a) in
        let whole = whole_words (length d.saved * 16) k mid.words words1 words2 lo up ll new1 new2 old2 in
        let windows = subst (λ o. AreWindows o (kept ∷ d.saved)) (sym has_windows) (
          size,
          (λ i lt. small i (subst (λ l. i < l) size lt)),
          subst (λ o. AreWindows o d.saved) has_windows a.windows,
        ) in
        let a3 = agrees_saved m named base d mid2 (kept ∷ d.saved) (omega arith)
        ((λ i lt. whole i (subst (λ l. i < l) size lt)), a2.words) windows a2 in
        let mid3 = set mid2 Wn (suc (length d.saved)) in
        run_set p base end Q (many k (many k (many k n))) Wn (Op Plus (Of Wn) (Num 1))
        (suc (length d.saved)) s2 mid2 has_count
        (that (plus (sees mid2) (count_is d mid2 a2) (num (sees mid2) 1)) (mod-eq_of_lt deeper ∙ one_more))
        (moved_run k w.out_first w.in_first out d1 mid3 (many k (many k n)) s3 (from_length w.out_first k d.cells)
        (from_index w.out_first k d.cells) outs ins sound.out_in a3
        (λ vars4 a4. cleared_run k w.local_first (record d1 { cells = put_cells w.in_first out d.cells })
        (record mid3 { vars = vars4 }) (many k n) (cleared w.out_first k rest) locals a4
        (λ vars5 a5. cleared_run k w.out_first
        (record d1 { cells = put_cells w.local_first (replicate k 0) (put_cells w.in_first out d.cells) })
        (record mid3 { vars = vars5 }) n rest outs a5
        (λ vars6 a6. go (record mid3 { vars = vars6 }) a6)))))))

    restore_none : (d : Doing) (mid : Mid) (n : ℕ) (rest : List Stmt) → d.saved ≡ [] → Ag d mid
        → Q (Ends base.outer.output (Stops Stop.WindowEmpty))
        → At (restore_steps (Some w) n) (restore_code (Some w) rest) mid
    restore_none d mid n rest e a go =
        let env = sees mid in
        let later = Set Wn (Op Minus (Of Wn) (Num 1)) ∷ moved w.in_first w.out_first k
        (popped 0 w.local_first k (popped k w.in_first k rest)) in
        run_if p base end Q (suc (many k (many k (many k n)))) (Op Same (Of Wn) (Num 0)) 1
        (StopWith 7 (Num 0) ∷ []) later mid
        (that (same env (count_is d mid a) (num env 0)) (ap (λ s. flag (length s == 0)) e))
        (run_stop p base end Q (many k (many k (many k n))) 7 (Num 0) 0 Stop.WindowEmpty later mid (omega arith) refl
        (num env 0) go)

    restore_some : (kept : List ℕ) (older : List (List ℕ)) (d : Doing) (mid : Mid) (n : ℕ) (rest : List Stmt)
        → d.saved ≡ kept ∷ older → Ag d mid
        → ((mid2 : Mid) → Ag (record d { cells = left w kept d.cells; saved = older }) mid2 → At n rest mid2)
        → At (restore_steps (Some w) n) (restore_code (Some w) rest) mid
    restore_some kept older d mid n rest e a go =
        let env = sees mid in
        let depth : Is env (Of Wn) (suc (length older)) = that (count_is d mid a) (ap length e) in
        let nonzero : suc (length older) ≢ 0 = omega arith in
        let deep : suc (length older) ≤ most_windows = subst (λ s. length s ≤ most_windows) e a.few in
        let words = subst (AreWords mid.words) e a.words in
        let windows = subst (λ s. AreWindows m.windows s) e a.windows in
        let shapes = subst (λ o. AreWindows o (kept ∷ older)) has_windows windows in
        let older_windows = subst (λ o. AreWindows o older) (sym has_windows) shapes.2 in
        let one_less : suc (length older) - 1 ≡ length older = omega arith in
        let few = sound.few in
        let size = shapes.0 in
        let out = cells_from w.in_first k d.cells in
        let lo = take k kept in
        let up = drop k kept in
        let ll : length lo ≡ k = omega (arith, length-take k kept, size) in
        let lu : length up ≡ k = omega (arith, length-drop k kept, size) in
        let s2 = popped k w.in_first k rest in
        let s1 = popped 0 w.local_first k s2 in
        let later = moved w.in_first w.out_first k s1 in
        let d1 = record d { saved = older } in
        let mid1 = set mid Wn (length older) in
        let a1 = agrees_saved m named base d mid older (omega arith) words.1 older_windows a in
        run_if p base end Q (suc (many k (many k (many k n)))) (Op Same (Of Wn) (Num 0)) 0 (StopWith 7 (Num 0) ∷ [])
        (Set Wn (Op Minus (Of Wn) (Num 1)) ∷ later) mid
        (that (same env depth (num env 0)) (ap flag (ne_eqb (suc (length older)) 0 nonzero)))
        (run_set p base end Q (many k (many k (many k n))) Wn (Op Minus (Of Wn) (Num 1))
        (length older) later mid has_count
        (that (minus env depth (num env 1))
        (minus_word (suc (length older)) 1 (2 ^ 64) (omega arith) (omega arith) ∙ one_less))
        (moved_run k w.in_first w.out_first out d1 mid1 (many k (many k n)) s1 (from_length w.in_first k d.cells)
        (from_index w.in_first k d.cells) ins outs (⊎_elim (λ l. inr l) (λ r. inl r) sound.out_in) a1
        (λ vars2 a2. popped_run k 0 w.local_first lo (record d1 { cells = put_cells w.out_first out d.cells })
        (record mid1 { vars = vars2 }) (many k n) s2 ll (omega arith) (omega arith)
        (λ j lt. let b : j < length kept = omega arith in
        let f : length older * 16 + (0 + j) ≡ length older * 16 + j = omega arith in
        ap mid.words f ∙ words.0 j b ∙ sym (get_or-take k kept j 0 lt))
        (λ j lt. let b : j < length kept = omega arith in
        subst (λ x. x < 2 ^ 32) (sym (get_or-take k kept j 0 lt)) (shapes.1 j b)) locals a2
        (λ vars3 a3. popped_run k k w.in_first up
        (record d1 { cells = put_cells w.local_first lo (put_cells w.out_first out d.cells) })
        (record mid1 { vars = vars3 }) n rest lu (omega arith) (omega arith)
        (λ j lt. let b : k + j < length kept = omega arith in words.0 (k + j) b ∙ sym (get_or-drop k kept j 0))
        (λ j lt. let b : k + j < length kept = omega arith in
        subst (λ x. x < 2 ^ 32) (sym (get_or-drop k kept j 0)) (shapes.1 (k + j) b)) ins a3
        (λ vars4 a4. go (record mid1 { vars = vars4 }) a4)))))

    save_by : (t : Bool) (d : Doing) (mid : Mid) (n : ℕ) (rest : List Stmt) → full d ≡ t → Ag d mid
        → Behind n rest (if t then Halted Stop.WindowFull d else Went
        (record d { cells = entered w d.cells; saved = window_of w d.cells ∷ d.saved }))
        → At (save_steps (Some w) n) (save_code (Some w) rest) mid
    save_by true d mid n rest e a go = save_full d mid n rest e a go
    save_by false d mid n rest e a go = save_free d mid n rest e a go

    restore_by : (saved : List (List ℕ)) (d : Doing) (mid : Mid) (n : ℕ) (rest : List Stmt) → d.saved ≡ saved → Ag d mid
        → Behind n rest (restoring (Some w) saved d) → At (restore_steps (Some w) n) (restore_code (Some w) rest) mid
    restore_by [] d mid n rest e a go = restore_none d mid n rest e a go
    restore_by (kept ∷ older) d mid n rest e a go = restore_some kept older d mid n rest e a go

  pub save_run : (o : Option WinShape) → m.windows ≡ o → HaveSoundWindows m o → WindowOnly (is_nameable m.zero named) o
      → (d : Doing) (mid : Mid) (n : ℕ) (rest : List Stmt) → Ag d mid → Behind n rest (saving o d)
      → At (save_steps o n) (save_code o rest) mid
  save_run None e sound only d mid n rest a go = go mid a
  save_run (Some w) e sound only d mid n rest a go =
      save_by w e (sound w refl) (plain_group m named w.out_first w.count (sound w refl).out only.0)
      (plain_group m named w.local_first w.count (sound w refl).local only.1)
      (plain_group m named w.in_first w.count (sound w refl).in_ only.2)
      (length d.saved == most_windows) d mid n rest refl a go

  pub restore_run : (o : Option WinShape) → m.windows ≡ o → HaveSoundWindows m o
      → WindowOnly (is_nameable m.zero named) o → (d : Doing) (mid : Mid) (n : ℕ) (rest : List Stmt) → Ag d mid
      → Behind n rest (restoring o d.saved d) → At (restore_steps o n) (restore_code o rest) mid
  restore_run None e sound only d mid n rest a go = go mid a
  restore_run (Some w) e sound only d mid n rest a go =
      restore_by w e (sound w refl) (plain_group m named w.out_first w.count (sound w refl).out only.0)
      (plain_group m named w.local_first w.count (sound w refl).local only.1)
      (plain_group m named w.in_first w.count (sound w refl).in_ only.2)
      d.saved d mid n rest refl a go
