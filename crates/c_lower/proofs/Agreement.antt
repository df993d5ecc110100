-- A state in the middle of an instruction agrees with the machine, and what each change leaves of that.
use Rattle.std.proofs.Common.{◌≡◌, ◌≢◌, ℕ, ◌^◌, ◌<◌, ◌≤◌, ◌==◌, ◌||◌, Bool, true, false, if◌then◌else◌, Option, Some, None, List, length, refl, sym, ap, ◌∙◌, subst, ⊎_elim, arith}
use Rattle.std.specs.Prelude.{slice_index, slice_set}
use Rattle.std.proofs.Math.ListN.{length-set}
use Rattle.std.proofs.lemmas.List.{get_or-set_same, get_or-set_other}
use Rattle.std.proofs.lemmas.Bool.{eq-eqb, ne_eqb, eqb-true, cases_eq, both_ways}
use Rattle.rtl_core.specs.declared.machine.Machine.{Machine}
use Rattle.rtl_core.specs.Arithmetic.{flag}
use Rattle.rtl_core.specs.Contents.{Contents}
use Rattle.rtl_core.specs.SoundTerms.{Fit}
use Rattle.rtl_core.specs.Transfers.{Doing}
use Rattle.rtl_core.specs.Windows.{most_windows}
use Rattle.c_lang.specs.declared.tree.Var.{Var}
use Rattle.c_lang.specs.declared.tree.Var.TheVariants.{Ra, Pt, Cell, Temp, Result, Wn, Depth, ServeR, ServeE}
use Rattle.c_lang.specs.Value.{Vars}
use Rattle.c_lang.specs.State.{State, with_var, seen_vars}
use Rattle.c_lower.specs.Contract.{AreWords, AreWindows, jump_value, jump_flag, IsLeft}
use Rattle.c_lower.specs.Naming.{is_nameable}
use Rattle.c_lower.proofs.Frames.{Kept, ShowsCells, shows_kept}
use Rattle.c_lower.proofs.Steps.{Mid, sees, set}

-- a state in the middle of the instruction that began at `base`
pub record Agrees (m : Machine) (named : ℕ → Bool) (base : State) (d : Doing) (mid : Mid) : Type 0 where
  pub shows : ShowsCells named d.cells mid.vars
  pub fit : Fit m d.cells
  pub count : mid.globals Wn ≡ Some (length d.saved)
  pub few : length d.saved ≤ most_windows
  pub words : AreWords mid.words d.saved
  pub windows : AreWindows m.windows d.saved
  pub memory : mid.memory ≡ d.memory
  pub target : mid.vars (Temp 0) ≡ Some (jump_value d.jump)
  pub target_fits : jump_value d.jump < 2 ^ 32
  pub jumps : mid.vars (Temp 1) ≡ Some (jump_flag d.jump)
  pub annuls : mid.vars (Temp 2) ≡ Some (flag d.annul)
  pub serves : mid.vars (Temp 3) ≡ Some (flag d.service)
  pub left : (v : Var) → IsLeft named v → sees mid v ≡ seen_vars base v

-- a nameable cell that is not the zero cell is named
pub nameable_named : (zero_cell : Option ℕ) (named : ℕ → Bool) (c : ℕ) → is_nameable zero_cell named c ≡ true
    → zero_cell ≢ Some c → named c ≡ true
nameable_named None named c h ne = h
nameable_named (Some z) named c h ne = by (c == z) refl h
  where
    by : (t : Bool) → (c == z) ≡ t → (t || named c) ≡ true → named c ≡ true
    by true e h = absurd (ne (ap Some (sym (eqb-true c z e))))
    by false e h = h

pub set_same : (cells : List ℕ) (c v : ℕ) → c < length cells → slice_index (slice_set cells c v) c ≡ v
set_same cells c v lt = get_or-set_same cells c v 0 lt

pub set_other : (cells : List ℕ) (c v i : ℕ) → c ≢ i → slice_index (slice_set cells c v) i ≡ slice_index cells i
set_other cells c v i ne = get_or-set_other cells c i v 0 (λ e. ne (sym e))

module _ (m : Machine) (named : ℕ → Bool) (base : State) where
  left_kept : (k : ℕ) (mid : Mid) (new : Vars) → Kept k mid.vars new → (v : Var) → IsLeft named v
      → sees (record mid { vars = new }) v ≡ sees mid v
  left_kept k mid new kept (Temp i) h = absurd h
  left_kept k mid new kept Ra h = kept.same Ra tt
  left_kept k mid new kept Pt h = kept.same Pt tt
  left_kept k mid new kept (Cell c) h = kept.same (Cell c) tt
  left_kept k mid new kept (Result c) h = refl
  left_kept k mid new kept Wn h = absurd h
  left_kept k mid new kept Depth h = refl
  left_kept k mid new kept ServeR h = refl
  left_kept k mid new kept ServeE h = refl

  pub agrees_kept : (d : Doing) (mid : Mid) (new : Vars) (k : ℕ) → 4 ≤ k → Kept k mid.vars new
      → Agrees m named base d mid → Agrees m named base d (record mid { vars = new })
  agrees_kept d mid new k le kept a =
      let b0 : 0 < k = omega arith in let b1 : 1 < k = omega arith in let b2 : 2 < k = omega arith in
      let b3 : 3 < k = omega arith in
      record {
        shows = shows_kept named d.cells k mid.vars new kept a.shows;
        fit = a.fit;
        count = a.count;
        few = a.few;
        words = a.words;
        windows = a.windows;
        memory = a.memory;
        target = kept.same (Temp 0) b0 ∙ a.target;
        target_fits = a.target_fits;
        jumps = kept.same (Temp 1) b1 ∙ a.jumps;
        annuls = kept.same (Temp 2) b2 ∙ a.annuls;
        serves = kept.same (Temp 3) b3 ∙ a.serves;
        left = λ v h. left_kept k mid new kept v h ∙ a.left v h;
      }

  -- ---- temporaries
  left_temp : (k n : ℕ) (mid : Mid) (v : Var) → IsLeft named v → sees (set mid (Temp k) n) v ≡ sees mid v
  left_temp k n mid (Temp i) h = absurd h
  left_temp k n mid Ra h = refl
  left_temp k n mid Pt h = refl
  left_temp k n mid (Cell c) h = refl
  left_temp k n mid (Result c) h = refl
  left_temp k n mid Wn h = absurd h
  left_temp k n mid Depth h = refl
  left_temp k n mid ServeR h = refl
  left_temp k n mid ServeE h = refl

  shows_temp : (cells : List ℕ) (k n : ℕ) (vars : Vars) → ShowsCells named cells vars
      → ShowsCells named cells (with_var vars (Temp k) n)
  shows_temp cells k n vars s = record { reads = λ c h. s.reads c h }

  pub agrees_jump : (d : Doing) (mid : Mid) (x : ℕ) → x < 2 ^ 32 → Agrees m named base d mid
      → Agrees m named base (record d { jump = Some x }) (set (set mid (Temp 0) x) (Temp 1) 1)
  agrees_jump d mid x fits a = record {
    shows = shows_temp d.cells 1 1 (with_var mid.vars (Temp 0) x) (shows_temp d.cells 0 x mid.vars a.shows);
    fit = a.fit;
    count = a.count;
    few = a.few;
    words = a.words;
    windows = a.windows;
    memory = a.memory;
    target = refl;
    target_fits = fits;
    jumps = refl;
    annuls = a.annuls;
    serves = a.serves;
    left = λ v h. left_temp 1 1 (set mid (Temp 0) x) v h ∙ left_temp 0 x mid v h ∙ a.left v h;
  }

  pub agrees_annul : (d : Doing) (mid : Mid) → Agrees m named base d mid
      → Agrees m named base (record d { annul = true }) (set mid (Temp 2) 1)
  agrees_annul d mid a = record {
    shows = shows_temp d.cells 2 1 mid.vars a.shows;
    fit = a.fit;
    count = a.count;
    few = a.few;
    words = a.words;
    windows = a.windows;
    memory = a.memory;
    target = a.target;
    target_fits = a.target_fits;
    jumps = a.jumps;
    annuls = refl;
    serves = a.serves;
    left = λ v h. left_temp 2 1 mid v h ∙ a.left v h;
  }

  pub agrees_service : (d : Doing) (mid : Mid) → Agrees m named base d mid
      → Agrees m named base (record d { service = true }) (set mid (Temp 3) 1)
  agrees_service d mid a = record {
    shows = shows_temp d.cells 3 1 mid.vars a.shows;
    fit = a.fit;
    count = a.count;
    few = a.few;
    words = a.words;
    windows = a.windows;
    memory = a.memory;
    target = a.target;
    target_fits = a.target_fits;
    jumps = a.jumps;
    annuls = a.annuls;
    serves = refl;
    left = λ v h. left_temp 3 1 mid v h ∙ a.left v h;
  }

  -- the start of an instruction, with t0 to t3 set to 0
  pub agrees_start : (d : Doing) (mid : Mid) → ShowsCells named d.cells mid.vars → Fit m d.cells
      → mid.globals Wn ≡ Some (length d.saved) → length d.saved ≤ most_windows → AreWords mid.words d.saved
      → AreWindows m.windows d.saved
      → mid.memory ≡ d.memory → jump_value d.jump ≡ 0 → jump_flag d.jump ≡ 0 → flag d.annul ≡ 0 → flag d.service ≡ 0
      → ((v : Var) → sees mid v ≡ seen_vars base v)
      → Agrees m named base d (set (set (set (set mid (Temp 0) 0) (Temp 1) 0) (Temp 2) 0) (Temp 3) 0)
  agrees_start d mid shows fit count few words windows memory e0 e1 e2 e3 left =
      let v1 = set mid (Temp 0) 0 in let v2 = set v1 (Temp 1) 0 in let v3 = set v2 (Temp 2) 0 in
      record {
        shows =
            shows_temp d.cells 3 0 v3.vars
            (shows_temp d.cells 2 0 v2.vars (shows_temp d.cells 1 0 v1.vars (shows_temp d.cells 0 0 mid.vars shows)));
        fit = fit;
        count = count;
        few = few;
        words = words;
        windows = windows;
        memory = memory;
        target = ap Some (sym e0);
        target_fits = subst (λ n. n < 2 ^ 32) (sym e0) (omega arith);
        jumps = ap Some (sym e1);
        annuls = ap Some (sym e2);
        serves = ap Some (sym e3);
        left =
            λ v h. left_temp 3 0 v3 v h ∙ left_temp 2 0 v2 v h ∙ left_temp 1 0 v1 v h ∙ left_temp 0 0 mid v h ∙ left v;
      }

  -- ---- memory
  pub agrees_memory : (d : Doing) (mid : Mid) (memory : Contents) → Agrees m named base d mid
      → Agrees m named base (record d { memory = memory }) (record mid { memory = memory })
  agrees_memory d mid memory a = record {
    shows = a.shows;
    fit = a.fit;
    count = a.count;
    few = a.few;
    words = a.words;
    windows = a.windows;
    memory = refl;
    target = a.target;
    target_fits = a.target_fits;
    jumps = a.jumps;
    annuls = a.annuls;
    serves = a.serves;
    left = a.left;
  }

  -- ---- saved windows
  left_count : (n : ℕ) (mid : Mid) (v : Var) → IsLeft named v → sees (set mid Wn n) v ≡ sees mid v
  left_count n mid (Temp i) h = absurd h
  left_count n mid Ra h = refl
  left_count n mid Pt h = refl
  left_count n mid (Cell c) h = refl
  left_count n mid (Result c) h = refl
  left_count n mid Wn h = absurd h
  left_count n mid Depth h = refl
  left_count n mid ServeR h = refl
  left_count n mid ServeE h = refl

  pub agrees_saved : (d : Doing) (mid : Mid) (saved : List (List ℕ)) → length saved ≤ most_windows
      → AreWords mid.words saved → AreWindows m.windows saved → Agrees m named base d mid
      → Agrees m named base (record d { saved = saved }) (set mid Wn (length saved))
  agrees_saved d mid saved few words windows a = record {
    shows = a.shows;
    fit = a.fit;
    count = refl;
    few = few;
    words = words;
    windows = windows;
    memory = a.memory;
    target = a.target;
    target_fits = a.target_fits;
    jumps = a.jumps;
    annuls = a.annuls;
    serves = a.serves;
    left = λ v h. left_count (length saved) mid v h ∙ a.left v h;
  }

  pub agrees_words : (d : Doing) (mid : Mid) (words : ℕ → ℕ) → AreWords words d.saved → Agrees m named base d mid
      → Agrees m named base d (record mid { words = words })
  agrees_words d mid words are a = record {
    shows = a.shows;
    fit = a.fit;
    count = a.count;
    few = a.few;
    words = are;
    windows = a.windows;
    memory = a.memory;
    target = a.target;
    target_fits = a.target_fits;
    jumps = a.jumps;
    annuls = a.annuls;
    serves = a.serves;
    left = a.left;
  }

  -- ---- a named cell
  module _ (never_zero : (c : ℕ) → m.zero ≡ Some c → named c ≡ false) where
    left_cell : (c x : ℕ) (mid : Mid) (v : Var) → named c ≡ true → IsLeft named v
        → sees (set mid (Cell c) x) v ≡ sees mid v
    left_cell c x mid (Temp i) n h = absurd h
    left_cell c x mid (Cell i) n h =
        let ne : c ≢ i = λ e. both_ways (named c) (ap named e ∙ h) n in
        ap (λ t. if t then Some x else mid.vars (Cell i)) (ne_eqb c i ne)
    left_cell c x mid Ra n h = refl
    left_cell c x mid Pt n h = refl
    left_cell c x mid (Result i) n h = refl
    left_cell c x mid Wn n h = absurd h
    left_cell c x mid Depth n h = refl
    left_cell c x mid ServeR n h = refl
    left_cell c x mid ServeE n h = refl

    fit_set : (cells : List ℕ) (c x : ℕ) → named c ≡ true → c < length m.widths → x < 2 ^ slice_index m.widths c
        → Fit m cells → Fit m (slice_set cells c x)
    fit_set cells c x n lt small fit =
        let inside : c < length cells = omega (arith, fit.count) in
        record {
          count = length-set cells c x ∙ fit.count;
          each = λ i h. ⊎_elim
              (λ e. subst (λ j. slice_index (slice_set cells c x) j < 2 ^ slice_index m.widths j) e
              (subst (λ y. y < 2 ^ slice_index m.widths c) (sym (set_same cells c x inside)) small))
              (λ ne. subst (λ y. y < 2 ^ slice_index m.widths i) (sym (set_other cells c x i ne)) (fit.each i h))
              (cases_eq c i);
          zeroed =
              λ z e. let ne : c ≢ z = λ same. both_ways (named c) (ap named same ∙ never_zero z e) n in
              set_other cells c x z ne ∙ fit.zeroed z e;
        }

    shows_cell : (cells : List ℕ) (c x : ℕ) (vars : Vars) → c < length cells → ShowsCells named cells vars
        → ShowsCells named (slice_set cells c x) (with_var vars (Cell c) x)
    shows_cell cells c x vars inside s = record {
      reads = λ i n. ⊎_elim
          (λ e. ap (λ t. if t then Some x else vars (Cell i)) (eq-eqb c i e)
          ∙ ap Some (sym (ap (slice_index (slice_set cells c x)) (sym e) ∙ set_same cells c x inside)))
          (λ ne. ap (λ t. if t then Some x else vars (Cell i)) (ne_eqb c i ne) ∙ s.reads i n
          ∙ ap Some (sym (set_other cells c x i ne))) (cases_eq c i);
    }

    pub agrees_cell : (d : Doing) (mid : Mid) (c x : ℕ) → named c ≡ true → c < length m.widths
        → x < 2 ^ slice_index m.widths c → Agrees m named base d mid
        → Agrees m named base (record d { cells = slice_set d.cells c x }) (set mid (Cell c) x)
    agrees_cell d mid c x n lt small a =
        let fit = a.fit in
        let inside : c < length d.cells = omega (arith, fit.count) in
        record {
          shows = shows_cell d.cells c x mid.vars inside a.shows;
          fit = fit_set d.cells c x n lt small fit;
          count = a.count;
          few = a.few;
          words = a.words;
          windows = a.windows;
          memory = a.memory;
          target = a.target;
          target_fits = a.target_fits;
          jumps = a.jumps;
          annuls = a.annuls;
          serves = a.serves;
          left = λ v h. left_cell c x mid v n h ∙ a.left v h;
        }
