-- What an instruction did is what it can do: its jump, its annul and its trap.
use Rattle.std.proofs.Common.{◌≡◌, ℕ, zero, suc, Bool, true, false, ◌&&◌, ◌||◌, List, [], ◌∷◌, Option, Some, None, Result, Ok, Err, refl, sym, ap, ◌∙◌, subst}
use Rattle.std.specs.Prelude.{is_some, not, if◌then◌else◌}
use Rattle.std.specs.List.{list_any}
use Rattle.rtl_core.specs.declared.expr.Expr.{Expr}
use Rattle.rtl_core.specs.declared.machine.Machine.{Machine}
use Rattle.rtl_core.specs.declared.stop.Trap.{Trap}
use Rattle.rtl_core.specs.declared.transfer.Act.{Act}
use Rattle.rtl_core.specs.declared.transfer.Act.TheVariants.{SetCell, SetSlice, Store, Jump, Annul, Trap as TrapWith, Service, WinSave, WinRestore}
use Rattle.rtl_core.specs.declared.transfer.Transfer.{Transfer}
use Rattle.rtl_core.specs.Contents.{Contents}
use Rattle.rtl_core.specs.SoundTerms.{is_jump, is_annul}
use Rattle.rtl_core.specs.Terms.{term_of}
use Rattle.rtl_core.specs.Transfers.{Doing, Ran, Went, Halted, with_result, acted, transferred, then_on, all_transferred, fresh}
use Rattle.rtl_core.specs.Value.{value_of, choice}
use Rattle.rtl_core.proofs.Kept.{IsPart, Keeps, acted-keeps, all-keeps}
use Rattle.points.specs.declared.block.Mode.TheVariants.{Never, Maybe, Always}
use Rattle.points.specs.Courses.{does_always, mode_of, jump_mode, annul_mode, possible, is_trap, halts}

true-is-false : {A : Type 0} → true ≡ false → A
true-is-false e = let no : ⊥ = cc in absurd no

-- ---- what an act always does is done once all transfers have run

-- whether something was done: acts of one kind do it, where they go on, and no other changes it
record IsDoneBy (m : Machine) (pc : ℕ) (done : Doing → Bool) (kind : Act → Bool) : Type 0 where
  part : IsPart done kind
  does : (act : Act) (d : Doing) → kind act ≡ true → Keeps done true (acted m pc act d)

value-keeps : (done : Doing → Bool) (pc : ℕ) (r : Result ℕ Trap) (d : Doing) (go : ℕ → Ran) → ((v : ℕ) → Keeps done true (go v)) → Keeps done true (with_result pc d r go)
value-keeps done pc (Ok v) d go h = h v
value-keeps done pc (Err trap) d go h = tt

module _ (m : Machine) (pc : ℕ) (done : Doing → Bool) (kind : Act → Bool) (by_kind : IsDoneBy m pc done kind) where
  abbrev Did : Ran → Type 0
  Did r = Keeps done true r

  -- what was done stays done, by one act, one transfer and all of them
  acted-stays : (act : Act) (d : Doing) → done d ≡ true → Did (acted m pc act d)
  acted-stays act d h = by (kind act) refl
    where
      by : (b : Bool) → kind act ≡ b → Did (acted m pc act d)
      by true e = by_kind.does act d e
      by false e = subst (λ x. Keeps done x (acted m pc act d)) h (acted-keeps done kind by_kind.part m pc act d e)

  transferred-stays : (o : Option Expr) (act : Act) (d : Doing) → done d ≡ true → Did (transferred m pc o act d)
  transferred-stays None act d h = acted-stays act d h
  transferred-stays (Some guard) act d h = value-keeps done pc (value_of m d.cells d.memory (term_of guard)) d _ (λ n. by n)
    where
      by : (n : ℕ) → Did (choice n (acted m pc act d) (Went d))
      by zero = h
      by (suc n) = acted-stays act d h

  then-stays : (r : Ran) (go : Doing → Ran) → Did r → ((d : Doing) → done d ≡ true → Did (go d)) → Did (then_on r go)
  then-stays (Halted stop d) go h later = tt
  then-stays (Went d) go h later = later d h

  all-stays : (ts : List Transfer) (d : Doing) → done d ≡ true → Did (all_transferred m pc ts d)
  all-stays [] d h = h
  all-stays (t ∷ ts) d h = then-stays (transferred m pc t.guard t.act d) (all_transferred m pc ts) (transferred-stays t.guard t.act d h) (all-stays ts)

  -- a transfer that always does it, and transfers with one
  transferred-does : (o : Option Expr) (act : Act) (d : Doing) → (not (is_some o) && kind act) ≡ true → Did (transferred m pc o act d)
  transferred-does None act d h = by_kind.does act d h
  transferred-does (Some guard) act d h = true-is-false (sym h)

  then-does : (r : Ran) (go : Doing → Ran) → ((d : Doing) → Did (go d)) → Did (then_on r go)
  then-does (Halted stop d) go later = tt
  then-does (Went d) go later = later d

  all-do : (ts : List Transfer) (d : Doing) → list_any (does_always kind) ts ≡ true → Did (all_transferred m pc ts d)
  all-do [] d h = true-is-false (sym h)
  all-do (t ∷ ts) d h = by (all-do ts) (does_always kind t) refl h
    where
      by : ((d : Doing) → list_any (does_always kind) ts ≡ true → Did (all_transferred m pc ts d)) → (b : Bool) → does_always kind t ≡ b → (b || list_any (does_always kind) ts) ≡ true → Did (all_transferred m pc (t ∷ ts) d)
      by later true e k = then-stays (transferred m pc t.guard t.act d) (all_transferred m pc ts) (transferred-does t.guard t.act d e) (all-stays ts)
      by later false e k = then-does (transferred m pc t.guard t.act d) (all_transferred m pc ts) (λ d. later d k)

  -- so it is one of what can come out
  mode-possible : (ts : List Transfer) (from d : Doing) → done from ≡ false → all_transferred m pc ts from ≡ Went d → possible (mode_of kind ts) (done d) ≡ true
  mode-possible ts from d before is = by (list_any (does_always kind) ts) (list_any (λ t. kind t.act) ts) refl refl
    where
      by : (x y : Bool) → list_any (does_always kind) ts ≡ x → list_any (λ t. kind t.act) ts ≡ y → possible (if x then Always else if y then Maybe else Never) (done d) ≡ true
      by true y e f = let did : done d ≡ true = subst Did is (all-do ts from e) in ap (possible Always) did
      by false true e f = refl
      by false false e f = let same : done d ≡ done from = subst (Keeps done (done from)) is (all-keeps done kind by_kind.part m pc ts from f) in ap (possible Never) (same ∙ before)

-- ---- a jump, an annul and a trap

module _ (m : Machine) (pc : ℕ) where
  jump-done : IsDoneBy m pc (λ d. is_some d.jump) is_jump
  jump-done = record {
    part = record {
      cells = λ d c. refl;
      memory = λ d c. refl;
      windows = λ d c s. refl;
      jump = λ d e t h. true-is-false h;
      annul = λ d h. refl;
      service = λ d h. refl;
    };
    does = does;
  }
    where
      does : (act : Act) (d : Doing) → is_jump act ≡ true → Keeps (λ d. is_some d.jump) true (acted m pc act d)
      does (Jump e) d h = value-keeps (λ d. is_some d.jump) pc (value_of m d.cells d.memory (term_of e)) d _ (λ v. refl)
      does Annul d h = true-is-false (sym h)
      does (TrapWith e) d h = true-is-false (sym h)
      does (SetCell c e) d h = true-is-false (sym h)
      does (SetSlice c lo hi e) d h = true-is-false (sym h)
      does (Store n a e) d h = true-is-false (sym h)
      does Service d h = true-is-false (sym h)
      does WinSave d h = true-is-false (sym h)
      does WinRestore d h = true-is-false (sym h)

  annul-done : IsDoneBy m pc (λ d. d.annul) is_annul
  annul-done = record {
    part = record {
      cells = λ d c. refl;
      memory = λ d c. refl;
      windows = λ d c s. refl;
      jump = λ d e t h. refl;
      annul = λ d h. true-is-false h;
      service = λ d h. refl;
    };
    does = does;
  }
    where
      does : (act : Act) (d : Doing) → is_annul act ≡ true → Keeps (λ d. d.annul) true (acted m pc act d)
      does Annul d h = refl
      does (Jump e) d h = true-is-false (sym h)
      does (TrapWith e) d h = true-is-false (sym h)
      does (SetCell c e) d h = true-is-false (sym h)
      does (SetSlice c lo hi e) d h = true-is-false (sym h)
      does (Store n a e) d h = true-is-false (sym h)
      does Service d h = true-is-false (sym h)
      does WinSave d h = true-is-false (sym h)
      does WinRestore d h = true-is-false (sym h)

  -- a trap does what never holds where the run goes on
  trap-done : IsDoneBy m pc (λ d. false) is_trap
  trap-done = record {
    part = record {
      cells = λ d c. refl;
      memory = λ d c. refl;
      windows = λ d c s. refl;
      jump = λ d e t h. refl;
      annul = λ d h. refl;
      service = λ d h. refl;
    };
    does = does;
  }
    where
      does : (act : Act) (d : Doing) → is_trap act ≡ true → Keeps (λ d. false) true (acted m pc act d)
      does (TrapWith e) d h = value-keeps (λ d. false) pc (value_of m d.cells d.memory (term_of e)) d _ (λ v. tt)
      does (Jump e) d h = true-is-false (sym h)
      does Annul d h = true-is-false (sym h)
      does (SetCell c e) d h = true-is-false (sym h)
      does (SetSlice c lo hi e) d h = true-is-false (sym h)
      does (Store n a e) d h = true-is-false (sym h)
      does Service d h = true-is-false (sym h)
      does WinSave d h = true-is-false (sym h)
      does WinRestore d h = true-is-false (sym h)

module _ (m : Machine) (pc : ℕ) (ts : List Transfer) (cells : List ℕ) (memory : Contents) (saved : List (List ℕ)) (d : Doing) where
  pub jump-possible : all_transferred m pc ts (fresh cells memory saved) ≡ Went d → possible (jump_mode ts) (is_some d.jump) ≡ true
  jump-possible is = mode-possible m pc (λ d. is_some d.jump) is_jump (jump-done m pc) ts (fresh cells memory saved) d refl is

  pub annul-possible : all_transferred m pc ts (fresh cells memory saved) ≡ Went d → possible (annul_mode ts) d.annul ≡ true
  annul-possible is = mode-possible m pc (λ d. d.annul) is_annul (annul-done m pc) ts (fresh cells memory saved) d refl is

  pub not-halted : all_transferred m pc ts (fresh cells memory saved) ≡ Went d → halts ts ≡ false
  not-halted is = by (halts ts) refl
    where
      by : (b : Bool) → halts ts ≡ b → halts ts ≡ false
      by false e = e
      by true e = let never : false ≡ true = subst (Keeps (λ d. false) true) is (all-do m pc (λ d. false) is_trap (trap-done m pc) ts (fresh cells memory saved) e) in true-is-false (sym never)
