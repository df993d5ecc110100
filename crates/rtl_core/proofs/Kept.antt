-- What transfers leave alone: a part of the state that no act of an instruction changes.
use Rattle.std.proofs.Common.{◌≡◌, ℕ, zero, suc, Bool, true, false, ◌||◌, List, [], ◌∷◌, Option, Some, None, Result, Ok, Err, refl, ◌∙◌}
use Rattle.std.specs.Prelude.{◌==◌, length, if◌then◌else◌}
use Rattle.std.specs.List.{list_any}
use Rattle.rtl_core.specs.declared.expr.Expr.{Expr}
use Rattle.rtl_core.specs.declared.machine.Machine.{Machine}
use Rattle.rtl_core.specs.declared.machine.WinShape.{WinShape}
use Rattle.rtl_core.specs.declared.stop.Stop.TheVariants as Stop
use Rattle.rtl_core.specs.declared.stop.Trap.{Trap}
use Rattle.rtl_core.specs.declared.transfer.Act.{Act}
use Rattle.rtl_core.specs.declared.transfer.Act.TheVariants.{SetCell, SetSlice, Store, Jump, Annul, Trap as TrapWith, Service, WinSave, WinRestore}
use Rattle.rtl_core.specs.declared.transfer.Transfer.{Transfer}
use Rattle.rtl_core.specs.Access.{stored}
use Rattle.rtl_core.specs.Contents.{Contents}
use Rattle.rtl_core.specs.SoundTerms.{is_jump, is_annul, is_service}
use Rattle.rtl_core.specs.Terms.{term_of}
use Rattle.rtl_core.specs.Transfers.{Doing, Ran, Went, Halted, with_result, with_value, saving, restoring, acted, transferred, then_on, all_transferred, fresh}
use Rattle.rtl_core.specs.Value.{value_of, choice}
use Rattle.rtl_core.specs.Windows.{entered, window_of, most_windows}

-- a part of the state that cells, memory and windows do not touch, and the kind of act that does
pub record IsPart {X : Type 0} (f : Doing → X) (kind : Act → Bool) : Type 0 where
  pub cells : (d : Doing) (cells : List ℕ) → f (record d { cells = cells }) ≡ f d
  pub memory : (d : Doing) (memory : Contents) → f (record d { memory = memory }) ≡ f d
  pub windows : (d : Doing) (cells : List ℕ) (saved : List (List ℕ)) → f (record d { cells = cells; saved = saved }) ≡ f d
  pub jump : (d : Doing) (e : Expr) (target : ℕ) → kind (Jump e) ≡ false → f (record d { jump = Some target }) ≡ f d
  pub annul : (d : Doing) → kind Annul ≡ false → f (record d { annul = true }) ≡ f d
  pub service : (d : Doing) → kind Service ≡ false → f (record d { service = true }) ≡ f d

-- that part is x where the run went on
abbrev pub Keeps : {X : Type 0} → (Doing → X) → X → Ran → Type 0
Keeps f x (Went d) = f d ≡ x
Keeps f x (Halted stop d) = Unit {0}

module _ {X : Type 0} (f : Doing → X) (kind : Act → Bool) (part : IsPart f kind) (m : Machine) (pc : ℕ) where
  with_result-keeps : {A : Type 0} (x : X) (d : Doing) (r : Result A Trap) (go : A → Ran) → ((v : A) → Keeps f x (go v)) → Keeps f x (with_result pc d r go)
  with_result-keeps x d (Ok v) go h = h v
  with_result-keeps x d (Err trap) go h = tt

  with_value-keeps : (x : X) (d : Doing) (e : Expr) (go : ℕ → Ran) → ((v : ℕ) → Keeps f x (go v)) → Keeps f x (with_value m pc d e go)
  with_value-keeps x d e go h = with_result-keeps x d (value_of m d.cells d.memory (term_of e)) go h

  saving-keeps : (o : Option WinShape) (d : Doing) → Keeps f (f d) (saving o d)
  saving-keeps None d = refl
  saving-keeps (Some w) d = by (length d.saved == most_windows)
    where
      by : (b : Bool) → Keeps f (f d) (if b then Halted Stop.WindowFull d else Went (record d { cells = entered w d.cells; saved = window_of w d.cells ∷ d.saved }))
      by true = tt
      by false = part.windows d _ _

  restoring-keeps : (o : Option WinShape) (saved : List (List ℕ)) (d : Doing) → Keeps f (f d) (restoring o saved d)
  restoring-keeps None saved d = refl
  restoring-keeps (Some w) [] d = tt
  restoring-keeps (Some w) (kept ∷ older) d = part.windows d _ _

  pub acted-keeps : (act : Act) (d : Doing) → kind act ≡ false → Keeps f (f d) (acted m pc act d)
  acted-keeps (SetCell c e) d h = with_value-keeps (f d) d e _ (λ v. part.cells d _)
  acted-keeps (SetSlice c lo hi e) d h = with_value-keeps (f d) d e _ (λ v. part.cells d _)
  acted-keeps (Store n a e) d h =
      with_value-keeps (f d) d a _ (λ at. with_value-keeps (f d) d e _ (λ v. with_result-keeps (f d) d (stored m.order m.align d.memory n at v) _ (λ mem. part.memory d mem)))
  acted-keeps (Jump e) d h = with_value-keeps (f d) d e _ (λ v. part.jump d e v h)
  acted-keeps Annul d h = part.annul d h
  acted-keeps (TrapWith e) d h = with_value-keeps (f d) d e _ (λ v. tt)
  acted-keeps Service d h = part.service d h
  acted-keeps WinSave d h = saving-keeps m.windows d
  acted-keeps WinRestore d h = restoring-keeps m.windows d.saved d

  transferred-keeps : (o : Option Expr) (act : Act) (d : Doing) → kind act ≡ false → Keeps f (f d) (transferred m pc o act d)
  transferred-keeps None act d h = acted-keeps act d h
  transferred-keeps (Some guard) act d h = with_value-keeps (f d) d guard _ (λ n. by n)
    where
      by : (n : ℕ) → Keeps f (f d) (choice n (acted m pc act d) (Went d))
      by zero = refl
      by (suc n) = acted-keeps act d h

  -- transfers none of whose acts is of the kind leave the part alone
  pub all-keeps : (ts : List Transfer) (d : Doing) → list_any (λ t. kind t.act) ts ≡ false → Keeps f (f d) (all_transferred m pc ts d)
  all-keeps [] d h = refl
  all-keeps (t ∷ ts) d h = behind (transferred m pc t.guard t.act d) (transferred-keeps t.guard t.act d (first (kind t.act) _ h)) (all-keeps ts)
    where
      first : (a b : Bool) → (a || b) ≡ false → a ≡ false
      first true b e = e
      first false b e = refl

      second : (a b : Bool) → (a || b) ≡ false → b ≡ false
      second true true e = e
      second true false e = refl
      second false b e = e

      behind : (r : Ran) → Keeps f (f d) r → ((d : Doing) → list_any (λ t. kind t.act) ts ≡ false → Keeps f (f d) (all_transferred m pc ts d))
          → Keeps f (f d) (then_on r (all_transferred m pc ts))
      behind (Halted stop d') k later = tt
      behind (Went d') k later = at (all_transferred m pc ts d') (later d' (second (kind t.act) _ h))
        where
          at : (r : Ran) → Keeps f (f d') r → Keeps f (f d) r
          at (Halted stop d'') k' = tt
          at (Went d'') k' = k' ∙ k

no_true : {A : Type 0} → true ≡ false → A
no_true e = let no : ⊥ = cc in absurd no

service_part : IsPart (λ d. d.service) is_service
service_part = record {
  cells = λ d c. refl;
  memory = λ d c. refl;
  windows = λ d c s. refl;
  jump = λ d e t h. refl;
  annul = λ d h. refl;
  service = λ d h. no_true h;
}

annul_part : IsPart (λ d. d.annul) is_annul
annul_part = record {
  cells = λ d c. refl;
  memory = λ d c. refl;
  windows = λ d c s. refl;
  jump = λ d e t h. refl;
  annul = λ d h. no_true h;
  service = λ d h. refl;
}

jump_part : IsPart (λ d. d.jump) is_jump
jump_part = record {
  cells = λ d c. refl;
  memory = λ d c. refl;
  windows = λ d c s. refl;
  jump = λ d e t h. no_true h;
  annul = λ d h. refl;
  service = λ d h. refl;
}

module _ (m : Machine) (pc : ℕ) (ts : List Transfer) (cells : List ℕ) (memory : Contents) (saved : List (List ℕ)) where
  pub no-service : list_any (λ t. is_service t.act) ts ≡ false → Keeps (λ d. d.service) false (all_transferred m pc ts (fresh cells memory saved))
  no-service h = all-keeps (λ d. d.service) is_service service_part m pc ts (fresh cells memory saved) h

  pub no-annul : list_any (λ t. is_annul t.act) ts ≡ false → Keeps (λ d. d.annul) false (all_transferred m pc ts (fresh cells memory saved))
  no-annul h = all-keeps (λ d. d.annul) is_annul annul_part m pc ts (fresh cells memory saved) h

  pub no-jump : list_any (λ t. is_jump t.act) ts ≡ false → Keeps (λ d. d.jump) None (all_transferred m pc ts (fresh cells memory saved))
  no-jump h = all-keeps (λ d. d.jump) is_jump jump_part m pc ts (fresh cells memory saved) h
