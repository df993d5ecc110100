-- The cells that the instruction of a point names are among those that its procedure gets.
use Rattle.std.proofs.Common.{◌≡◌, ◌≢◌, ℕ, zero, suc, ◌+◌, ◌<◌, ◌≤◌, Bool, true, false, ◌||◌, List, [], ◌∷◌, ◌++◌, Option, Some, None, refl, sym, subst, ⊎_elim, arith, nat_eq}
use Rattle.std.specs.List.{Contains}
use Rattle.std.proofs.lemmas.Bool.{cases_eq, eqb-false}
use Rattle.std.proofs.lemmas.List.Elements.{Contains-append_left, Contains-append_right, Contains-get_or}
use Rattle.rtl_core.specs.declared.conv.Conv.{Conv}
use Rattle.rtl_core.specs.declared.expr.Expr.{Expr}
use Rattle.rtl_core.specs.declared.inst.GroundInst.{GroundInst}
use Rattle.rtl_core.specs.declared.machine.Machine.{Machine}
use Rattle.rtl_core.specs.declared.machine.WinShape.{WinShape}
use Rattle.rtl_core.specs.declared.point.Point.{Point}
use Rattle.rtl_core.specs.declared.transfer.Act.{Act}
use Rattle.rtl_core.specs.declared.transfer.Act.TheVariants.{SetCell, SetSlice, Store, Jump, Annul, Trap, Service, WinSave, WinRestore}
use Rattle.rtl_core.specs.declared.transfer.Transfer.{Transfer}
use Rattle.rtl_core.specs.Terms.{Term, Const, Cell, Load, Unary, Binary, Slice, Zext, Sext, Choice, term_of}
use Rattle.points.specs.declared.block.Block.TheVariants.{Inst}
use Rattle.points.specs.declared.block.JumpKind.{JumpKind}
use Rattle.points.specs.Bodies.{Code, code_of, Body}
use Rattle.points.specs.Kinds.{block_at}
use Rattle.points.specs.Machine.{Setting}
use Rattle.points.specs.Summaries.{term_cells, guard_cells, cells_in_row, window_cells, act_names, transfers_name, block_names}
use Rattle.c_lang.specs.State.{has}
use Rattle.c_lower.specs.Naming.{is_nameable, NamesOnly, GroupOnly, WindowOnly, ActOnly, GuardOnly, TransfersOnly, IsNaming}
use Rattle.c_control.specs.Plans.{Plan}
use Rattle.c_control.proofs.Frames.{Emission}

pub first-in : {T : Type 0} (x : T) (xs : List T) → Contains (x ∷ xs) x
first-in x xs = Contains-get_or (x ∷ xs) 0 x (omega arith)

pub later-in : {T : Type 0} (x y : T) (xs : List T) → Contains xs y → Contains (x ∷ xs) y
later-in x y xs h = Contains-append_right (x ∷ []) xs y h

pub row-in : (first n c : ℕ) → first ≤ c → c < first + n → Contains (cells_in_row first n) c
row-in first zero c le lt = let no : ⊥ = omega (arith, le, lt) in absurd no
row-in first (suc n) c le lt =
    ⊎_elim (λ same. subst (λ k. Contains (first ∷ cells_in_row (first + 1) n) k) same (first-in first (cells_in_row (first + 1) n)))
    (λ other. later-in first c (cells_in_row (first + 1) n) (row-in (first + 1) n c (omega (arith, le, other)) (omega (arith, lt)))) (cases_eq first c)

-- whatever a test says of all cells that are named, it says of each place
module _ (m : Machine) (conv : Conv) (may : ℕ → Bool) where
  abbrev Passes : List ℕ → Type 0
  Passes cells = (c : ℕ) → Contains cells c → may c ≡ true

  left-pass : (xs ys : List ℕ) → Passes (xs ++ ys) → Passes xs
  left-pass xs ys h c i = h c (Contains-append_left xs ys c i)

  right-pass : (xs ys : List ℕ) → Passes (xs ++ ys) → Passes ys
  right-pass xs ys h c i = h c (Contains-append_right xs ys c i)

  names-term : (t : Term) → Passes (term_cells t) → NamesOnly may t
  names-term (Const w n) h = tt
  names-term (Cell c) h = h c (first-in c [])
  names-term (Load b a) h = names-term a h
  names-term (Unary op a) h = names-term a h
  names-term (Binary op a b) h = (names-term a (left-pass (term_cells a) (term_cells b) h), names-term b (right-pass (term_cells a) (term_cells b) h))
  names-term (Slice a lo hi) h = names-term a h
  names-term (Zext w a) h = names-term a h
  names-term (Sext w a) h = names-term a h
  names-term (Choice c a b) h =
      let h2 = right-pass (term_cells c) (term_cells a ++ term_cells b) h in
      (names-term c (left-pass (term_cells c) (term_cells a ++ term_cells b) h), names-term a (left-pass (term_cells a) (term_cells b) h2), names-term b (right-pass (term_cells a) (term_cells b) h2))

  names-row : (first n : ℕ) → Passes (cells_in_row first n) → GroupOnly may first n
  names-row first n h = record { each = λ c le lt. h c (row-in first n c le lt) }

  names-window : (o : Option WinShape) → Passes (window_cells o) → WindowOnly may o
  names-window None h = tt
  names-window (Some w) h =
      let outs = cells_in_row w.out_first w.count in
      let locals = cells_in_row w.local_first w.count in
      let ins = cells_in_row w.in_first w.count in
      let h2 = right-pass outs (locals ++ ins) h in
      (names-row w.out_first w.count (left-pass outs (locals ++ ins) h), names-row w.local_first w.count (left-pass locals ins h2), names-row w.in_first w.count (right-pass locals ins h2))

  names-act : (act : Act) → Passes (act_names m conv act) → ActOnly m may act
  names-act (SetCell c e) h = (h c (first-in c (term_cells (term_of e))), names-term (term_of e) (right-pass (c ∷ []) (term_cells (term_of e)) h))
  names-act (SetSlice c lo hi e) h = (h c (first-in c (term_cells (term_of e))), names-term (term_of e) (right-pass (c ∷ []) (term_cells (term_of e)) h))
  names-act (Store n a e) h =
      (names-term (term_of a) (left-pass (term_cells (term_of a)) (term_cells (term_of e)) h), names-term (term_of e) (right-pass (term_cells (term_of a)) (term_cells (term_of e)) h))
  names-act (Jump e) h = names-term (term_of e) h
  names-act Annul h = tt
  names-act (Trap e) h = names-term (term_of e) h
  names-act Service h = tt
  names-act WinSave h = names-window m.windows h
  names-act WinRestore h = names-window m.windows h

  names-guard : (o : Option Expr) → Passes (guard_cells o) → GuardOnly may o
  names-guard None h = tt
  names-guard (Some e) h = names-term (term_of e) h

  names-transfers : (ts : List Transfer) → Passes (transfers_name m conv ts) → TransfersOnly m may ts
  names-transfers [] h = tt
  names-transfers (t ∷ ts) h =
      let guard = guard_cells t.guard in
      let act = act_names m conv t.act in
      let later = transfers_name m conv ts in
      let h2 = right-pass guard (act ++ later) h in
      (names-guard t.guard (left-pass guard (act ++ later) h), names-act t.act (left-pass act later h2), names-transfers ts (right-pass act later h2))

module _ (g : Emission) where
  abbrev plan : Plan
  plan = g.plan

  abbrev setting : Setting
  setting = plan.flow.setting

  abbrev m : Machine
  m = setting.machine

  abbrev code : Code
  code = code_of setting plan.flow.table

  -- the cells that a procedure gets
  abbrev pub gets : ℕ → ℕ → Bool
  gets q c = has (plan.refs q) c

  -- it never gets the zero cell
  pub never-zero : (q c : ℕ) → m.zero ≡ Some c → gets q c ≡ false
  never-zero q c e = by (gets q c) refl
    where
      by : (b : Bool) → gets q c ≡ b → b ≡ false
      by false is = refl
      by true is = absurd ((g.planned.closed.moving q c is).1 e)

  pub is-naming : (q : ℕ) (b : Point) (inst : GroundInst) (kind : JumpKind) → Body code q b → block_at setting b.pc ≡ Inst inst kind → IsNaming m inst.transfers (gets q)
  is-naming q b inst kind inside e = record { each = names-transfers m setting.conv (is_nameable m.zero (gets q)) inst.transfers each; never_zero = never-zero q }
    where
      each : (c : ℕ) → Contains (transfers_name m setting.conv inst.transfers) c → is_nameable m.zero (gets q) c ≡ true
      each c i = by m.zero refl
        where
          named : m.zero ≢ Some c → gets q c ≡ true
          named ne = g.planned.closed.named q b c inside (subst (λ k. Contains (block_names m setting.conv k) c) (sym e) i) ne

          at : (z : ℕ) → m.zero ≡ Some z → (b : Bool) → nat_eq c z ≡ b → (b || gets q c) ≡ true
          at z o true f = refl
          at z o false f = named (λ o'. let same : z ≡ c = cc in eqb-false c z f (sym same))

          by : (o : Option ℕ) → m.zero ≡ o → is_nameable o (gets q) c ≡ true
          by None o = named (λ o'. let no : ⊥ = cc in absurd no)
          by (Some z) o = at z o (nat_eq c z) refl
