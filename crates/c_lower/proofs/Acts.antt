-- The statements of transfers do what the transfers do.
use Rattle.std.proofs.Common.{◌≡◌, ℕ, zero, suc, ◌+◌, ◌-◌, ◌^◌, ◌<◌, ◌≤◌, ◌==◌, ◌||◌, Bool, true, false, if◌then◌else◌, Option, Some, None, Result, Ok, Err, List, [], ◌∷◌, ◌++◌, length, slice_get, refl, sym, ◌∙◌, subst, arith}
use Rattle.std.specs.Prelude.{All, slice_index, slice_set}
use Rattle.std.proofs.lemmas.List.Elements.{All-head, All-tail}
use Rattle.lockstep.specs.Runs.{Goes, Ends, Stops}
use Rattle.lockstep.specs.Meets.{Meets, met}
use Rattle.rtl_core.specs.declared.expr.Expr.{Expr}
use Rattle.rtl_core.specs.declared.machine.Machine.{Machine}
use Rattle.rtl_core.specs.declared.stop.Stop.TheVariants as Stop
use Rattle.rtl_core.specs.declared.stop.Trap.{Trap}
use Rattle.rtl_core.specs.declared.transfer.Act.{Act}
use Rattle.rtl_core.specs.declared.transfer.Act.TheVariants.{SetCell, SetSlice, Store, Jump, Annul, Trap as TrapWith, Service, WinSave, WinRestore}
use Rattle.rtl_core.specs.declared.transfer.Transfer.{Transfer}
use Rattle.rtl_core.specs.Access.{stored}
use Rattle.rtl_core.specs.Arithmetic.{with_bits}
use Rattle.rtl_core.specs.Contents.{Contents}
use Rattle.rtl_core.specs.SoundTerms.{IsSoundTerm, IsSoundAct, IsSoundGuard, IsSoundTransfer, AreSoundTransfers, Fit}
use Rattle.rtl_core.specs.Terms.{term_of, width_of}
use Rattle.rtl_core.specs.Transfers.{Doing, Ran, Went, Halted, with_result, put_cell, acted, transferred, then_on, all_transferred, fresh}
use Rattle.rtl_core.specs.Value.{value_of, choice}
use Rattle.rtl_core.proofs.Fits.{FitsIn, value_fits}
use Rattle.rtl_core.proofs.Ranges.{with_bits_lt}
use Rattle.c_lang.specs.declared.tree.CExpr.{CExpr}
use Rattle.c_lang.specs.declared.tree.CExpr.TheVariants.{Num, Of}
use Rattle.c_lang.specs.declared.tree.End.{End}
use Rattle.c_lang.specs.declared.tree.Function.{Function}
use Rattle.c_lang.specs.declared.tree.Program.{Program}
use Rattle.c_lang.specs.declared.tree.Stmt.{Stmt}
use Rattle.c_lang.specs.declared.tree.Stmt.TheVariants.{Set, Store as StoreAt, If, Stop as StopWith}
use Rattle.c_lang.specs.declared.tree.Var.TheVariants.{Cell as CellVar, Temp, Wn}
use Rattle.c_lang.specs.Value.{Vars}
use Rattle.c_lang.specs.State.{State, CNext, At, to_place, declared_in}
use Rattle.c_lang.specs.Step.{step}
use Rattle.c_lower.specs.Accounts.{act_steps, transfer_steps, transfers_steps, lowered_steps, act_need, guard_need, lowered_need}
use Rattle.c_lower.specs.Cells.{set_c}
use Rattle.c_lower.specs.Code.{temp, code, steps, need}
use Rattle.c_lower.specs.Contract.{IsBehind, LeadsTo, IsHeaderOf}
use Rattle.c_lower.specs.Formula.{with_bits_c}
use Rattle.c_lower.specs.Lowered.{act_code, transfer_code, transfers_code, lowered}
use Rattle.c_lower.specs.Naming.{is_nameable, NamesOnly, ActOnly, GuardOnly, TransfersOnly, IsNaming}
use Rattle.c_lower.specs.Theorem.{IsLowerable, IsLowered}
use Rattle.c_lower.proofs.Agreement.{Agrees, agrees_kept, agrees_jump, agrees_annul, agrees_service, agrees_start, agrees_memory, agrees_cell}
use Rattle.c_lower.proofs.Appends.{act_on, lowered_onto}
use Rattle.c_lower.proofs.Bounds.{act_within, lowered_within}
use Rattle.c_lower.proofs.Expressions.{Then, run}
use Rattle.c_lower.proofs.Frames.{Kept, temp_is, named_is}
use Rattle.c_lower.proofs.Operators.{Is, num, with_bits_is}
use Rattle.c_lower.proofs.Steps.{Mid, sees, set, here, has, stored_then, Run, run_longer, run_set, run_store, run_if, run_stop}
use Rattle.c_lower.proofs.TidyActs.{lowered_tidy}
use Rattle.c_lower.proofs.Traps.{StopsAlike, store_alike}
use Rattle.c_lower.proofs.Windows.{Behind, save_run, restore_run}

module _ (m : Machine) (lowerable : IsLowerable m) (pc : ℕ) (pc32 : pc < 2 ^ 32) (named : ℕ → Bool)
    (never_zero : (c : ℕ) → m.zero ≡ Some c → named c ≡ false) (p : Program) (header : IsHeaderOf m p) (base : State)
    (end : End)
    (temps : ℕ) (declared : (k : ℕ) → k < temps → has p base end (Temp k) ≡ true)
    (has_cells : (c : ℕ) → named c ≡ true → has p base end (CellVar c) ≡ true) (has_count : has p base end Wn ≡ true)
    (Q : CNext → Type 0) where
  abbrev May : ℕ → Bool
  May c = is_nameable m.zero named c

  abbrev Reach : ℕ → List Stmt → Mid → Type 0
  Reach n rest mid = Run p base end Q n (Goes (here p base end rest mid))

  abbrev Ag : Doing → Mid → Type 0
  Ag d mid = Agrees m named base d mid

  abbrev B : ℕ → List Stmt → Ran → Type 0
  B n rest r = Behind m named never_zero p base end has_cells has_count Q n rest r

  -- behind a term
  eval_then : (o : Result ℕ Trap) (w k n l : ℕ) (rest later : List Stmt) (d : Doing) (mid : Mid) (fit : Fit m d.cells)
      (f : ℕ → Ran) → FitsIn w o → 4 ≤ k → Ag d mid → B n rest (with_result pc d o f) →
      ((v : ℕ) (new : Vars) → v < 2 ^ w → Kept k mid.vars new → new (Temp k) ≡ Some v → Ag d (record mid { vars = new })
      → B n rest (f v) → Reach l later (record mid { vars = new })) →
      Then m lowerable.widths pc pc32 p header base end temps declared named d.cells fit mid Q k mid.vars l later o
  eval_then (Err trap) w k n l rest later d mid fit f fo le a go h = go
  eval_then (Ok v) w k n l rest later d mid fit f fo le a go h =
      λ new kept at. h v new fo kept at (agrees_kept m named base d mid new k le kept a) go

  eval : (e : Expr) (k n l : ℕ) (rest later : List Stmt) (d : Doing) (mid : Mid) (f : ℕ → Ran)
      → IsSoundTerm m.widths (term_of e) → NamesOnly (is_nameable m.zero named) (term_of e)
      → k + need (term_of e) ≤ temps → 4 ≤ k → Ag d mid →
      B n rest (with_result pc d (value_of m d.cells d.memory (term_of e)) f) →
      ((v : ℕ) (new : Vars) → v < 2 ^ width_of m.widths (term_of e) → Kept k mid.vars new → new (Temp k) ≡ Some v
      → Ag d (record mid { vars = new }) → B n rest (f v) → Reach l later (record mid { vars = new })) →
      Reach (steps (term_of e) l) (code m pc (term_of e) k later) mid
  eval e k n l rest later d mid f sound names room le a go h =
      run m lowerable.widths pc pc32 p header base end temps declared named d.cells a.fit mid Q
      (term_of e) k l mid.vars later sound names room a.shows
      (subst (λ mem. Then m lowerable.widths pc pc32 p header base end temps declared named d.cells a.fit mid Q k
      mid.vars l later (value_of m d.cells mem (term_of e))) (sym a.memory)
      (eval_then (value_of m d.cells d.memory (term_of e))
      (width_of m.widths (term_of e)) k n l rest later d mid a.fit f
      (value_fits m lowerable.widths d.cells a.fit d.memory (term_of e) sound) le a go h))

  -- a cell is set, but for the zero cell
  set_by : (zero_cell : Option ℕ) (c v n : ℕ) (e : CExpr) (rest : List Stmt) (d : Doing) (mid : Mid)
      → c < length m.widths → is_nameable zero_cell named c ≡ true → v < 2 ^ slice_index m.widths c
      → (named c ≡ true → Is (sees mid) e v) → Ag d mid →
      B n rest (Went (record d { cells = put_cell zero_cell c v d.cells }))
      → Reach (suc n) (set_c zero_cell c e rest) mid
  set_by None c v n e rest d mid lt nc small is a go =
      run_set p base end Q n (CellVar c) e v rest mid (has_cells c nc) (is nc)
      (go (set mid (CellVar c) v) (agrees_cell m named base never_zero d mid c v nc lt small a))
  set_by (Some z) c v n e rest d mid lt nc small is a go = by (c == z) nc go
    where
      by : (t : Bool) → (t || named c) ≡ true
          → B n rest (Went (record d { cells = if t then d.cells else slice_set d.cells c v }))
          → Reach (suc n) (if t then rest else Set (CellVar c) e ∷ rest) mid
      by true nc go = run_longer p base end Q n (suc n) (Goes (here p base end rest mid)) (omega arith) (go mid a)
      by false nc go =
          run_set p base end Q n (CellVar c) e v rest mid (has_cells c nc) (is nc)
          (go (set mid (CellVar c) v) (agrees_cell m named base never_zero d mid c v nc lt small a))

  stored_last : (o : Result Contents Trap) (n : ℕ) (rest : List Stmt) (d : Doing) (mid : Mid) → StopsAlike pc o
      → Ag d mid → B n rest (with_result pc d o (λ mem. Went (record d { memory = mem })))
      → Run p base end Q n (stored_then p base end rest mid o)
  stored_last (Err trap) n rest d mid alike a go =
      met (subst (λ s. Q (Ends base.outer.output (Stops s))) (sym alike) go)
  stored_last (Ok mem) n rest d mid alike a go =
      go (record mid { memory = mem }) (agrees_memory m named base d mid mem a)

  act_run : (act : Act) (d : Doing) (mid : Mid) (n : ℕ) (rest : List Stmt) → IsSoundAct m act
      → ActOnly m (is_nameable m.zero named) act → act_need act ≤ temps → Ag d mid → B n rest (acted m pc act d)
      → Reach (act_steps m act n) (act_code m pc act rest) mid
  act_run (SetCell c e) d mid n rest s o room ag go =
      eval e 4 n (suc n) rest (set_c m.zero c (temp 4) rest) d mid
      (λ v. Went (record d { cells = put_cell m.zero c v d.cells })) s.1.0 o.1 room (omega arith) ag go
      (λ v new small kept at a2 go2. set_by m.zero c v n (temp 4) rest d (record mid { vars = new }) s.0 o.0
      (subst (λ w. v < 2 ^ w) s.1.1 small) (λ nc. temp_is 4 v (record mid { vars = new }) at) a2 go2)
  act_run (SetSlice c lo hi e) d mid n rest s o room ag go =
      let w = slice_index m.widths c in
      let x = slice_index d.cells c in
      let widths = lowerable.widths in
      let w64 = (widths.each c s.0).1 in
      let fit = ag.fit in
      let low : lo < 64 = omega (arith, s.1, s.2, w64) in
      eval e 4 n (suc n) rest (set_c m.zero c (with_bits_c lo hi (Of (CellVar c)) (temp 4)) rest) d mid
      (λ v. Went (record d { cells = put_cell m.zero c (with_bits lo hi x v) d.cells })) s.3.0 o.1 room
      (omega arith) ag go
      (λ v new small kept at a2 go2.
      let mid2 = record mid { vars = new } in
      let fits : v < 2 ^ (hi + 1 - lo) = subst (λ w. v < 2 ^ w) s.3.1 small in
      let whole = with_bits_lt lo hi w x v s.1 s.2 (fit.each c s.0) fits in
      set_by m.zero c (with_bits lo hi x v) n (with_bits_c lo hi (Of (CellVar c)) (temp 4)) rest d mid2 s.0 o.0 whole
      (λ nc. with_bits_is (sees mid2) lo hi w low s.1 s.2 w64 (named_is named d.cells c mid2 nc a2.shows)
      (temp_is 4 v mid2 at) (fit.each c s.0) fits whole) a2 go2)
  act_run (Store b a e) d mid n rest s o room ag go =
      let last = λ (at v : ℕ). with_result pc d (stored m.order m.align d.memory b at v)
      (λ mem. Went (record d { memory = mem })) in
      eval a 4 n (steps (term_of e) (suc n)) rest (code m pc (term_of e) 5 (StoreAt b (temp 4) (temp 5) ∷ rest)) d mid
      (λ at. with_result pc d (value_of m d.cells d.memory (term_of e)) (last at)) s.1.0 o.0 (omega arith)
      (omega arith) ag go
      (λ at new small kept is a2 go2.
      let mid2 = record mid { vars = new } in
      eval e 5 n (suc n) rest (StoreAt b (temp 4) (temp 5) ∷ rest) d mid2 (last at) s.2.0 o.1 (omega arith)
      (omega arith) a2 go2
      (λ v new2 small2 kept2 is2 a3 go3.
      let mid3 = record mid { vars = new2 } in
      let below : 4 < 5 = omega arith in
      run_store p base end Q m header n b (temp 4) (temp 5) at v rest mid3 s.0
      (temp_is 4 at mid3 (kept2.same (Temp 4) below ∙ is)) (temp_is 5 v mid3 is2)
      (subst (λ mem. Run p base end Q n (stored_then p base end rest mid3 (stored m.order m.align mem b at v)))
      (sym a3.memory)
      (stored_last (stored m.order m.align d.memory b at v) n rest d mid3
      (store_alike pc m.order m.align d.memory b at v) a3 go3))))
  act_run (Jump e) d mid n rest s o room ag go =
      eval e 4 n (suc (suc n)) rest (Set (Temp 0) (temp 4) ∷ Set (Temp 1) (Num 1) ∷ rest) d mid
      (λ v. Went (record d { jump = Some v })) s.0 o room (omega arith) ag go
      (λ v new small kept at a2 go2.
      let mid2 = record mid { vars = new } in
      let mid3 = set mid2 (Temp 0) v in
      run_set p base end Q (suc n) (Temp 0) (temp 4) v (Set (Temp 1) (Num 1) ∷ rest) mid2 (declared 0 (omega arith))
      (temp_is 4 v mid2 at)
      (run_set p base end Q n (Temp 1) (Num 1) 1 rest mid3 (declared 1 (omega arith)) (num (sees mid3) 1)
      (go2 (set mid3 (Temp 1) 1) (agrees_jump m named base d mid2 v (subst (λ w. v < 2 ^ w) s.1 small) a2))))
  act_run Annul d mid n rest s o room ag go =
      run_set p base end Q n (Temp 2) (Num 1) 1 rest mid (declared 2 (omega arith)) (num (sees mid) 1)
      (go (set mid (Temp 2) 1) (agrees_annul m named base d mid ag))
  act_run (TrapWith e) d mid n rest s o room ag go =
      eval e 4 n (suc n) rest (StopWith 5 (temp 4) ∷ rest) d mid (λ v. Halted (Stop.Trap v) d) s.0 o room
      (omega arith) ag go
      (λ v new small kept at a2 go2. run_stop p base end Q n 5 (temp 4) v (Stop.Trap v) rest (record mid { vars = new })
      (subst (λ w. v < 2 ^ w) s.1 small) refl (temp_is 4 v (record mid { vars = new }) at) go2)
  act_run Service d mid n rest s o room ag go =
      run_set p base end Q n (Temp 3) (Num 1) 1 rest mid (declared 3 (omega arith)) (num (sees mid) 1)
      (go (set mid (Temp 3) 1) (agrees_service m named base d mid ag))
  act_run WinSave d mid n rest s o room ag go =
      save_run m named never_zero p base end has_cells has_count Q m.windows refl lowerable.windows o d mid n rest ag go
  act_run WinRestore d mid n rest s o room ag go =
      restore_run m named never_zero p base end has_cells has_count Q m.windows refl lowerable.windows o d mid n rest ag
      go

  -- a guard's number decides
  guarded_run : (v : ℕ) (act : Act) (d : Doing) (mid : Mid) (n : ℕ) (rest : List Stmt) → IsSoundAct m act
      → ActOnly m (is_nameable m.zero named) act → act_need act ≤ temps → Ag d mid
      → B n rest (choice v (acted m pc act d) (Went d)) →
      Reach (act_steps m act n) (choice v (act_code m pc act [] ++ rest) rest) mid
  guarded_run zero act d mid n rest s o room ag go =
      run_longer p base end Q n (act_steps m act n) (Goes (here p base end rest mid))
      (act_within m lowerable.windows act n).0 (go mid ag)
  guarded_run (suc v) act d mid n rest s o room ag go =
      subst (λ l. Reach (act_steps m act n) l mid) (sym (act_on m pc act [] rest))
      (act_run act d mid n rest s o room ag go)

  transfer_run : (guard : Option Expr) (act : Act) (d : Doing) (mid : Mid) (n : ℕ) (rest : List Stmt)
      → IsSoundGuard m.widths guard → IsSoundAct m act → GuardOnly (is_nameable m.zero named) guard
      → ActOnly m (is_nameable m.zero named) act →
      guard_need guard ≤ temps → act_need act ≤ temps → Ag d mid → B n rest (transferred m pc guard act d)
      → Reach (transfer_steps m guard act n) (transfer_code m pc guard act rest) mid
  transfer_run None act d mid n rest sg s og o rg room ag go = act_run act d mid n rest s o room ag go
  transfer_run (Some guard) act d mid n rest sg s og o rg room ag go =
      eval guard 4 n (suc (act_steps m act n)) rest (If (temp 4) (act_code m pc act []) ∷ rest) d mid
      (λ v. choice v (acted m pc act d) (Went d)) sg.0 og rg (omega arith) ag go
      (λ v new small kept at a2 go2. run_if p base end Q (act_steps m act n) (temp 4) v (act_code m pc act []) rest
      (record mid { vars = new }) (temp_is 4 v (record mid { vars = new }) at)
      (guarded_run v act d (record mid { vars = new }) n rest s o room a2 go2))

  behind_next : (r : Ran) (f : Doing → Ran) (n l : ℕ) (rest later : List Stmt) → B n rest (then_on r f)
      → ((d : Doing) (mid : Mid) → Ag d mid → B n rest (f d) → Reach l later mid) → B l later r
  behind_next (Halted stop d) f n l rest later go h = go
  behind_next (Went d) f n l rest later go h = λ mid a. h d mid a go

  transfers_run : (ts : List Transfer) (d : Doing) (mid : Mid) (n : ℕ) (rest : List Stmt) → All (IsSoundTransfer m) ts
      → TransfersOnly m (is_nameable m.zero named) ts → lowered_need ts ≤ temps → Ag d mid
      → B n rest (all_transferred m pc ts d) →
      Reach (transfers_steps m ts n) (transfers_code m pc ts rest) mid
  transfers_run [] d mid n rest s o room ag go = go mid ag
  transfers_run (t ∷ ts) d mid n rest s o room ag go =
      let first = All-head (IsSoundTransfer m) t ts s in
      transfer_run t.guard t.act d mid (transfers_steps m ts n)
      (transfers_code m pc ts rest) first.guard first.act o.0 o.1 (omega arith) (omega arith) ag
      (behind_next (transferred m pc t.guard t.act d) (all_transferred m pc ts) n (transfers_steps m ts n) rest
      (transfers_code m pc ts rest) go
      (λ d2 mid2 a2 go2. transfers_run ts d2 mid2 n rest (All-tail (IsSoundTransfer m) t ts s) o.2
      (omega arith) a2 go2))

  -- the whole instruction
  lowered_run : (ts : List Transfer) (d : Doing) (mid : Mid) (rest : List Stmt) → 4 ≤ temps → All (IsSoundTransfer m) ts
      → TransfersOnly m (is_nameable m.zero named) ts → lowered_need ts ≤ temps →
      Ag d (set (set (set (set mid (Temp 0) 0) (Temp 1) 0) (Temp 2) 0) (Temp 3) 0)
      → B 0 rest (all_transferred m pc ts d) → Reach (lowered_steps m ts) (lowered m pc ts rest) mid
  lowered_run ts d mid rest four s o room ag go =
      let v1 = set mid (Temp 0) 0 in let v2 = set v1 (Temp 1) 0 in let v3 = set v2 (Temp 2) 0 in
      let n = transfers_steps m ts 0 in
      let l = transfers_code m pc ts rest in
      run_set p base end Q (suc (suc (suc n))) (Temp 0) (Num 0) 0
      (Set (Temp 1) (Num 0) ∷ Set (Temp 2) (Num 0) ∷ Set (Temp 3) (Num 0) ∷ l) mid (declared 0 (omega arith))
      (num (sees mid) 0)
      (run_set p base end Q (suc (suc n)) (Temp 1) (Num 0) 0 (Set (Temp 2) (Num 0) ∷ Set (Temp 3) (Num 0) ∷ l) v1
      (declared 1 (omega arith)) (num (sees v1) 0)
      (run_set p base end Q (suc n) (Temp 2) (Num 0) 0 (Set (Temp 3) (Num 0) ∷ l) v2 (declared 2 (omega arith))
      (num (sees v2) 0)
      (run_set p base end Q n (Temp 3) (Num 0) 0 l v3 (declared 3 (omega arith)) (num (sees v3) 0)
      (transfers_run ts d (set v3 (Temp 3) 0) 0 rest s o room ag go))))

four_needed : (ts : List Transfer) → 4 ≤ lowered_need ts
four_needed [] = omega arith
four_needed (t ∷ ts) = omega (arith, four_needed ts)

-- a function that is there has `uq_wn`
count_declared : (o : Option Function) (k : ℕ) → declared_in o (Temp k) ≡ true → declared_in o Wn ≡ true
count_declared None k h = h
count_declared (Some f) k h = refl

module _ (m : Machine) (named : ℕ → Bool) (p : Program) (s : State) (end : End) where
  -- the state behind the statements
  behind_of : (rest : List Stmt) (d : Doing) (mid : Mid) → Agrees m named s d mid
      → IsBehind m named s rest end d (here p s end rest mid)
  behind_of rest d mid a = record {
    place = refl;
    function = refl;
    below = refl;
    input = refl;
    heap_end = refl;
    output = refl;
    shows = record {
      cells = record { reads = λ c n. let shows = a.shows in shows.reads c n };
      fit = a.fit;
      saved = record { count = a.count; few = a.few; words = a.words; windows = a.windows };
      memory = a.memory;
    };
    target = a.target;
    target_fits = a.target_fits;
    jumps = a.jumps;
    annuls = a.annuls;
    serves = a.serves;
    left = a.left;
  }

  led : (lowerable : IsLowerable m) (pc : ℕ) (pc32 : pc < 2 ^ 32)
      (never_zero : (c : ℕ) → m.zero ≡ Some c → named c ≡ false)
      (has_cells : (c : ℕ) → named c ≡ true → has p s end (CellVar c) ≡ true) (has_count : has p s end Wn ≡ true)
      (r : Ran) (rest : List Stmt) →
      Behind m named never_zero p s end has_cells has_count (LeadsTo m named s rest end r) 0 rest r
  led lowerable pc pc32 never_zero has_cells has_count (Halted stop d) rest = refl
  led lowerable pc pc32 never_zero has_cells has_count (Went d) rest =
      λ mid a. met (here p s end rest mid, refl, behind_of rest d mid a)

pub is_lowered : (m : Machine) → IsLowerable m → (pc : ℕ) → pc < 2 ^ 32 → (ts : List Transfer) → AreSoundTransfers m ts
    → (named : ℕ → Bool) → IsNaming m ts named → (temps : ℕ) → lowered_need ts ≤ temps → IsLowered m pc ts named temps
is_lowered m lowerable pc pc32 ts sound named naming temps room = record {
  does = record {
    runs = λ p header s declares cells saved shown rest end.
        let windows = shown.saved in
        let four : 4 ≤ temps = omega (arith, four_needed ts, room) in
        let has_count = count_declared (slice_get p.functions s.top.function) 0
        (declares.temporaries 0 (omega arith)) in
        let d = fresh cells s.outer.world.memory saved in
        let mid : Mid = record {
          vars = s.top.vars;
          globals = s.outer.globals;
          words = s.outer.words;
          memory = s.outer.world.memory;
        } in
        let r = all_transferred m pc ts d in
        subst (λ l. Meets (step p) (λ t. t.outer.output ≡ s.outer.output) (LeadsTo m named s rest end r)
        (lowered_steps m ts) (Goes (to_place s (At l end)))) (lowered_onto m pc ts rest)
        (lowered_run m lowerable pc pc32 named naming.never_zero p header s end temps declares.temporaries
        declares.cells has_count (LeadsTo m named s rest end r) ts d mid rest four sound.each naming.each room
        (agrees_start m named s d mid
        (record { reads = λ c n. let cells = shown.cells in cells.reads c n }) shown.fit windows.count windows.few
        windows.words windows.windows refl refl refl refl refl (λ v. refl))
        (led m named p s end lowerable pc pc32 naming.never_zero declares.cells has_count r rest));
  };
  within = lowered_within m lowerable.windows ts sound.one_move;
  tidy =
      lowered_tidy m lowerable.widths pc pc32 named temps lowerable.windows ts
      (omega (arith, four_needed ts, room)) sound.each naming.each room;
  onto = lowered_onto m pc ts;
}
