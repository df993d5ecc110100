-- The statements of a term leave its value, or stop at its trap.
use Rattle.std.proofs.Common.{◌≡◌, ◌≢◌, ℕ, zero, suc, ◌+◌, ◌^◌, ◌<◌, ◌≤◌, ◌==◌, ◌&&◌, Bool, true, false, if◌then◌else◌, Some, Result, Ok, Err, List, [], ◌∷◌, refl, sym, ap, ◌∙◌, subst, arith}
use Rattle.std.specs.Prelude.{slice_index}
use Rattle.std.proofs.lemmas.Bool.{ne_eqb}
use Rattle.lockstep.specs.Runs.{Goes, Ends, Stops}
use Rattle.lockstep.specs.Meets.{met}
use Rattle.rtl_core.specs.declared.expr.Bin.{Bin}
use Rattle.rtl_core.specs.declared.machine.Machine.{Machine}
use Rattle.rtl_core.specs.declared.stop.Stop.TheVariants as Stop
use Rattle.rtl_core.specs.declared.stop.Trap.{Trap}
use Rattle.rtl_core.specs.Access.{is_size, loaded}
use Rattle.rtl_core.specs.Arithmetic.{flag, binary, unary, is_division, bits_of, sign_extended}
use Rattle.rtl_core.specs.SoundTerms.{IsSoundTerm, AreWidths, Fit}
use Rattle.rtl_core.specs.Terms.{Term, Const, Cell, Load, Unary, Binary, Slice, Zext, Sext, Choice, width_of}
use Rattle.rtl_core.specs.Transfers.{stop_of}
use Rattle.rtl_core.specs.Value.{and_then, choice, value_of}
use Rattle.rtl_core.proofs.Fits.{FitsIn, is_width, value_fits}
use Rattle.c_lang.specs.declared.tree.COp.TheVariants.{Eq as Same}
use Rattle.c_lang.specs.declared.tree.CExpr.{CExpr}
use Rattle.c_lang.specs.declared.tree.CExpr.TheVariants.{Num, Bin as Op, Choose}
use Rattle.c_lang.specs.declared.tree.End.{End}
use Rattle.c_lang.specs.declared.tree.Program.{Program}
use Rattle.c_lang.specs.declared.tree.Stmt.{Stmt}
use Rattle.c_lang.specs.declared.tree.Stmt.TheVariants.{Set, Load as LoadInto, Stop as StopWith}
use Rattle.c_lang.specs.declared.tree.Var.TheVariants.{Temp}
use Rattle.c_lang.specs.Value.{Vars, value, chosen}
use Rattle.c_lang.specs.State.{State, CNext, with_var}
use Rattle.c_lang.proofs.ValueLaws.{value-Choose, chosen-zero, chosen-more}
use Rattle.c_lower.specs.Contract.{IsHeaderOf}
use Rattle.c_lower.specs.Cells.{cell_c}
use Rattle.c_lower.specs.Code.{temp, guarded, code, steps, need}
use Rattle.c_lower.specs.Formula.{binary_c, unary_c, bits_c, sign_extended_c}
use Rattle.c_lower.specs.Naming.{is_nameable, NamesOnly}
use Rattle.c_lower.proofs.Frames.{Kept, ShowsCells, kept_on, kept_set, just_set, shows_kept, temp_is, cell_is}
use Rattle.c_lower.proofs.Operators.{Is, that, num, same, binary_is, unary_is, bits_is, sign_extended_is}
use Rattle.c_lower.proofs.Steps.{Mid, sees, here, has, loaded_then, Run, run_longer, run_set, run_load, run_if, run_stop}
use Rattle.c_lower.proofs.Traps.{StopsAlike, load_alike}

choose_is : (vars : Vars) (n : ℕ) (c a b : CExpr) (x y : ℕ) → Is vars c n → Is vars a x → Is vars b y
    → Is vars (Choose c a b) (choice n x y)
choose_is vars zero c a b x y h f g =
    record {
      is = value-Choose vars c a b ∙ ap (λ o. chosen o (value vars a) (value vars b)) h.is
          ∙ chosen-zero (value vars a) (value vars b) ∙ g.is;
    }
choose_is vars (suc n) c a b x y h f g =
    record {
      is = value-Choose vars c a b ∙ ap (λ o. chosen o (value vars a) (value vars b)) h.is
          ∙ chosen-more (suc n) (value vars a) (value vars b) (omega arith) ∙ f.is;
    }

pub needs_one : (t : Term) → 1 ≤ need t
needs_one (Const w n) = omega arith
needs_one (Cell c) = omega arith
needs_one (Load n a) = needs_one a
needs_one (Unary op a) = needs_one a
needs_one (Binary op a b) = omega (arith, needs_one a)
needs_one (Slice a lo hi) = needs_one a
needs_one (Zext w a) = needs_one a
needs_one (Sext w a) = needs_one a
needs_one (Choice c a b) = omega (arith, needs_one c)

module _ (m : Machine) (ok : AreWidths m.widths) (pc : ℕ) (pc32 : pc < 2 ^ 32) (p : Program) (header : IsHeaderOf m p)
    (base : State) (end : End) (temps : ℕ) (declared : (k : ℕ) → k < temps → has p base end (Temp k) ≡ true)
    (named : ℕ → Bool) (cells : List ℕ) (fit : Fit m cells) (mid : Mid) (Q : CNext → Type 0) where
  -- the same with other variables
  abbrev with_vars : Vars → Mid
  with_vars vars = record mid { vars = vars }

  -- within n steps of these statements, with these variables, a place with Q
  abbrev At : ℕ → List Stmt → Vars → Type 0
  At n rest vars = Run p base end Q n (Goes (here p base end rest (with_vars vars)))

  -- what is asked behind a value or a trap
  abbrev pub Then : ℕ → Vars → ℕ → List Stmt → Result ℕ Trap → Type 0
  Then k vars n rest (Err trap) = Q (Ends base.outer.output (Stops (stop_of pc trap)))
  Then k vars n rest (Ok v) = (new : Vars) → Kept k vars new → new (Temp k) ≡ Some v → At n rest new

  -- the value of a term here
  abbrev val : Term → Result ℕ Trap
  val t = value_of m cells mid.memory t

  -- a value is set, and is kept
  set_last : (k n v : ℕ) (vars new : Vars) (e : CExpr) (rest : List Stmt) → k < temps → Kept k vars new
      → Is (sees (with_vars new)) e v → Then k vars n rest (Ok v) → At (suc n) (Set (Temp k) e ∷ rest) new
  set_last k n v vars new e rest lt kept is go =
      run_set p base end Q n (Temp k) e v rest (with_vars new) (declared k lt) is
      (go (with_var new (Temp k) v)
      (kept_on k k vars new (with_var new (Temp k) v) (omega arith) kept (kept_set k v new)) (just_set k v new))

  -- behind one operand
  set_one : (k n w : ℕ) (vars : Vars) (rest : List Stmt) (f : ℕ → ℕ) (e : CExpr) (o : Result ℕ Trap) → k < temps
      → FitsIn w o → ((env : Vars) (x : ℕ) → x < 2 ^ w → Is env (temp k) x → Is env e (f x)) →
      Then k vars n rest (and_then o (λ x. Ok (f x))) → Then k vars (suc n) (Set (Temp k) e ∷ rest) o
  set_one k n w vars rest f e (Err trap) lt fits is go = go
  set_one k n w vars rest f e (Ok x) lt fits is go =
      λ new kept at. set_last k n (f x) vars new e rest lt kept
      (is (sees (with_vars new)) x fits (temp_is k x (with_vars new) at)) go

  load_last : (k n : ℕ) (vars new : Vars) (rest : List Stmt) (o : Result ℕ Trap) → StopsAlike pc o → Kept k vars new
      → Then k vars n rest o → Run p base end Q n (loaded_then p base end (Temp k) rest (with_vars new) o)
  load_last k n vars new rest (Err trap) alike kept go =
      met (subst (λ s. Q (Ends base.outer.output (Stops s))) (sym alike) go)
  load_last k n vars new rest (Ok v) alike kept go =
      go (with_var new (Temp k) v)
      (kept_on k k vars new (with_var new (Temp k) v) (omega arith) kept (kept_set k v new)) (just_set k v new)

  load_one : (k n b : ℕ) (vars : Vars) (rest : List Stmt) (o : Result ℕ Trap) → k < temps → is_size b ≡ true
      → Then k vars n rest (and_then o (loaded m.order m.align mid.memory b))
      → Then k vars (suc n) (LoadInto (Temp k) b (temp k) ∷ rest) o
  load_one k n b vars rest (Err trap) lt sized go = go
  load_one k n b vars rest (Ok a) lt sized go = λ new kept at.
      run_load p base end Q m header n (Temp k) b (temp k) a rest (with_vars new) (declared k lt) sized
      (temp_is k a (with_vars new) at)
      (load_last k n vars new rest (loaded m.order m.align mid.memory b a)
      (load_alike pc m.order m.align mid.memory b a) kept go)

  -- a division is guarded
  guard_one : (t : Bool) (k n y v : ℕ) (vars new : Vars) (e : CExpr) (rest : List Stmt) → k < temps → Kept k vars new
      → new (Temp (k + 1)) ≡ Some y → ((t ≡ true → y ≢ 0) → Is (sees (with_vars new)) e v) →
      Then k vars n rest (if t && (y == 0) then Err Trap.Divide else Ok v)
      → At (suc (suc n)) (guarded t pc (k + 1) (Set (Temp k) e ∷ rest)) new
  guard_one false k n y v vars new e rest lt kept at is go =
      run_longer p base end Q (suc n) (suc (suc n)) (Goes (here p base end (Set (Temp k) e ∷ rest) (with_vars new)))
      (omega arith) (set_last k n v vars new e rest lt kept (is (λ f. λ g. cc)) go)
  guard_one true k n zero v vars new e rest lt kept at is go =
      let env = sees (with_vars new) in
      run_if p base end Q (suc n) (Op Same (temp (k + 1)) (Num 0)) 1 (StopWith 4 (Num pc) ∷ []) (Set (Temp k) e ∷ rest)
      (with_vars new) (same env (temp_is (k + 1) 0 (with_vars new) at) (num env 0))
      (run_stop p base end Q n 4 (Num pc) pc (Stop.Divide pc) (Set (Temp k) e ∷ rest) (with_vars new) pc32 refl
      (num env pc) go)
  guard_one true k n (suc y) v vars new e rest lt kept at is go =
      let env = sees (with_vars new) in
      let ne : suc y ≢ 0 = omega arith in
      run_if p base end Q (suc n) (Op Same (temp (k + 1)) (Num 0)) 0 (StopWith 4 (Num pc) ∷ []) (Set (Temp k) e ∷ rest)
      (with_vars new) (that (same env (temp_is (k + 1) (suc y) (with_vars new) at) (num env 0))
      (ap flag (ne_eqb (suc y) 0 ne)))
      (set_last k n v vars new e rest lt kept (is (λ f. ne))
      (subst (λ t. Then k vars n rest (if t then Err Trap.Divide else Ok v)) (ne_eqb (suc y) 0 ne) go))

  -- behind both operands
  binary_last : (op : Bin) (w k n x : ℕ) (vars new : Vars) (rest : List Stmt) (o : Result ℕ Trap) → w ≤ 64 → 1 ≤ w
      → k < temps → x < 2 ^ w → FitsIn w o → Kept k vars new → new (Temp k) ≡ Some x →
      Then k vars n rest (and_then o
      (λ y. if is_division op && (y == 0) then Err Trap.Divide else Ok (binary op w x y))) →
      Then (k + 1) new (suc (suc n))
      (guarded (is_division op) pc (k + 1) (Set (Temp k) (binary_c op w (temp k) (temp (k + 1))) ∷ rest)) o
  binary_last op w k n x vars new rest (Err trap) w64 w1 lt fx fo kept at go = go
  binary_last op w k n x vars new rest (Ok y) w64 w1 lt fx fo kept at go = λ new2 kept2 at2.
      let below : k < k + 1 = omega arith in
      guard_one (is_division op) k n y (binary op w x y) vars new2 (binary_c op w (temp k) (temp (k + 1))) rest lt
      (kept_on k (k + 1) vars new new2 (omega arith) kept kept2) at2
      (λ ne. binary_is (sees (with_vars new2)) w w1 w64 op
      (temp_is k x (with_vars new2) (kept2.same (Temp k) below ∙ at))
      (temp_is (k + 1) y (with_vars new2) at2) fx fo ne) go

  -- behind an operand that others follow
  then_more : (j k n l w : ℕ) (from vars : Vars) (rest later : List Stmt) (f : ℕ → Result ℕ Trap) (o : Result ℕ Trap)
      → FitsIn w o → Then k vars n rest (and_then o f) →
      ((x : ℕ) (new : Vars) → x < 2 ^ w → Kept j from new → new (Temp j) ≡ Some x → Then k vars n rest (f x)
      → At l later new) → Then j from l later o
  then_more j k n l w from vars rest later f (Err trap) fo go h = go
  then_more j k n l w from vars rest later f (Ok x) fo go h = λ new kept at. h x new fo kept at go

  choice_last : (k n u x : ℕ) (vars new new2 : Vars) (rest : List Stmt) (o : Result ℕ Trap) → k < temps
      → Kept k vars new → new (Temp k) ≡ Some u → Kept (k + 1) new new2 → new2 (Temp (k + 1)) ≡ Some x →
      Then k vars n rest (and_then o (λ y. Ok (choice u x y)))
      → Then (k + 2) new2 (suc n) (Set (Temp k) (Choose (temp k) (temp (k + 1)) (temp (k + 2))) ∷ rest) o
  choice_last k n u x vars new new2 rest (Err trap) lt kept at kept2 at2 go = go
  choice_last k n u x vars new new2 rest (Ok y) lt kept at kept2 at2 go = λ new3 kept3 at3.
      let b1 : k < k + 1 = omega arith in let b2 : k < k + 2 = omega arith in let b3 : k + 1 < k + 2 = omega arith in
      set_last k n (choice u x y) vars new3 (Choose (temp k) (temp (k + 1)) (temp (k + 2))) rest lt
      (kept_on k (k + 1) vars new new3 (omega arith) kept
      (kept_on (k + 1) (k + 2) new new2 new3 (omega arith) kept2 kept3))
      (choose_is (sees (with_vars new3)) u (temp k) (temp (k + 1)) (temp (k + 2)) x y
      (temp_is k u (with_vars new3) (kept3.same (Temp k) b2 ∙ (kept2.same (Temp k) b1 ∙ at)))
      (temp_is (k + 1) x (with_vars new3) (kept3.same (Temp (k + 1)) b3 ∙ at2))
      (temp_is (k + 2) y (with_vars new3) at3)) go

  abbrev N : Term → Type 0
  N t = NamesOnly (is_nameable m.zero named) t

  pub run : (t : Term) (k n : ℕ) (vars : Vars) (rest : List Stmt) → IsSoundTerm m.widths t
      → NamesOnly (is_nameable m.zero named) t → k + need t ≤ temps → ShowsCells named cells vars →
      Then k vars n rest (value_of m cells mid.memory t)
      → Run p base end Q (steps t n) (Goes (here p base end (code m pc t k rest) (record mid { vars = vars })))
  run (Const w x) k n vars rest sound names room shows go =
      run_set p base end Q n (Temp k) (Num x) x rest (with_vars vars) (declared k (omega arith))
      (num (sees (with_vars vars)) x) (go (with_var vars (Temp k) x) (kept_set k x vars) (just_set k x vars))
  run (Cell c) k n vars rest sound names room shows go =
      let x = slice_index cells c in
      run_set p base end Q n (Temp k) (cell_c m.zero c) x rest (with_vars vars) (declared k (omega arith))
      (cell_is m named cells fit (with_vars vars) shows c names)
      (go (with_var vars (Temp k) x) (kept_set k x vars) (just_set k x vars))
  run (Load b a) k n vars rest sound names room shows go =
      run a k (suc n) vars (LoadInto (Temp k) b (temp k) ∷ rest) sound.0 names room shows
      (load_one k n b vars rest (val a) (omega (arith, needs_one a)) sound.2 go)
  run (Unary op a) k n vars rest sound names room shows go =
      let w = width_of m.widths a in
      let i = is_width m.widths ok a sound in
      run a k (suc n) vars (Set (Temp k) (unary_c op w (temp k)) ∷ rest) sound names room shows
      (set_one k n w vars rest (unary op w) (unary_c op w (temp k)) (val a) (omega (arith, needs_one a))
      (value_fits m ok cells fit mid.memory a sound) (λ env x lt is. unary_is env w i.0 i.1 op is lt) go)
  run (Binary op a b) k n vars rest sound names room shows go =
      let w = width_of m.widths a in
      let i = is_width m.widths ok a sound.0 in
      let fb = subst (λ v. FitsIn v (val b)) sound.2 (value_fits m ok cells fit mid.memory b sound.1) in
      let tail = guarded (is_division op) pc (k + 1) (Set (Temp k) (binary_c op w (temp k) (temp (k + 1))) ∷ rest) in
      run a k (steps b (suc (suc n))) vars (code m pc b (k + 1) tail) sound.0 names.0 (omega arith) shows
      (then_more k k n (steps b (suc (suc n))) w vars vars rest (code m pc b (k + 1) tail)
      (λ x. and_then (val b) (λ y. if is_division op && (y == 0) then Err Trap.Divide else Ok (binary op w x y)))
      (val a) (value_fits m ok cells fit mid.memory a sound.0) go
      (λ x new lt kept at go2. run b (k + 1) (suc (suc n)) new tail sound.1 names.1 (omega arith)
      (shows_kept named cells k vars new kept shows)
      (binary_last op w k n x vars new rest (val b) i.1 i.0 (omega (arith, needs_one a)) lt fb kept at go2)))
  run (Slice a lo hi) k n vars rest sound names room shows go =
      let w = width_of m.widths a in
      let i = is_width m.widths ok a sound.0 in
      run a k (suc n) vars (Set (Temp k) (bits_c lo hi (temp k)) ∷ rest) sound.0 names room shows
      (set_one k n w vars rest (bits_of lo hi) (bits_c lo hi (temp k)) (val a) (omega (arith, needs_one a))
      (value_fits m ok cells fit mid.memory a sound.0) (λ env x lt is. bits_is env lo hi (omega arith) is) go)
  run (Zext w a) k n vars rest sound names room shows go = run a k n vars rest sound.0 names room shows go
  run (Sext w a) k n vars rest sound names room shows go =
      let v = width_of m.widths a in
      let i = is_width m.widths ok a sound.0 in
      run a k (suc n) vars (Set (Temp k) (sign_extended_c v w (temp k)) ∷ rest) sound.0 names room shows
      (set_one k n v vars rest (sign_extended v w) (sign_extended_c v w (temp k)) (val a) (omega (arith, needs_one a))
      (value_fits m ok cells fit mid.memory a sound.0)
      (λ env x lt is. sign_extended_is env v w i.0 sound.1 sound.2 is lt) go)
  run (Choice c a b) k n vars rest sound names room shows go =
      let last = Set (Temp k) (Choose (temp k) (temp (k + 1)) (temp (k + 2))) ∷ rest in
      run c k (steps a (steps b (suc n))) vars (code m pc a (k + 1) (code m pc b (k + 2) last)) sound.0 names.0
      (omega arith) shows
      (then_more k k n (steps a (steps b (suc n))) (width_of m.widths c) vars vars rest
      (code m pc a (k + 1) (code m pc b (k + 2) last))
      (λ u. and_then (val a) (λ x. and_then (val b) (λ y. Ok (choice u x y)))) (val c)
      (value_fits m ok cells fit mid.memory c sound.0) go
      (λ u new lt kept at go2. run a (k + 1) (steps b (suc n)) new (code m pc b (k + 2) last) sound.1 names.1
      (omega arith) (shows_kept named cells k vars new kept shows)
      (then_more (k + 1) k n (steps b (suc n)) (width_of m.widths a) new vars rest (code m pc b (k + 2) last)
      (λ x. and_then (val b) (λ y. Ok (choice u x y))) (val a) (value_fits m ok cells fit mid.memory a sound.1) go2
      (λ x new2 lt2 kept2 at2 go3. run b (k + 2) (suc n) new2 last sound.2 names.2 (omega arith)
      (shows_kept named cells (k + 1) new new2 kept2 (shows_kept named cells k vars new kept shows))
      (choice_last k n u x vars new new2 rest (val b) (omega (arith, needs_one c)) kept at kept2 at2 go3)))))
