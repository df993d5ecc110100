-- One statement at a time, in the middle of an instruction.
use Rattle.std.proofs.Common.{◌≡◌, ℕ, suc, ◌^◌, ◌<◌, ◌≤◌, ◌==◌, Bool, true, if◌then◌else◌, Some, Result, Ok, Err, List, ◌∷◌, ◌++◌, slice_get, refl, sym, ap, ◌∙◌, subst, le_refl}
use Rattle.std.proofs.lemmas.Bool.{lt-ltb}
use Rattle.std.proofs.Math.Nat.{mod-eq_of_lt}
use Rattle.lockstep.specs.Runs.{Goes, Ends, Stops}
use Rattle.lockstep.specs.Meets.{Meets, met, more}
use Rattle.lockstep.proofs.Stretches.{longer}
use Rattle.rtl_core.specs.declared.machine.Machine.{Machine}
use Rattle.rtl_core.specs.declared.stop.Stop.{Stop}
use Rattle.rtl_core.specs.declared.stop.Trap.{Trap}
use Rattle.rtl_core.specs.Access.{is_size, loaded, stored}
use Rattle.rtl_core.specs.Contents.{Contents}
use Rattle.rtl_core.specs.Value.{choice}
use Rattle.c_lang.specs.declared.tree.Var.{Var}
use Rattle.c_lang.specs.declared.tree.CExpr.{CExpr}
use Rattle.c_lang.specs.declared.tree.End.{End}
use Rattle.c_lang.specs.declared.tree.Program.{Program}
use Rattle.c_lang.specs.declared.tree.Stmt.{Stmt}
use Rattle.c_lang.specs.declared.tree.Stmt.TheVariants.{Set, Load, Store, TakeW, PutW, If, Stop as StopWith}
use Rattle.c_lang.specs.Value.{Vars}
use Rattle.c_lang.specs.State.{State, CNext, At, with_var, is_global, declared_in, stuck}
use Rattle.c_lang.specs.Step.{step, done, given, with_value, assign, load_into, store_at, take_word, put_word, most_words, named_stops, stop_with, memory_stop, with_access}
use Rattle.c_lang.proofs.StepLaws.{done-Set, done-Load, done-Store, done-TakeW, done-PutW, done-If, done-Stop}
use Rattle.c_lower.specs.Contract.{IsHeaderOf}
use Rattle.c_lower.proofs.Operators.{Is}

-- what the statements of an instruction can change of a state
pub record Mid : Type 0 where
  pub vars : Vars
  pub globals : Vars
  pub words : ℕ → ℕ
  pub memory : Contents

-- the variables that are seen
abbrev pub sees : Mid → Vars
sees mid v = if is_global v then mid.globals v else mid.vars v

-- a variable set, where it belongs
abbrev pub set : Mid → Var → ℕ → Mid
set mid v n = record mid {
  vars = if is_global v then mid.vars else with_var mid.vars v n;
  globals = if is_global v then with_var mid.globals v n else mid.globals;
}

module _ (p : Program) (base : State) (end : End) where
  -- the state of the instruction that began at `base`, at some statements
  abbrev pub here : List Stmt → Mid → State
  here rest mid = record {
    top = record { function = base.top.function; place = At rest end; vars = mid.vars };
    below = base.below;
    outer = record {
      globals = mid.globals;
      words = mid.words;
      output = base.outer.output;
      world = record { memory = mid.memory; input = base.outer.world.input; heap_end = base.outer.world.heap_end };
    };
  }

  -- whether the function on top has a variable to assign
  abbrev pub has : Var → Bool
  has v = declared_in (slice_get p.functions base.top.function) v

  -- what a load of a variable leads to
  abbrev pub loaded_then : Var → List Stmt → Mid → Result ℕ Trap → CNext
  loaded_then v rest mid (Err trap) = Ends base.outer.output (Stops (memory_stop trap))
  loaded_then v rest mid (Ok x) = Goes (here rest (set mid v x))

  -- what a store leads to
  abbrev pub stored_then : List Stmt → Mid → Result Contents Trap → CNext
  stored_then rest mid (Err trap) = Ends base.outer.output (Stops (memory_stop trap))
  stored_then rest mid (Ok memory) = Goes (here rest (record mid { memory = memory }))

  assign_is : (v : Var) (x : ℕ) (xs rest : List Stmt) (mid : Mid) → has v ≡ true
      → assign p (here xs mid) (At rest end) v x ≡ Goes (here rest (set mid v x))
  assign_is v x xs rest mid ok = ap (λ t. if t then Goes (here rest (set mid v x)) else stuck p (here xs mid)) ok

  load_is : (r : Result ℕ Trap) (v : Var) (xs rest : List Stmt) (mid : Mid) → has v ≡ true
      → with_access (here xs mid) r (assign p (here xs mid) (At rest end) v) ≡ loaded_then v rest mid r
  load_is (Err trap) v xs rest mid ok = refl
  load_is (Ok x) v xs rest mid ok = assign_is v x xs rest mid ok

  store_is : (r : Result Contents Trap) (xs rest : List Stmt) (mid : Mid)
      → with_access (here xs mid) r
      (λ memory. Goes (here rest (record mid { memory = memory }))) ≡ stored_then rest mid r
  store_is (Err trap) xs rest mid = refl
  store_is (Ok memory) xs rest mid = refl

  module _ (Q : CNext → Type 0) where
    -- within n steps a place with Q, and no output on the way
    abbrev pub Run : ℕ → CNext → Type 0
    Run n x = Meets (step p) (λ t. t.outer.output ≡ base.outer.output) Q n x

    pub run_longer : (n m : ℕ) (x : CNext) → n ≤ m → Run n x → Run m x
    run_longer n m x le h = longer (step p) (λ t. t.outer.output ≡ base.outer.output) Q le h

    one : (n : ℕ) (x : Stmt) (rest : List Stmt) (mid : Mid) (z : CNext) → done p (here (x ∷ rest) mid) x rest end ≡ z
        → Run n z → Run (suc n) (Goes (here (x ∷ rest) mid))
    one n x rest mid z e h = more (le_refl (suc n)) refl (subst (Run n) (sym e) h)

    pub run_set : (n : ℕ) (v : Var) (e : CExpr) (x : ℕ) (rest : List Stmt) (mid : Mid) → has v ≡ true
        → Is (sees mid) e x → Run n (Goes (here rest (set mid v x))) → Run (suc n) (Goes (here (Set v e ∷ rest) mid))
    run_set n v e x rest mid ok is h =
        let s = here (Set v e ∷ rest) mid in
        one n (Set v e) rest mid (Goes (here rest (set mid v x)))
        (done-Set p s v e rest end ∙ ap (λ o. given p s o (assign p s (At rest end) v)) is.is
        ∙ assign_is v x (Set v e ∷ rest) rest mid ok) h

    pub run_if : (n : ℕ) (e : CExpr) (x : ℕ) (body rest : List Stmt) (mid : Mid) → Is (sees mid) e x
        → Run n (Goes (here (choice x (body ++ rest) rest) mid)) → Run (suc n) (Goes (here (If e body ∷ rest) mid))
    run_if n e x body rest mid is h =
        let s = here (If e body ∷ rest) mid in
        one n (If e body) rest mid (Goes (here (choice x (body ++ rest) rest) mid))
        (done-If p s e body rest end
        ∙ ap (λ o. given p s o (λ k. Goes (here (choice k (body ++ rest) rest) mid))) is.is) h

    pub run_stop : (n k : ℕ) (e : CExpr) (x : ℕ) (stop : Stop) (rest : List Stmt) (mid : Mid) → x < 2 ^ 32
        → slice_get (named_stops x) k ≡ Some stop → Is (sees mid) e x → Q (Ends base.outer.output (Stops stop))
        → Run (suc n) (Goes (here (StopWith k e ∷ rest) mid))
    run_stop n k e x stop rest mid small named is q =
        let s = here (StopWith k e ∷ rest) mid in
        one n (StopWith k e) rest mid (Ends base.outer.output (Stops stop))
        (done-Stop p s k e rest end ∙ ap (λ o. given p s o (stop_with p s k)) is.is
        ∙ ap (λ y. given p s (slice_get (named_stops y) k) (λ stop. Ends base.outer.output (Stops stop)))
        (mod-eq_of_lt small)
        ∙ ap (λ o. given p s o (λ stop. Ends base.outer.output (Stops stop))) named) (met q)

    pub run_take : (n : ℕ) (v : Var) (e : CExpr) (i : ℕ) (rest : List Stmt) (mid : Mid) → has v ≡ true → i < most_words
        → Is (sees mid) e i → Run n (Goes (here rest (set mid v (mid.words i))))
        → Run (suc n) (Goes (here (TakeW v e ∷ rest) mid))
    run_take n v e i rest mid ok lt is h =
        let s = here (TakeW v e ∷ rest) mid in
        one n (TakeW v e) rest mid (Goes (here rest (set mid v (mid.words i))))
        (done-TakeW p s v e rest end ∙ ap (λ o. given p s o (take_word p s (At rest end) v)) is.is
        ∙ ap (λ t. if t then assign p s (At rest end) v (mid.words i) else stuck p s) (lt-ltb i most_words lt)
        ∙ assign_is v (mid.words i) (TakeW v e ∷ rest) rest mid ok) h

    -- a word of `uq_w` set
    abbrev pub with_word : Mid → ℕ → ℕ → Mid
    with_word mid i x = record mid { words = λ j. if i == j then x else mid.words j }

    pub run_put : (n : ℕ) (i e : CExpr) (at x : ℕ) (rest : List Stmt) (mid : Mid) → at < most_words → Is (sees mid) i at
        → Is (sees mid) e x → Run n (Goes (here rest (with_word mid at x)))
        → Run (suc n) (Goes (here (PutW i e ∷ rest) mid))
    run_put n i e at x rest mid lt is it h =
        let s = here (PutW i e ∷ rest) mid in
        one n (PutW i e) rest mid (Goes (here rest (with_word mid at x)))
        (done-PutW p s i e rest end ∙ ap (λ o. given p s o (λ a. with_value p s e (put_word p s (At rest end) a))) is.is
        ∙ ap (λ o. given p s o (put_word p s (At rest end) at)) it.is
        ∙ ap (λ t. if t then Goes (here rest (with_word mid at x)) else stuck p s) (lt-ltb at most_words lt)) h

    module _ (m : Machine) (header : IsHeaderOf m p) where
      pub run_load : (n : ℕ) (v : Var) (size : ℕ) (e : CExpr) (a : ℕ) (rest : List Stmt) (mid : Mid) → has v ≡ true
          → is_size size ≡ true → Is (sees mid) e a
          → Run n (loaded_then v rest mid (loaded m.order m.align mid.memory size a))
          → Run (suc n) (Goes (here (Load v size e ∷ rest) mid))
      run_load n v size e a rest mid ok sized is h =
          let s = here (Load v size e ∷ rest) mid in
          let go = assign p s (At rest end) v in
          one n (Load v size e) rest mid (loaded_then v rest mid (loaded m.order m.align mid.memory size a))
          (done-Load p s v size e rest end ∙ ap (λ o. given p s o (load_into p s (At rest end) v size)) is.is
          ∙ ap (λ t. if t then with_access s (loaded p.header.order p.header.align mid.memory size a) go else stuck p s)
          sized
          ∙ ap (λ o. with_access s (loaded o p.header.align mid.memory size a) go) header.order
          ∙ ap (λ t. with_access s (loaded m.order t mid.memory size a) go) header.align
          ∙ load_is (loaded m.order m.align mid.memory size a) v (Load v size e ∷ rest) rest mid ok) h

      pub run_store : (n size : ℕ) (a e : CExpr) (at x : ℕ) (rest : List Stmt) (mid : Mid) → is_size size ≡ true
          → Is (sees mid) a at → Is (sees mid) e x
          → Run n (stored_then rest mid (stored m.order m.align mid.memory size at x))
          → Run (suc n) (Goes (here (Store size a e ∷ rest) mid))
      run_store n size a e at x rest mid sized is it h =
          let s = here (Store size a e ∷ rest) mid in
          let go = λ (memory : Contents). Goes (here rest (record mid { memory = memory })) in
          one n (Store size a e) rest mid (stored_then rest mid (stored m.order m.align mid.memory size at x))
          (done-Store p s size a e rest end
          ∙ ap (λ o. given p s o (λ a. with_value p s e (store_at p s (At rest end) size a))) is.is
          ∙ ap (λ o. given p s o (store_at p s (At rest end) size at)) it.is
          ∙ ap (λ t. if t then with_access s
          (stored p.header.order p.header.align mid.memory size at x) go else stuck p s) sized
          ∙ ap (λ o. with_access s (stored o p.header.align mid.memory size at x) go) header.order
          ∙ ap (λ t. with_access s (stored m.order t mid.memory size at x) go) header.align
          ∙ store_is (stored m.order m.align mid.memory size at x) (Store size a e ∷ rest) rest mid) h
