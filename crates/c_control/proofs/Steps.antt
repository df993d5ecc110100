-- Steps of the C text from a state that is written out, and stretches of them, each said by what comes behind it.
use Rattle.std.proofs.Common.{◌≡◌, ℕ, suc, ◌+◌, ◌-◌, ◌*◌, ◌^◌, ◌%◌, ◌/◌, ◌≤◌, true, List, [], ◌∷◌, ◌++◌, Some, None, refl, sym, ap, ◌∙◌, subst, nat_lt, nat_le}
use Rattle.std.specs.Prelude.{slice_get, not, ◌==◌, if◌then◌else◌}
use Rattle.lockstep.specs.Runs.{Goes, Ends, Stops}
use Rattle.lockstep.specs.Meets.{Meets, met}
use Rattle.lockstep.proofs.Stretches.{Advances, advances_longer, advances_meets}
use Rattle.rtl_core.specs.declared.point.Point.{Point}
use Rattle.rtl_core.specs.declared.stop.Stop.{Stop}
use Rattle.rtl_core.specs.Arithmetic.{flag}
use Rattle.rtl_core.specs.Value.{choice}
use Rattle.c_lang.specs.declared.tree.CBlock.{CBlock}
use Rattle.c_lang.specs.declared.tree.Case.{Case}
use Rattle.c_lang.specs.declared.tree.COp.{COp}
use Rattle.c_lang.specs.declared.tree.COp.TheVariants.{Add, Sub, Mul, Div, Rem, Eq, Ne, Lt, Le}
use Rattle.c_lang.specs.declared.tree.CExpr.{CExpr}
use Rattle.c_lang.specs.declared.tree.CExpr.TheVariants.{Bin}
use Rattle.c_lang.specs.declared.tree.End.{End}
use Rattle.c_lang.specs.declared.tree.End.TheVariants.{Goto, Branch, Switch, Return}
use Rattle.c_lang.specs.declared.tree.Program.{Program}
use Rattle.c_lang.specs.declared.tree.Stmt.{Stmt}
use Rattle.c_lang.specs.declared.tree.Stmt.TheVariants.{Set, If, Call, Stop as StopWith}
use Rattle.c_lang.specs.declared.tree.Var.{Var}
use Rattle.c_lang.specs.Value.{Vars, value, both, op_value, word}
use Rattle.c_lang.specs.State.{Place, At, Frame, Outer, State, CNext, is_global, seen_vars, declared_in, to_place, put, stops}
use Rattle.c_lang.specs.Step.{step, step_at, ended, go_to, given, with_values, called, returned, block_of, blocks_in, case_of, named_stops}
use Rattle.c_lang.proofs.StepsFrom.{step-Set, step-If, step-Stop, step-Goto}
use Rattle.c_lang.proofs.StepLaws.{done-Call}
use Rattle.c_lang.proofs.ValueLaws.{value-Bin, both-Some}
use Rattle.c_control.specs.Pieces.{stop_if}

-- ---- states and values

-- a state, by its function, its statements and end, its variables, the frames below and what all share
abbrev pub st : ℕ → List Stmt → End → Vars → List Frame → Outer → State
st fn rest end vars frames outer = record { top = record { function = fn; place = At rest end; vars = vars }; below = frames; outer = outer }

-- the variables that such a state sees
abbrev pub seen : Vars → Outer → Vars
seen vars outer v = if is_global v then outer.globals v else vars v

-- a state whose place is known is written out
pub st-is : (t : State) (rest : List Stmt) (end : End) → t.top.place ≡ At rest end → t ≡ st t.top.function rest end t.top.vars t.below t.outer
st-is t rest end e = let P = λ (place : Place). to_place t place in ap P e

pub bin : (vars : Vars) (op : COp) (a b : CExpr) (x y r : ℕ) → value vars a ≡ Some x → value vars b ≡ Some y → op_value op x y ≡ Some r → value vars (Bin op a b) ≡ Some r
bin vars op a b x y r is_a is_b is_r = value-Bin vars op a b ∙ ap (λ o. both op o (value vars b)) is_a ∙ ap (λ o. both op (Some x) o) is_b ∙ both-Some op x y ∙ is_r

pub op-Add : (x y : ℕ) → op_value Add x y ≡ Some ((x + y) % word)
unfolding op_value
op-Add x y = refl

pub op-Sub : (x y : ℕ) → op_value Sub x y ≡ Some ((x + (word - y)) % word)
unfolding op_value
op-Sub x y = refl

pub op-Mul : (x y : ℕ) → op_value Mul x y ≡ Some ((x * y) % word)
unfolding op_value
op-Mul x y = refl

pub op-Div : (x y : ℕ) → op_value Div x y ≡ (if y == 0 then None else Some (x / y))
unfolding op_value
op-Div x y = refl

pub op-Rem : (x y : ℕ) → op_value Rem x y ≡ (if y == 0 then None else Some (x % y))
unfolding op_value
op-Rem x y = refl

pub op-Eq : (x y : ℕ) → op_value Eq x y ≡ Some (flag (x == y))
unfolding op_value
op-Eq x y = refl

pub op-Ne : (x y : ℕ) → op_value Ne x y ≡ Some (flag (not (x == y)))
unfolding op_value
op-Ne x y = refl

pub op-Lt : (x y : ℕ) → op_value Lt x y ≡ Some (flag (nat_lt x y))
unfolding op_value
op-Lt x y = refl

pub op-Le : (x y : ℕ) → op_value Le x y ≡ Some (flag (nat_le x y))
unfolding op_value
op-Le x y = refl

-- ---- single steps

-- the expressions of a call, all with a value
pub data HaveValues (vars : Vars) : List CExpr → List ℕ → Type 0 where
  none : HaveValues vars [] []
  more : {e : CExpr} {es : List CExpr} {n : ℕ} {ns : List ℕ} → value vars e ≡ Some n → HaveValues vars es ns → HaveValues vars (e ∷ es) (n ∷ ns)

with_values-is : (p : Program) (s : State) (es : List CExpr) (ns : List ℕ) (go : List ℕ → CNext) → HaveValues (seen_vars s) es ns → with_values p s es go ≡ go ns
with_values-is p s [] [] go none = refl
with_values-is p s [] (n ∷ ns) go h = elim h [ ]
with_values-is p s (e ∷ es) [] go h = elim h [ ]
with_values-is p s (e ∷ es) (n ∷ ns) go (more is rest) =
    ap (λ o. given p s o (λ n. with_values p s es (λ ns. go (n ∷ ns)))) is ∙ with_values-is p s es ns (λ ns. go (n ∷ ns)) rest

pub step-Call : (p : Program) (s : State) (entry : ℕ) (es : List CExpr) (ns : List ℕ) (rest : List Stmt) (end : End) → s.top.place ≡ At (Call entry es ∷ rest) end
    → HaveValues (seen_vars s) es ns → step p s ≡ called p s (At rest end) entry ns
step-Call p s entry es ns rest end place are =
    ap (step_at p s) place ∙ done-Call p s entry es rest end ∙ with_values-is p s es ns (called p s (At rest end) entry) are

pub step-Return : (p : Program) (s : State) → s.top.place ≡ At [] Return → step p s ≡ returned p s s.below
unfolding ended
step-Return p s place = rw place refl

pub step-Branch : (p : Program) (s : State) (e : CExpr) (n : ℕ) (first second : Point) (b : CBlock) → s.top.place ≡ At [] (Branch e first second) → value (seen_vars s) e ≡ Some n
    → block_of (blocks_in (slice_get p.functions s.top.function)) (choice n first second) ≡ Some b → step p s ≡ Goes (to_place s (At b.stmts b.end))
unfolding ended go_to
step-Branch p s e n first second b place is found = rw (place, is, found) refl

pub step-Switch : (p : Program) (s : State) (e : CExpr) (cases : List Case) (n k : ℕ) (other : CExpr) (to : Point) (b : CBlock) → s.top.place ≡ At [] (Switch e cases k other) → value (seen_vars s) e ≡ Some n
    → case_of cases n ≡ Some to → block_of (blocks_in (slice_get p.functions s.top.function)) to ≡ Some b → step p s ≡ Goes (to_place s (At b.stmts b.end))
unfolding ended go_to
step-Switch p s e cases n k other to b place is at found = rw (place, is, at, found) refl

pub step-Default : (p : Program) (s : State) (e : CExpr) (cases : List Case) (n k v : ℕ) (other : CExpr) (stop : Stop) → s.top.place ≡ At [] (Switch e cases k other) → value (seen_vars s) e ≡ Some n
    → case_of cases n ≡ None → value (seen_vars s) other ≡ Some v → slice_get (named_stops (v % 2 ^ 32)) k ≡ Some stop → step p s ≡ stops s stop
unfolding ended go_to
step-Default p s e cases n k v other stop place is at is_other named = rw (place, is, at, is_other, named) refl

-- ---- stretches
-- P says what holds on the way, at least wherever the output is `out`, and Q where it leads to
module _ (p : Program) (out : List ℕ) (P : State → Type 0) (Q : CNext → Type 0) (same : (s : State) → s.outer.output ≡ out → P s) where
  -- the run comes to Q by one step from x and at most k more
  abbrev pub Go : ℕ → CNext → Type 0
  Go k x = Advances (step p) P Q k x

  pub one : (s : State) (x : CNext) (k : ℕ) → s.outer.output ≡ out → step p s ≡ x → Go k x → Go (suc k) (Goes s)
  one s x k here is go = (same s here, subst (Meets (step p) P Q (suc k)) (sym is) (advances_meets (step p) P Q x go))

  pub last : (s : State) (x : CNext) → s.outer.output ≡ out → step p s ≡ x → Q x → Go 0 (Goes s)
  last s x here is q = (same s here, subst (Meets (step p) P Q 0) (sym is) (met q))

  pub room : (x : CNext) (j k : ℕ) → j ≤ k → Go j x → Go k x
  room x j k le go = advances_longer (step p) P Q le x go

  -- a variable is set
  pub set_run : (k fn : ℕ) (v : Var) (e : CExpr) (n : ℕ) (rest : List Stmt) (end : End) (vars : Vars) (frames : List Frame) (outer : Outer) → outer.output ≡ out
      → value (seen vars outer) e ≡ Some n → declared_in (slice_get p.functions fn) v ≡ true → Go k (Goes (put (st fn rest end vars frames outer) v n)) → Go (suc k) (Goes (st fn (Set v e ∷ rest) end vars frames outer))
  set_run k fn v e n rest end vars frames outer here is declared go =
      let s = st fn (Set v e ∷ rest) end vars frames outer in
      one s (Goes (put (st fn rest end vars frames outer) v n)) k here (step-Set p s v e n rest end refl is declared) go

  -- a condition that does not hold, and one that does
  pub if_passed : (k fn : ℕ) (e : CExpr) (body rest : List Stmt) (end : End) (vars : Vars) (frames : List Frame) (outer : Outer) → outer.output ≡ out
      → value (seen vars outer) e ≡ Some 0 → Go k (Goes (st fn rest end vars frames outer)) → Go (suc k) (Goes (st fn (If e body ∷ rest) end vars frames outer))
  if_passed k fn e body rest end vars frames outer here is go =
      let s = st fn (If e body ∷ rest) end vars frames outer in
      one s (Goes (st fn rest end vars frames outer)) k here (step-If p s e 0 body rest end refl is) go

  pub if_taken : (k fn n : ℕ) (e : CExpr) (body rest : List Stmt) (end : End) (vars : Vars) (frames : List Frame) (outer : Outer) → outer.output ≡ out
      → value (seen vars outer) e ≡ Some (suc n) → Go k (Goes (st fn (body ++ rest) end vars frames outer)) → Go (suc k) (Goes (st fn (If e body ∷ rest) end vars frames outer))
  if_taken k fn n e body rest end vars frames outer here is go =
      let s = st fn (If e body ∷ rest) end vars frames outer in
      one s (Goes (st fn (body ++ rest) end vars frames outer)) k here (step-If p s e (suc n) body rest end refl is) go

  -- the run stops where a condition holds
  pub stops_run : (fn n k v : ℕ) (e ve : CExpr) (stop : Stop) (rest : List Stmt) (end : End) (vars : Vars) (frames : List Frame) (outer : Outer) → outer.output ≡ out
      → value (seen vars outer) e ≡ Some (suc n) → value (seen vars outer) ve ≡ Some v → slice_get (named_stops (v % 2 ^ 32)) k ≡ Some stop → Q (Ends out (Stops stop))
      → Go 1 (Goes (st fn (stop_if e k ve rest) end vars frames outer))
  stops_run fn n k v e ve stop rest end vars frames outer here is is_v named q =
      let s = st fn (StopWith k ve ∷ rest) end vars frames outer in
      if_taken 0 fn n e (StopWith k ve ∷ []) rest end vars frames outer here is
      (last s (Ends out (Stops stop)) here (step-Stop p s k v ve stop rest end refl is_v named ∙ ap (λ o. Ends o (Stops stop)) here) q)

  -- on at a label, by a goto, a choice of two and a switch
  pub goto_run : (k fn : ℕ) (to : Point) (b : CBlock) (vars : Vars) (frames : List Frame) (outer : Outer) → outer.output ≡ out → block_of (blocks_in (slice_get p.functions fn)) to ≡ Some b
      → Go k (Goes (st fn b.stmts b.end vars frames outer)) → Go (suc k) (Goes (st fn [] (Goto to) vars frames outer))
  goto_run k fn to b vars frames outer here found go =
      let s = st fn [] (Goto to) vars frames outer in one s (Goes (st fn b.stmts b.end vars frames outer)) k here (step-Goto p s to b refl found) go
