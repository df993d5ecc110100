-- Stretches of the C text's run: results, the choice among procedures, and the ways behind an instruction.
use Rattle.std.proofs.Common.{◌≡◌, ℕ, suc, ◌+◌, ◌<◌, ◌≤◌, Bool, true, false, List, [], ◌∷◌, ◌++◌, length, Option, Some, ◌⊎◌, inl, inr, refl, sym, ap, ◌∙◌, subst, ⊎_elim, arith, nat_lt, nat_le, max}
use Rattle.std.specs.Prelude.{slice_get, slice_index, if◌then◌else◌}
use Rattle.std.proofs.lemmas.Bool.{ltb-true, ltb-false, le-leb}
use Rattle.lockstep.specs.Runs.{Goes}
use Rattle.lockstep.proofs.Stretches.{Advances}
use Rattle.rtl_core.specs.Arithmetic.{flag}
use Rattle.c_lang.specs.declared.tree.COp.TheVariants.{Lt, Le}
use Rattle.c_lang.specs.declared.tree.CExpr.{CExpr}
use Rattle.c_lang.specs.declared.tree.CExpr.TheVariants.{Num, Of}
use Rattle.c_lang.specs.declared.tree.End.{End}
use Rattle.c_lang.specs.declared.tree.Program.{Program}
use Rattle.c_lang.specs.declared.tree.Stmt.{Stmt}
use Rattle.c_lang.specs.declared.tree.Stmt.TheVariants.{If}
use Rattle.c_lang.specs.declared.tree.Var.{Var}
use Rattle.c_lang.specs.declared.tree.Var.TheVariants.{Ra, Pt, Cell, Temp, Result, Wn, Depth, ServeE}
use Rattle.c_lang.specs.Value.{Vars, value}
use Rattle.c_lang.specs.State.{Frame, Outer, State, CNext, declared_in, with_var}
use Rattle.c_lang.specs.Step.{step}
use Rattle.c_lang.proofs.ValueLaws.{value-Num, value-Of}
use Rattle.c_control.specs.Choice.{Tree, Leaf, Node, leaf_of, levels, is_low, is_high, choose_c}
use Rattle.c_control.specs.Frames.{Agree}
use Rattle.c_control.specs.Pieces.{take_c, give_c}
use Rattle.c_control.proofs.Steps.{st, seen, bin, op-Lt, op-Le, room, set_run, if_passed, if_taken}
use Rattle.c_control.proofs.Cells.{In, in-here, in-more, in-cases, in-none, cell-set, result-set}

-- what all calls share, with a global variable set
abbrev pub with_global : Outer → Var → ℕ → Outer
with_global outer v n = record outer { globals = with_var outer.globals v n }

-- the outer part is the same but for results
pub record KeepsOuter (old new : Outer) : Type 0 where
  pub depth : new.globals Depth ≡ old.globals Depth
  pub flag_is : new.globals ServeE ≡ old.globals ServeE
  pub windows : new.globals Wn ≡ old.globals Wn
  pub words : new.words ≡ old.words
  pub world : new.world ≡ old.world
  pub output : new.output ≡ old.output

pub keeps-itself : (o : Outer) → KeepsOuter o o
keeps-itself o = record { depth = refl; flag_is = refl; windows = refl; words = refl; world = refl; output = refl }

pub keeps-then : (a b c : Outer) → KeepsOuter a b → KeepsOuter b c → KeepsOuter a c
keeps-then a b c h k = record {
  depth = k.depth ∙ h.depth;
  flag_is = k.flag_is ∙ h.flag_is;
  windows = k.windows ∙ h.windows;
  words = k.words ∙ h.words;
  world = k.world ∙ h.world;
  output = k.output ∙ h.output;
}

-- the function at a place declares these cells, so many temporaries, and what each function has
pub record Declared (p : Program) (fn : ℕ) (refs : List ℕ) (temps : ℕ) : Type 0 where
  pub cells : (c : ℕ) → In c refs → declared_in (slice_get p.functions fn) (Cell c) ≡ true
  pub temporaries : (k : ℕ) → k < temps → declared_in (slice_get p.functions fn) (Temp k) ≡ true
  pub results : (c : ℕ) → declared_in (slice_get p.functions fn) (Result c) ≡ true
  pub depth : declared_in (slice_get p.functions fn) Depth ≡ true
  pub flag : declared_in (slice_get p.functions fn) ServeE ≡ true
  pub target : declared_in (slice_get p.functions fn) Pt ≡ true

-- conditions before some statements that are all passed where `pt` is x
pub data Passes (x : Option ℕ) (base : List Stmt) : ℕ → List Stmt → Type 0 where
  over : Passes x base 0 base
  pass : {j : ℕ} {rest : List Stmt} (e : CExpr) (body : List Stmt) → ((vars : Vars) (outer : Outer) → vars Pt ≡ x → value (seen vars outer) e ≡ Some 0) → Passes x base j rest → Passes x base (suc j) (If e body ∷ rest)

module _ (p : Program) (out : List ℕ) (P : State → Type 0) (Q : CNext → Type 0) (same : (s : State) → s.outer.output ≡ out → P s) where
  abbrev Runs : ℕ → State → Type 0
  Runs k s = Advances (step p) P Q k (Goes s)

  pub passes_run : (x : Option ℕ) (base : List Stmt) {j : ℕ} {rest : List Stmt} (k fn : ℕ) (end : End) (vars : Vars) (frames : List Frame) (outer : Outer) → outer.output ≡ out → vars Pt ≡ x → Passes x base j rest
      → Runs k (st fn base end vars frames outer) → Runs (j + k) (st fn rest end vars frames outer)
  passes_run x base k fn end vars frames outer here pt over go = room p out P Q same (Goes (st fn base end vars frames outer)) k (0 + k) (omega arith) go
  passes_run x base k fn end vars frames outer here pt (pass {j = j} {rest = rest} e body h more) go =
      room p out P Q same (Goes (st fn (If e body ∷ rest) end vars frames outer)) (suc (j + k)) (suc j + k) (omega arith)
      (if_passed p out P Q same (j + k) fn e body rest end vars frames outer here (h vars outer pt) (passes_run x base k fn end vars frames outer here pt more go))

  -- ---- results are handed back, and taken
  pub give_run : (cells refs : List ℕ) (temps : ℕ) (cs ds : List ℕ) (k fn : ℕ) (rest : List Stmt) (end : End) (vars : Vars) (frames : List Frame) (outer : Outer) → outer.output ≡ out → Declared p fn refs temps
      → ((c : ℕ) → In c cs → vars (Cell c) ≡ Some (slice_index cells c)) → ((c : ℕ) → In c ds → outer.globals (Result c) ≡ Some (slice_index cells c))
      → ((new : Outer) → KeepsOuter outer new → ((c : ℕ) → In c cs ⊎ In c ds → new.globals (Result c) ≡ Some (slice_index cells c)) → Runs k (st fn rest end vars frames new))
      → Runs (length cs + k) (st fn (give_c cs rest) end vars frames outer)
  give_run cells refs temps [] ds k fn rest end vars frames outer here declared reads done go =
      room p out P Q same (Goes (st fn rest end vars frames outer)) k (0 + k) (omega arith) (go outer (keeps-itself outer) (λ c. ⊎_elim (λ i. in-none c i) (done c)))
  give_run cells refs temps (d ∷ cs) ds k fn rest end vars frames outer here declared reads done go =
      let v = slice_index cells d in
      let next = with_global outer (Result d) v in
      let done' : (c : ℕ) → In c (d ∷ ds) → next.globals (Result c) ≡ Some (slice_index cells c) =
      λ c i. ⊎_elim (λ h. h.0 ∙ ap (λ k. Some (slice_index cells k)) (sym h.1)) (λ h. h.0 ∙ done c (⊎_elim (λ e. absurd (h.1 e)) (λ j. j) (in-cases c d ds i))) (result-set outer.globals d v c) in
      room p out P Q same (Goes (st fn (give_c (d ∷ cs) rest) end vars frames outer)) (suc (length cs + k)) (length (d ∷ cs) + k) (omega arith)
      (set_run p out P Q same (length cs + k) fn (Result d) (Of (Cell d)) v (give_c cs rest) end vars frames outer here (value-Of (seen vars outer) (Cell d) ∙ reads d (in-here d cs)) (declared.results d)
      (give_run cells refs temps cs (d ∷ ds) k fn rest end vars frames next here declared (λ c i. reads c (in-more c d cs i)) done'
      (λ new keeps h. go new (keeps-then outer next new (record { depth = refl; flag_is = refl; windows = refl; words = refl; world = refl; output = refl }) keeps)
      (λ c. ⊎_elim (λ i. ⊎_elim (λ e. h c (inr (subst (λ x. In x (d ∷ ds)) (sym e) (in-here d ds)))) (λ j. h c (inl j)) (in-cases c d cs i)) (λ i. h c (inr (in-more c d ds i)))))))

  pub take_run : (refs cells : List ℕ) (temps : ℕ) (cs : List ℕ) (k fn : ℕ) (rest : List Stmt) (end : End) (vars : Vars) (frames : List Frame) (outer : Outer) → outer.output ≡ out → Declared p fn refs temps
      → ((c : ℕ) → In c cs → In c refs) → ((c : ℕ) → In c cs → outer.globals (Result c) ≡ Some (slice_index cells c)) → ((c : ℕ) → In c refs → (vars (Cell c) ≡ Some (slice_index cells c)) ⊎ In c cs)
      → ((new : Vars) → Agree refs cells new → new Ra ≡ vars Ra → new Pt ≡ vars Pt → Runs k (st fn rest end new frames outer))
      → Runs (length cs + k) (st fn (take_c cs rest) end vars frames outer)
  take_run refs cells temps [] k fn rest end vars frames outer here declared among results holds go =
      room p out P Q same (Goes (st fn rest end vars frames outer)) k (0 + k) (omega arith) (go vars (λ c i. ⊎_elim (λ e. e) (λ j. in-none c j) (holds c i)) refl refl)
  take_run refs cells temps (d ∷ cs) k fn rest end vars frames outer here declared among results holds go =
      let v = slice_index cells d in
      let next = with_var vars (Cell d) v in
      let holds' : (c : ℕ) → In c refs → (next (Cell c) ≡ Some (slice_index cells c)) ⊎ In c cs =
      λ c i. ⊎_elim (λ h. inl (h.0 ∙ ap (λ k. Some (slice_index cells k)) (sym h.1)))
      (λ h. ⊎_elim (λ e. inl (h.0 ∙ e)) (λ j. ⊎_elim (λ e. absurd (h.1 e)) (λ l. inr l) (in-cases c d cs j)) (holds c i)) (cell-set vars d v c) in
      room p out P Q same (Goes (st fn (take_c (d ∷ cs) rest) end vars frames outer)) (suc (length cs + k)) (length (d ∷ cs) + k) (omega arith)
      (set_run p out P Q same (length cs + k) fn (Cell d) (Of (Result d)) v (take_c cs rest) end vars frames outer here (value-Of (seen vars outer) (Result d) ∙ results d (in-here d cs)) (declared.cells d (among d (in-here d cs)))
      (take_run refs cells temps cs k fn rest end next frames outer here declared (λ c i. among c (in-more c d cs i)) (λ c i. results c (in-more c d cs i)) holds' go))

  -- ---- the choice among procedures
  low-value : (x middle : ℕ) (vars : Vars) (outer : Outer) → vars Pt ≡ Some x → value (seen vars outer) (is_low middle) ≡ Some (flag (nat_lt x middle))
  low-value x middle vars outer pt = bin (seen vars outer) Lt (Of Pt) (Num middle) x middle (flag (nat_lt x middle)) (value-Of (seen vars outer) Pt ∙ pt) (value-Num (seen vars outer) middle) (op-Lt x middle)

  high-value : (x middle : ℕ) (vars : Vars) (outer : Outer) → vars Pt ≡ Some x → value (seen vars outer) (is_high middle) ≡ Some (flag (nat_le middle x))
  high-value x middle vars outer pt = bin (seen vars outer) Le (Num middle) (Of Pt) middle x (flag (nat_le middle x)) (value-Num (seen vars outer) middle) (value-Of (seen vars outer) Pt ∙ pt) (op-Le middle x)

  -- the rest of a list of statements may be given later
  abbrev pub Joins : (List Stmt → List Stmt) → Type 0
  Joins code = (rest more : List Stmt) → code rest ++ more ≡ code (rest ++ more)

  pub choose-joins : (leaf : ℕ → List Stmt → List Stmt) → ((t : ℕ) → Joins (leaf t)) → (tree : Tree) → Joins (choose_c leaf tree)
  choose-joins leaf joins (Leaf t) = joins t
  choose-joins leaf joins (Node middle low high) = λ rest more. refl

  -- what stands behind the leaf are conditions that will be passed
  abbrev Leads : List Stmt → (ℕ → List Stmt → List Stmt) → ℕ → ℕ → (List Stmt → List Stmt) → ℕ → Type 0
  Leads base leaf x at code n = (j most k fn : ℕ) (rest : List Stmt) (end : End) (vars : Vars) (frames : List Frame) (outer : Outer) → outer.output ≡ out → vars Pt ≡ Some x → Passes (Some x) base j rest → j + n ≤ most
      → ((i : ℕ) (behind : List Stmt) → i ≤ most → Passes (Some x) base i behind → Runs k (st fn (leaf at behind) end vars frames outer))
      → Runs (n + n + k) (st fn (code rest) end vars frames outer)

  pub choose_run : (base : List Stmt) (leaf : ℕ → List Stmt → List Stmt) → ((t : ℕ) → Joins (leaf t)) → (tree : Tree) (x : ℕ) → Leads base leaf x (leaf_of tree x) (choose_c leaf tree) (levels tree)
  choose_run base leaf joins (Leaf t) x = λ j most k fn rest end vars frames outer here pt passes le go.
      room p out P Q same (Goes (st fn (leaf t rest) end vars frames outer)) k (0 + 0 + k) (omega arith) (go j rest (omega (arith, le)) passes)
  choose_run base leaf joins (Node middle low high) x = λ j most k fn rest end vars frames outer here pt passes le go.
      by j most k fn rest end vars frames outer here pt passes le (nat_lt x middle) refl (choose_run base leaf joins low x) (choose_run base leaf joins high x) go
    where
      by : (j most k fn : ℕ) (rest : List Stmt) (end : End) (vars : Vars) (frames : List Frame) (outer : Outer) → outer.output ≡ out → vars Pt ≡ Some x → Passes (Some x) base j rest → j + suc (max (levels low) (levels high)) ≤ most
          → (b : Bool) → nat_lt x middle ≡ b → Leads base leaf x (leaf_of low x) (choose_c leaf low) (levels low) → Leads base leaf x (leaf_of high x) (choose_c leaf high) (levels high)
          → ((i : ℕ) (behind : List Stmt) → i ≤ most → Passes (Some x) base i behind → Runs k (st fn (leaf (if b then leaf_of low x else leaf_of high x) behind) end vars frames outer))
          → Runs (suc (max (levels low) (levels high)) + suc (max (levels low) (levels high)) + k) (st fn (If (is_low middle) (choose_c leaf low []) ∷ If (is_high middle) (choose_c leaf high []) ∷ rest) end vars frames outer)
      by j most k fn rest end vars frames outer here pt passes le true e on_low on_high go =
          let behind = If (is_high middle) (choose_c leaf high []) ∷ rest in
          let under : x < middle = ltb-true x middle e in
          let never : nat_le middle x ≡ false = not-le middle x under in
          room p out P Q same (Goes (st fn (If (is_low middle) (choose_c leaf low []) ∷ behind) end vars frames outer)) (suc (levels low + levels low + k)) (suc (max (levels low) (levels high)) + suc (max (levels low) (levels high)) + k) (omega arith)
          (if_taken p out P Q same (levels low + levels low + k) fn 0 (is_low middle) (choose_c leaf low []) behind end vars frames outer here (low-value x middle vars outer pt ∙ ap (λ b. Some (flag b)) e)
          (subst (λ l. Runs (levels low + levels low + k) (st fn l end vars frames outer)) (sym (choose-joins leaf joins low [] behind))
          (on_low (suc j) most k fn behind end vars frames outer here pt
          (pass (is_high middle) (choose_c leaf high []) (λ vars outer pt. high-value x middle vars outer pt ∙ ap (λ b. Some (flag b)) never) passes) (omega (arith, le)) go)))
        where
          not-le : (a b : ℕ) → b < a → nat_le a b ≡ false
          not-le a b lt = grind (arith)
      by j most k fn rest end vars frames outer here pt passes le false e on_low on_high go =
          let behind = If (is_high middle) (choose_c leaf high []) ∷ rest in
          let up : middle ≤ x = omega (arith, ltb-false x middle e) in
          room p out P Q same (Goes (st fn (If (is_low middle) (choose_c leaf low []) ∷ behind) end vars frames outer)) (suc (suc (levels high + levels high + k))) (suc (max (levels low) (levels high)) + suc (max (levels low) (levels high)) + k) (omega arith)
          (if_passed p out P Q same (suc (levels high + levels high + k)) fn (is_low middle) (choose_c leaf low []) behind end vars frames outer here (low-value x middle vars outer pt ∙ ap (λ b. Some (flag b)) e)
          (if_taken p out P Q same (levels high + levels high + k) fn 0 (is_high middle) (choose_c leaf high []) rest end vars frames outer here (high-value x middle vars outer pt ∙ ap (λ b. Some (flag b)) (le-leb middle x up))
          (subst (λ l. Runs (levels high + levels high + k) (st fn l end vars frames outer)) (sym (choose-joins leaf joins high [] rest))
          (on_high j most k fn rest end vars frames outer here pt passes (omega (arith, le)) go))))
