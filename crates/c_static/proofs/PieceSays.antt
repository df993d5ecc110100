-- What calls, returns, choices and jumps mention.
use Rattle.std.proofs.Common.{◌≡◌, ℕ, suc, ◌^◌, ◌<◌, ◌≤◌, Bool, true, List, [], ◌∷◌, length, refl, sym, ap, subst, arith}
use Rattle.std.proofs.lemmas.List.{length-map}
use Rattle.rtl_core.specs.declared.point.Slot.{Slot}
use Rattle.rtl_core.specs.declared.point.Slot.TheVariants.{Seq, To, Dyn, CallTo, CallDyn, Ret}
use Rattle.c_lang.specs.declared.tree.COp.TheVariants.{Add, Sub, Mul, Div, Rem, Eq, Ne, Lt, Le}
use Rattle.c_lang.specs.declared.tree.Var.TheVariants.{Ra, Pt, Cell, Temp, Result, Depth, ServeE}
use Rattle.c_lang.specs.declared.tree.CExpr.{CExpr}
use Rattle.c_lang.specs.declared.tree.CExpr.TheVariants.{Num, Of, Bin}
use Rattle.c_lang.specs.declared.tree.Stmt.{Stmt}
use Rattle.c_lang.specs.declared.tree.Stmt.TheVariants.{Set, Call, If, Stop}
use Rattle.c_lang.specs.Items.{Mention, Calling}
use Rattle.points.specs.Control.{most_calls}
use Rattle.c_control.specs.Choice.{Tree, Leaf, Node, choose_c, is_low, is_high}
use Rattle.c_control.specs.Pieces.{undiscovered_stop, mismatch_stop, depth_stop, jumped_c, annuls_c, flags_c, stop_if, deeper_c, shallower_c, take_c, give_c, arguments_c, without, call_c, tail_c, leaf_c, near_c, pad_c, far_c, second_c, return_c}
use Rattle.c_control.specs.Plans.{Plan, ra_of}
use Rattle.c_control.proofs.Cells.{In, in-here, in-more, in-without}
use Rattle.c_static.proofs.Saying.{Uses, UsesAll, Says, uses-Num, uses-Of, uses-Bin, uses-none, uses-more, says-none, says-Set, says-Call, says-If, says-Stop}
use Rattle.c_static.proofs.Tidies.{Allows}

-- each leaf of a choice
abbrev pub AllLeaves : (ℕ → Type 0) → Tree → Type 0
AllLeaves Q (Leaf entry) = Q entry
AllLeaves Q (Node middle low high) = AllLeaves Q low × AllLeaves Q high

-- what a procedure that is entered asks for: a call of it with its cells, and that those are cells here
pub record MayCall (P : Mention → Type 0) (plan : Plan) (named : ℕ → Bool) (t : ℕ) : Type 0 where
  pub call : P (Calling t (suc (length (plan.refs t))))
  pub refs : (c : ℕ) → In c (plan.refs t) → named c ≡ true
  pub mods : (c : ℕ) → In c (plan.mods t) → named c ≡ true

-- each procedure may be entered
abbrev pub MayCallAny : (Mention → Type 0) → Plan → (ℕ → Bool) → Type 0
MayCallAny P plan named = AllLeaves (MayCall P plan named) plan.tree

-- what an arrival may enter
abbrev pub MayArrive : (Mention → Type 0) → Plan → (ℕ → Bool) → Slot → Type 0
MayArrive P plan named Seq = Unit {0}
MayArrive P plan named (To t) = Unit {0}
MayArrive P plan named (Dyn a) = plan.flow.table a ≡ [] → MayCallAny P plan named
MayArrive P plan named (CallTo t back) = MayCall P plan named t
MayArrive P plan named (CallDyn back) = MayCallAny P plan named
MayArrive P plan named Ret = Unit {0}

module _ (P : Mention → Type 0) (named : ℕ → Bool) (temps : ℕ) (allows : Allows P named temps) (few : 4 ≤ temps) where
  pub uses-Pt : Uses P (Of Pt)
  uses-Pt = uses-Of P Pt (allows.everywhere Pt refl)

  pub uses-Ra : Uses P (Of Ra)
  uses-Ra = uses-Of P Ra (allows.everywhere Ra refl)

  pub uses-ServeE : Uses P (Of ServeE)
  uses-ServeE = uses-Of P ServeE (allows.everywhere ServeE refl)

  uses-Depth : Uses P (Of Depth)
  uses-Depth = uses-Of P Depth (allows.everywhere Depth refl)

  pub uses-Temp : (k : ℕ) → k < 4 → Uses P (Of (Temp k))
  uses-Temp k lt = uses-Of P (Temp k) (allows.temp k (omega (arith, few, lt)))

  pub uses-flags : Uses P flags_c
  uses-flags = uses-Bin P Add jumped_c (Bin Mul (Num 2) annuls_c) (uses-Temp 1 (omega arith)) (uses-Bin P Mul (Num 2) annuls_c (uses-Num P 2) (uses-Temp 2 (omega arith)))

  pub says-stop_if : (condition : CExpr) (number : ℕ) (value : CExpr) (rest : List Stmt) → Uses P condition → Uses P value → Says P rest → Says P (stop_if condition number value rest)
  says-stop_if condition number value rest u w k = says-If P condition (Stop number value ∷ []) rest u (says-Stop P number value [] w (says-none P)) k

  says-deeper : (rest : List Stmt) → Says P rest → Says P (deeper_c rest)
  says-deeper rest k =
      says-stop_if (Bin Eq (Of Depth) (Num most_calls)) depth_stop (Num 0) (Set Depth (Bin Add (Of Depth) (Num 1)) ∷ rest) (uses-Bin P Eq (Of Depth) (Num most_calls) uses-Depth (uses-Num P most_calls)) (uses-Num P 0)
      (says-Set P Depth (Bin Add (Of Depth) (Num 1)) rest (allows.everywhere Depth refl) (uses-Bin P Add (Of Depth) (Num 1) uses-Depth (uses-Num P 1)) k)

  says-shallower : (rest : List Stmt) → Says P rest → Says P (shallower_c rest)
  says-shallower rest k = says-Set P Depth (Bin Sub (Of Depth) (Num 1)) rest (allows.everywhere Depth refl) (uses-Bin P Sub (Of Depth) (Num 1) uses-Depth (uses-Num P 1)) k

  says-take : (cells : List ℕ) (rest : List Stmt) → ((c : ℕ) → In c cells → named c ≡ true) → Says P rest → Says P (take_c cells rest)
  says-take [] rest h k = k
  says-take (c ∷ cells) rest h k =
      says-Set P (Cell c) (Of (Result c)) (take_c cells rest) (allows.cell c (h c (in-here c cells))) (uses-Of P (Result c) (allows.everywhere (Result c) refl))
      (says-take cells rest (λ d i. h d (in-more d c cells i)) k)

  says-give : (cells : List ℕ) (rest : List Stmt) → ((c : ℕ) → In c cells → named c ≡ true) → Says P rest → Says P (give_c cells rest)
  says-give [] rest h k = k
  says-give (c ∷ cells) rest h k =
      says-Set P (Result c) (Of (Cell c)) (give_c cells rest) (allows.everywhere (Result c) refl) (uses-Of P (Cell c) (allows.cell c (h c (in-here c cells))))
      (says-give cells rest (λ d i. h d (in-more d c cells i)) k)

  uses-arguments : (cells : List ℕ) → ((c : ℕ) → In c cells → named c ≡ true) → UsesAll P (arguments_c cells)
  uses-arguments [] h = uses-none P
  uses-arguments (c ∷ cells) h = uses-more P (Of (Cell c)) (arguments_c cells) (uses-Of P (Cell c) (allows.cell c (h c (in-here c cells)))) (uses-arguments cells (λ d i. h d (in-more d c cells i)))

  module _ (plan : Plan) where
    says-entered : (t : ℕ) (ra : CExpr) (rest : List Stmt) → MayCall P plan named t → Uses P ra → Says P rest → Says P (deeper_c (Call t (ra ∷ arguments_c (plan.refs t)) ∷ shallower_c rest))
    says-entered t ra rest may u k =
        let arguments = arguments_c (plan.refs t) in
        let size : suc (length (plan.refs t)) ≡ length (ra ∷ arguments) = ap suc (sym (length-map (plan.refs t) (λ c. Of (Cell c)))) in
        says-deeper (Call t (ra ∷ arguments) ∷ shallower_c rest)
        (says-Call P t (ra ∷ arguments) (shallower_c rest) (subst (λ n. P (Calling t n)) size may.call) (uses-more P ra arguments u (uses-arguments (plan.refs t) may.refs)) (says-shallower rest k))

    pub says-call : (back t : ℕ) (rest : List Stmt) → MayCall P plan named t → Says P rest → Says P (call_c plan back t rest)
    says-call back t rest may k = says-entered t (Num (ra_of plan.flow.setting back)) (take_c (plan.mods t) rest) may (uses-Num P (ra_of plan.flow.setting back)) (says-take (plan.mods t) rest may.mods k)

    pub says-tail : (p t : ℕ) (rest : List Stmt) → MayCall P plan named t → ((c : ℕ) → In c (plan.mods p) → named c ≡ true) → Says P rest → Says P (tail_c plan p t rest)
    says-tail p t rest may own k =
        says-entered t (Of Ra) (give_c (without (plan.mods p) (plan.mods t)) rest) may uses-Ra
        (says-give (without (plan.mods p) (plan.mods t)) rest (λ c i. own c (in-without c (plan.mods p) (plan.mods t) i)) k)

  pub says-leaf : (code : ℕ → List Stmt → List Stmt) (t : ℕ) (rest : List Stmt) → Says P (code t rest) → Says P (leaf_c code t rest)
  says-leaf code t rest k = says-stop_if (Bin Ne (Of Pt) (Num t)) undiscovered_stop (Of Pt) (code t rest) (uses-Bin P Ne (Of Pt) (Num t) uses-Pt (uses-Num P t)) uses-Pt k

  pub says-choose : (leaf : ℕ → List Stmt → List Stmt) (Q : ℕ → Type 0) → ((t : ℕ) (rest : List Stmt) → Q t → Says P rest → Says P (leaf t rest)) → (tree : Tree) (rest : List Stmt) → AllLeaves Q tree → Says P rest
      → Says P (choose_c leaf tree rest)
  says-choose leaf Q each (Leaf entry) rest h k = each entry rest h k
  says-choose leaf Q each (Node middle low high) rest h k =
      says-If P (is_low middle) (choose_c leaf low []) (If (is_high middle) (choose_c leaf high []) ∷ rest) (uses-Bin P Lt (Of Pt) (Num middle) uses-Pt (uses-Num P middle)) (says-choose leaf Q each low [] h.0 (says-none P))
      (says-If P (is_high middle) (choose_c leaf high []) rest (uses-Bin P Le (Num middle) (Of Pt) (uses-Num P middle) uses-Pt) (says-choose leaf Q each high [] h.1 (says-none P)) k)

  -- ---- returns

  uses-near : Uses P near_c
  uses-near = uses-Bin P Rem (Of Ra) (Num (2 ^ 33)) uses-Ra (uses-Num P (2 ^ 33))

  uses-pad : Uses P pad_c
  uses-pad = uses-Bin P Div (Of Ra) (Num (2 ^ 33)) uses-Ra (uses-Num P (2 ^ 33))

  uses-far : Uses P far_c
  uses-far = uses-Bin P Rem (Bin Add near_c pad_c) (Num (2 ^ 32)) (uses-Bin P Add near_c pad_c uses-near uses-pad) (uses-Num P (2 ^ 32))

  says-second : Says P second_c
  says-second =
      says-stop_if (Bin Eq pad_c (Num 0)) mismatch_stop (Of Pt) (stop_if (Bin Ne (Of Pt) far_c) mismatch_stop (Of Pt) []) (uses-Bin P Eq pad_c (Num 0) uses-pad (uses-Num P 0)) uses-Pt
      (says-stop_if (Bin Ne (Of Pt) far_c) mismatch_stop (Of Pt) [] (uses-Bin P Ne (Of Pt) far_c uses-Pt uses-far) uses-Pt (says-none P))

  pub says-return : (mods : List ℕ) (rest : List Stmt) → ((c : ℕ) → In c mods → named c ≡ true) → Says P rest → Says P (return_c mods rest)
  says-return mods rest h k =
      says-Set P ServeE (Bin Ne (Of Pt) near_c) (If (Of ServeE) second_c ∷ give_c mods rest) (allows.everywhere ServeE refl) (uses-Bin P Ne (Of Pt) near_c uses-Pt uses-near)
      (says-If P (Of ServeE) second_c (give_c mods rest) uses-ServeE says-second (says-give mods rest h k))
