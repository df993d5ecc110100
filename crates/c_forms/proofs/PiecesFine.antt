-- The statements of calls, returns, services and choices have a form.
use Rattle.std.proofs.Common.{◌≡◌, ℕ, zero, suc, ◌<◌, ◌+◌, ◌*◌, ◌≤◌, ◌^◌, ◌==◌, max, Bool, true, false, if◌then◌else◌, Option, Some, None, List, [], ◌∷◌, map, length, All, refl, arith}
use Rattle.std.proofs.lemmas.List.Elements.{All-nil, All-cons, All-head, All-tail, All-filter}
use Rattle.std.specs.Prelude.{not}
use Rattle.rtl_core.specs.declared.conv.ServiceShape.{ServiceShape}
use Rattle.rtl_core.specs.declared.machine.Machine.{Machine}
use Rattle.rtl_core.specs.SoundConv.{AreServiceCells, IsCellIfAny}
use Rattle.c_lang.specs.declared.tree.COp.TheVariants.{Add, Sub, Mul, Div, Rem, Eq, Ne, Lt, Le}
use Rattle.c_lang.specs.declared.tree.CExpr.{CExpr}
use Rattle.c_lang.specs.declared.tree.CExpr.TheVariants.{Num, Of, Bin}
use Rattle.c_lang.specs.declared.tree.Stmt.{Stmt}
use Rattle.c_lang.specs.declared.tree.Stmt.TheVariants.{Set, Serve, Call, If, Stop}
use Rattle.c_lang.specs.declared.tree.Var.{Var}
use Rattle.c_lang.specs.declared.tree.Var.TheVariants.{Ra, Pt, Cell, Temp, Result, Depth, ServeR, ServeE}
use Rattle.c_lang.specs.State.{has}
use Rattle.c_lang.specs.Spellable.{var_misfits}
use Rattle.c_lang.proofs.SpellingLaws.{fits}
use Rattle.c_lower.specs.Cells.{cell_c, set_c}
use Rattle.points.specs.Control.{most_calls}
use Rattle.c_control.specs.Choice.{Tree, Leaf, Node, levels, choose_c, is_low, is_high}
use Rattle.c_control.specs.Pieces.{illegal_stop, undiscovered_stop, mismatch_stop, depth_stop, couple_stop, jump_target_c, jumped_c, annuls_c, flags_c, stop_if, deeper_c, shallower_c, take_c, give_c, arguments_c, without, call_c, tail_c, leaf_c, near_c, pad_c, far_c, second_c, return_c}
use Rattle.c_control.specs.Plans.{Plan, ra_of}
use Rattle.c_control.specs.Services.{flag_c, answer_c, service_c, service_due_c}
use Rattle.c_forms.proofs.Fine.{Small, SmallBy, small, num-by, var-by, bin-by, more-by, small-num, small-var, Fine, fine-more, fine-set, fine-stop, fine-serve, fine-call, fine-if}

abbrev Cells : List ℕ → Type 0
Cells cells = All (λ c. c < 2 ^ 8) cells

-- ---- the variables of control

pub jumped-by : SmallBy 0 jumped_c
jumped-by = var-by (Temp 1) (fits 16 1 (omega arith))

pub annuls-by : SmallBy 0 annuls_c
annuls-by = var-by (Temp 2) (fits 16 2 (omega arith))

pub flags-by : SmallBy 2 flags_c
flags-by = bin-by 1 Add jumped_c (Bin Mul (Num 2) annuls_c) (more-by 0 1 jumped_c (omega arith) jumped-by) (bin-by 0 Mul (Num 2) annuls_c (num-by 2 (omega arith)) annuls-by)

pub target-by : SmallBy 0 jump_target_c
target-by = var-by (Temp 0) (fits 16 0 (omega arith))

-- the run stops where a condition holds
pub stop-fine : (k : ℕ) (condition : CExpr) (number : ℕ) (value : CExpr) (rest : List Stmt) → Small condition → number < 2 ^ 64 → Small value → All (Fine (suc k)) rest
    → All (Fine (suc k)) (stop_if condition number value rest)
stop-fine k condition number value rest c lt v h =
    All-cons (Fine (suc k)) (If condition (Stop number value ∷ [])) rest (fine-if k condition (Stop number value ∷ []) c (All-cons (Fine k) (Stop number value) [] (fine-stop k number value lt v) (All-nil (Fine k)))) h

-- ---- calls

deeper-fine : (k : ℕ) (rest : List Stmt) → All (Fine (suc k)) rest → All (Fine (suc k)) (deeper_c rest)
deeper-fine k rest h =
    let up = Bin Add (Of Depth) (Num 1) in
    let depth = var-by Depth refl in
    stop-fine k (Bin Eq (Of Depth) (Num most_calls)) depth_stop (Num 0) (Set Depth up ∷ rest) (small 1 _ (omega arith) (bin-by 0 Eq (Of Depth) (Num most_calls) depth (num-by most_calls (omega arith)))) (omega arith) (small-num 0 (omega arith))
    (All-cons (Fine (suc k)) (Set Depth up) rest (fine-set (suc k) Depth up refl (small 1 up (omega arith) (bin-by 0 Add (Of Depth) (Num 1) depth (num-by 1 (omega arith))))) h)

shallower-fine : (k : ℕ) (rest : List Stmt) → All (Fine k) rest → All (Fine k) (shallower_c rest)
shallower-fine k rest h =
    let down = Bin Sub (Of Depth) (Num 1) in
    All-cons (Fine k) (Set Depth down) rest (fine-set k Depth down refl (small 1 down (omega arith) (bin-by 0 Sub (Of Depth) (Num 1) (var-by Depth refl) (num-by 1 (omega arith))))) h

take-fine : (k : ℕ) (cells : List ℕ) (rest : List Stmt) → Cells cells → All (Fine k) rest → All (Fine k) (take_c cells rest)
take-fine k [] rest c h = h
take-fine k (x ∷ cells) rest c h =
    let lt = All-head (λ c. c < 2 ^ 8) x cells c in
    All-cons (Fine k) (Set (Cell x) (Of (Result x))) (take_c cells rest) (fine-set k (Cell x) (Of (Result x)) (fits 8 x lt) (small-var (Result x) (fits 8 x lt)))
    (take-fine k cells rest (All-tail (λ c. c < 2 ^ 8) x cells c) h)

give-fine : (k : ℕ) (cells : List ℕ) (rest : List Stmt) → Cells cells → All (Fine k) rest → All (Fine k) (give_c cells rest)
give-fine k [] rest c h = h
give-fine k (x ∷ cells) rest c h =
    let lt = All-head (λ c. c < 2 ^ 8) x cells c in
    All-cons (Fine k) (Set (Result x) (Of (Cell x))) (give_c cells rest) (fine-set k (Result x) (Of (Cell x)) (fits 8 x lt) (small-var (Cell x) (fits 8 x lt)))
    (give-fine k cells rest (All-tail (λ c. c < 2 ^ 8) x cells c) h)

arguments-small : (cells : List ℕ) → Cells cells → All Small (arguments_c cells)
arguments-small [] c = All-nil Small
arguments-small (x ∷ cells) c =
    All-cons Small (Of (Cell x)) (arguments_c cells) (small-var (Cell x) (fits 8 x (All-head (λ c. c < 2 ^ 8) x cells c))) (arguments-small cells (All-tail (λ c. c < 2 ^ 8) x cells c))

module _ (plan : Plan) (refs : (p : ℕ) → Cells (plan.refs p)) (mods : (p : ℕ) → Cells (plan.mods p)) where
  pub call-fine : (back t : ℕ) (k : ℕ) (rest : List Stmt) → t < 2 ^ 32 → ra_of plan.flow.setting back < 2 ^ 64 → All (Fine (suc k)) rest → All (Fine (suc k)) (call_c plan back t rest)
  call-fine back t k rest lt ra h =
      let arguments : List CExpr = Num (ra_of plan.flow.setting back) ∷ arguments_c (plan.refs t) in
      let behind : List Stmt = shallower_c (take_c (plan.mods t) rest) in
      deeper-fine k (Call t arguments ∷ behind) (All-cons (Fine (suc k)) (Call t arguments) behind
      (fine-call (suc k) t arguments lt (All-cons Small (Num (ra_of plan.flow.setting back)) (arguments_c (plan.refs t)) (small-num _ ra) (arguments-small (plan.refs t) (refs t))))
      (shallower-fine (suc k) (take_c (plan.mods t) rest) (take-fine (suc k) (plan.mods t) rest (mods t) h)))

  pub tail-fine : (p t : ℕ) (k : ℕ) (rest : List Stmt) → t < 2 ^ 32 → All (Fine (suc k)) rest → All (Fine (suc k)) (tail_c plan p t rest)
  tail-fine p t k rest lt h =
      let arguments : List CExpr = Of Ra ∷ arguments_c (plan.refs t) in
      let own = without (plan.mods p) (plan.mods t) in
      let behind : List Stmt = shallower_c (give_c own rest) in
      deeper-fine k (Call t arguments ∷ behind) (All-cons (Fine (suc k)) (Call t arguments) behind
      (fine-call (suc k) t arguments lt (All-cons Small (Of Ra) (arguments_c (plan.refs t)) (small-var Ra refl) (arguments-small (plan.refs t) (refs t))))
      (shallower-fine (suc k) (give_c own rest) (give-fine (suc k) own rest (All-filter (λ x. not (has (plan.mods t) x)) (λ c. c < 2 ^ 8) (plan.mods p) (mods p)) h)))

-- code for a procedure has a form, whatever stands behind it
abbrev pub LeafFine : (ℕ → List Stmt → List Stmt) → Type 0
LeafFine leaf = (t k : ℕ) (rest : List Stmt) → t < 2 ^ 32 → All (Fine (suc k)) rest → All (Fine (suc k)) (leaf t rest)

pub leaf-fine : (code : ℕ → List Stmt → List Stmt) → LeafFine code → LeafFine (leaf_c code)
leaf-fine code fine t k rest lt h =
    let pt = small-var Pt refl in
    stop-fine k (Bin Ne (Of Pt) (Num t)) undiscovered_stop (Of Pt) (code t rest) (small 1 _ (omega arith) (bin-by 0 Ne (Of Pt) (Num t) (var-by Pt refl) (num-by t (omega (arith, lt))))) (omega arith) pt (fine t k rest lt h)

-- ---- the choice among procedures

-- the numbers in a choice have 32 bits
abbrev pub TreeFits : Tree → Type 0
TreeFits (Leaf entry) = entry < 2 ^ 32
TreeFits (Node middle low high) = (middle < 2 ^ 32) × TreeFits low × TreeFits high

module _ (leaf : ℕ → List Stmt → List Stmt) (fine : LeafFine leaf) where
  pub choose-fine : (n : ℕ) (tree : Tree) (rest : List Stmt) → levels tree ≤ n → TreeFits tree → All (Fine (suc n)) rest → All (Fine (suc n)) (choose_c leaf tree rest)
  choose-fine n (Leaf entry) rest le t h = fine entry n rest t h
  choose-fine zero (Node middle low high) rest le t h = absurd (omega (arith, le))
  choose-fine (suc n) (Node middle low high) rest le t h =
      let lower = choose-fine n low [] (omega (arith, le)) t.1 (All-nil (Fine (suc n))) in
      let upper = choose-fine n high [] (omega (arith, le)) t.2 (All-nil (Fine (suc n))) in
      let middle-by = num-by middle (omega (arith, t.0)) in
      let low-small : Small (is_low middle) = small 1 _ (omega arith) (bin-by 0 Lt (Of Pt) (Num middle) (var-by Pt refl) middle-by) in
      let high-small : Small (is_high middle) = small 1 _ (omega arith) (bin-by 0 Le (Num middle) (Of Pt) middle-by (var-by Pt refl)) in
      All-cons (Fine (suc (suc n))) (If (is_low middle) (choose_c leaf low [])) (If (is_high middle) (choose_c leaf high []) ∷ rest) (fine-if (suc n) (is_low middle) (choose_c leaf low []) low-small lower)
      (All-cons (Fine (suc (suc n))) (If (is_high middle) (choose_c leaf high [])) rest (fine-if (suc n) (is_high middle) (choose_c leaf high []) high-small upper) h)

-- ---- returns

near-by : SmallBy 1 near_c
near-by = bin-by 0 Rem (Of Ra) (Num (2 ^ 33)) (var-by Ra refl) (num-by (2 ^ 33) (omega arith))

pad-by : SmallBy 1 pad_c
pad-by = bin-by 0 Div (Of Ra) (Num (2 ^ 33)) (var-by Ra refl) (num-by (2 ^ 33) (omega arith))

far-by : SmallBy 3 far_c
far-by = bin-by 2 Rem (Bin Add near_c pad_c) (Num (2 ^ 32)) (bin-by 1 Add near_c pad_c near-by pad-by) (more-by 0 2 (Num (2 ^ 32)) (omega arith) (num-by (2 ^ 32) (omega arith)))

second-fine : All (Fine 1) second_c
second-fine =
    let pt = small-var Pt refl in
    stop-fine 0 (Bin Eq pad_c (Num 0)) mismatch_stop (Of Pt) (stop_if (Bin Ne (Of Pt) far_c) mismatch_stop (Of Pt) []) (small 2 _ (omega arith) (bin-by 1 Eq pad_c (Num 0) pad-by (more-by 0 1 (Num 0) (omega arith) (num-by 0 (omega arith))))) (omega arith) pt
    (stop-fine 0 (Bin Ne (Of Pt) far_c) mismatch_stop (Of Pt) [] (small 4 _ (omega arith) (bin-by 3 Ne (Of Pt) far_c (more-by 0 3 (Of Pt) (omega arith) (var-by Pt refl)) far-by)) (omega arith) pt (All-nil (Fine 1)))

pub return-fine : (k : ℕ) (mods : List ℕ) (rest : List Stmt) → Cells mods → All (Fine (suc (suc k))) rest → All (Fine (suc (suc k))) (return_c mods rest)
return-fine k mods rest cells h =
    let other = Bin Ne (Of Pt) near_c in
    let n = suc (suc k) in
    All-cons (Fine n) (Set ServeE other) (If (Of ServeE) second_c ∷ give_c mods rest) (fine-set n ServeE other refl (small 2 other (omega arith) (bin-by 1 Ne (Of Pt) near_c (more-by 0 1 (Of Pt) (omega arith) (var-by Pt refl)) near-by)))
    (All-cons (Fine n) (If (Of ServeE) second_c) (give_c mods rest) (fine-if (suc k) (Of ServeE) second_c (small-var ServeE refl) (fine-more 1 (suc k) second_c (omega arith) second-fine)) (give-fine n mods rest cells h))

-- ---- services

cell-small : (z : Option ℕ) (c : ℕ) → c < 2 ^ 8 → Small (cell_c z c)
cell-small None c lt = small-var (Cell c) (fits 8 c lt)
cell-small (Some z) c lt = by (c == z)
  where
    by : (b : Bool) → Small (if b then Num 0 else Of (Cell c))
    by true = small-num 0 (omega arith)
    by false = small-var (Cell c) (fits 8 c lt)

set-fine : (k : ℕ) (z : Option ℕ) (c : ℕ) (v : Var) (rest : List Stmt) → c < 2 ^ 8 → var_misfits v ≡ 0 → All (Fine k) rest → All (Fine k) (set_c z c (Of v) rest)
set-fine k z c v rest lt vt h = by z
  where
    set : All (Fine k) (Set (Cell c) (Of v) ∷ rest)
    set = All-cons (Fine k) (Set (Cell c) (Of v)) rest (fine-set k (Cell c) (Of v) (fits 8 c lt) (small-var v vt)) h

    choose : (b : Bool) → All (Fine k) (if b then rest else Set (Cell c) (Of v) ∷ rest)
    choose true = h
    choose false = set

    by : (z : Option ℕ) → All (Fine k) (set_c z c (Of v) rest)
    by None = set
    by (Some z) = choose (c == z)

module _ (m : Machine) (few : length m.widths ≤ 120) where
  flag-fine : (k : ℕ) (o : Option ℕ) (rest : List Stmt) → IsCellIfAny m 1 o → All (Fine k) rest → All (Fine k) (flag_c m.zero o rest)
  flag-fine k None rest c h = h
  flag-fine k (Some e) rest c h = set-fine k m.zero e ServeE rest (omega (arith, c.0, few)) refl h

  service-fine : (k : ℕ) (s : ServiceShape) (rest : List Stmt) → AreServiceCells m s → All (Fine k) rest → All (Fine k) (service_c m.zero s rest)
  service-fine k s rest cells h =
      let z = m.zero in
      All-cons (Fine k) (Serve (cell_c z s.number) (cell_c z s.arg_x) (cell_c z s.arg_y) (cell_c z s.arg_z)) (answer_c z s rest)
      (fine-serve k (cell_c z s.number) (cell_c z s.arg_x) (cell_c z s.arg_y) (cell_c z s.arg_z) (cell-small z s.number (omega (arith, cells.number.0, few))) (cell-small z s.arg_x (omega (arith, cells.arg_x.0, few)))
      (cell-small z s.arg_y (omega (arith, cells.arg_y.0, few))) (cell-small z s.arg_z (omega (arith, cells.arg_z.0, few))))
      (set-fine k z s.result ServeR (flag_c z s.error rest) (omega (arith, cells.result.0, few)) refl (flag-fine k s.error rest cells.error h))

  pub due-fine : (k : ℕ) (can : Bool) (o : Option ServiceShape) (rest : List Stmt) → ((s : ServiceShape) → o ≡ Some s → AreServiceCells m s) → All (Fine (suc k)) rest → All (Fine (suc k)) (service_due_c m.zero can o rest)
  due-fine k false o rest cells h = h
  due-fine k true None rest cells h = h
  due-fine k true (Some s) rest cells h =
      let body = service_c m.zero s [] in
      All-cons (Fine (suc k)) (If (Of (Temp 3)) body) rest (fine-if k (Of (Temp 3)) body (small-var (Temp 3) (fits 16 3 (omega arith))) (service-fine k s [] (cells s refl) (All-nil (Fine k)))) h
