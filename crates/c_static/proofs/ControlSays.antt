-- What control behind an instruction mentions, its labels aside.
use Rattle.std.proofs.Common.{◌≡◌, ℕ, ◌≤◌, Bool, true, false, ◌&&◌, List, [], ◌∷◌, Option, Some, None, refl, arith}
use Rattle.std.specs.Prelude.{if◌then◌else◌}
use Rattle.rtl_core.specs.declared.point.Point.{Point}
use Rattle.rtl_core.specs.declared.point.Slot.{Slot}
use Rattle.rtl_core.specs.declared.point.Slot.TheVariants.{Seq, To, Dyn, CallTo, CallDyn, Ret}
use Rattle.points.specs.declared.block.JumpKind.{JumpKind}
use Rattle.points.specs.declared.block.Mode.{Mode}
use Rattle.points.specs.declared.block.Mode.TheVariants.{Never, Maybe, Always}
use Rattle.points.specs.Kinds.{further as further_on, past_slot, second}
use Rattle.points.specs.Courses.{point, pending}
use Rattle.c_lang.specs.declared.tree.COp.TheVariants.{Add, Eq}
use Rattle.c_lang.specs.declared.tree.Var.TheVariants.{Pt, Temp, ServeE}
use Rattle.c_lang.specs.declared.tree.CExpr.{CExpr}
use Rattle.c_lang.specs.declared.tree.CExpr.TheVariants.{Num, Of, Bin}
use Rattle.c_lang.specs.declared.tree.Stmt.{Stmt}
use Rattle.c_lang.specs.declared.tree.Stmt.TheVariants.{Set, If}
use Rattle.c_lang.specs.Items.{Mention}
use Rattle.c_control.specs.Blocks.{Code, ends, code, ways, arrival_code, arrival_point, jump_code, behind_call_by, can_arrive, always_arrives, is_selected, selector_c, selected_behind, selected_c, selected_code, jump_ways, code_from_seq, code_without_jump, control_by, annul_for, annul_ways, couple_jump, couple_any, keep_target}
use Rattle.c_control.specs.Choice.{choose_c}
use Rattle.c_control.specs.Pieces.{couple_stop, jump_target_c, jumped_c, annuls_c, flags_c, stop_if, call_c, tail_c, leaf_c}
use Rattle.c_control.specs.Plans.{Plan}
use Rattle.c_control.proofs.Cells.{In}
use Rattle.c_static.proofs.Saying.{Uses, Says, EndUses, uses-Num, uses-Bin, says-none, says-Set, says-If}
use Rattle.c_static.proofs.Tidies.{Allows}
use Rattle.c_static.proofs.PieceSays.{MayCall, MayCallAny, MayArrive, uses-Pt, uses-ServeE, uses-Temp, uses-flags, says-stop_if, says-call, says-tail, says-leaf, says-choose, says-return}

-- P holds of all that some code mentions, its labels aside
pub record CodeSays (P : Mention → Type 0) (c : Code) : Type 0 where
  pub stmts : Says P c.stmts
  pub end : EndUses P c.end

no-way : {A : Type 0} → false ≡ true → A
no-way e = let no : ⊥ = cc in absurd no

and-first : (x y : Bool) → (x && y) ≡ true → x ≡ true
and-first true y e = refl
and-first false y e = no-way e

both-do : (j a : Mode) → always_arrives j a ≡ true → can_arrive j a ≡ true
both-do Never a e = no-way e
both-do Maybe a e = no-way e
both-do Always Never e = no-way e
both-do Always Maybe e = no-way e
both-do Always Always e = refl

module _ (P : Mention → Type 0) (named : ℕ → Bool) (temps : ℕ) (allows : Allows P named temps) (few : 4 ≤ temps) (plan : Plan) (p : ℕ) (own : (c : ℕ) → In c (plan.mods p) → named c ≡ true) where
  pt : Uses P (Of Pt)
  pt = uses-Pt P named temps allows few

  jumped : Uses P jumped_c
  jumped = uses-Temp P named temps allows few 1 (omega arith)

  annuls : Uses P annuls_c
  annuls = uses-Temp P named temps allows few 2 (omega arith)

  flags : Uses P flags_c
  flags = uses-flags P named temps allows few

  -- ---- arrivals

  calls-one : (back t : ℕ) (rest : List Stmt) → MayCall P plan named t → Says P rest → Says P (call_c plan back t rest)
  calls-one back t rest may k = says-call P named temps allows few plan back t rest may k

  calls-any : (back : ℕ) (rest : List Stmt) → MayCallAny P plan named → Says P rest → Says P (choose_c (leaf_c (call_c plan back)) plan.tree rest)
  calls-any back rest may k =
      says-choose P named temps allows few (leaf_c (call_c plan back)) (MayCall P plan named) (λ t r m s. says-leaf P named temps allows few (call_c plan back) t r (calls-one back t r m s)) plan.tree rest may k

  jumps-any : MayCallAny P plan named → Says P (choose_c (leaf_c (tail_c plan p)) plan.tree [])
  jumps-any may =
      says-choose P named temps allows few (leaf_c (tail_c plan p)) (MayCall P plan named)
      (λ t r m s. says-leaf P named temps allows few (tail_c plan p) t r (says-tail P named temps allows few plan p t r m own s)) plan.tree [] may (says-none P)

  behind-uses : (back : ℕ) (o : Option ℕ) → EndUses P (behind_call_by back o)
  behind-uses back None = tt
  behind-uses back (Some s) = (uses-ServeE P named temps allows few, uses-Num P 0)

  jump-says : (ts : List ℕ) → (ts ≡ [] → MayCallAny P plan named) → CodeSays P (jump_code plan p ts)
  jump-says [] may = record { stmts = jumps-any (may refl); end = tt }
  jump-says (t ∷ ts) may = record { stmts = says-none P; end = (pt, pt) }

  pub arrival-says : (slot : Slot) → MayArrive P plan named slot → CodeSays P (arrival_code plan p slot)
  arrival-says Seq may = record { stmts = says-none P; end = uses-Num P 0 }
  arrival-says (To t) may = record { stmts = says-none P; end = tt }
  arrival-says (Dyn a) may = jump-says (plan.flow.table a) may
  arrival-says (CallTo t back) may = record { stmts = calls-one back t [] may (says-none P); end = behind-uses back (second plan.flow.setting back) }
  arrival-says (CallDyn back) may = record { stmts = calls-any back [] may (says-none P); end = behind-uses back (second plan.flow.setting back) }
  arrival-says Ret may = record { stmts = says-return P named temps allows few (plan.mods p) [] own (says-none P); end = tt }

  -- ---- ways

  ways-use : (j a : Mode) (stays jumps annuls both : Point) → EndUses P (ways j a stays jumps annuls both)
  ways-use Never Never s m n b = tt
  ways-use Never Maybe s m n b = annuls
  ways-use Never Always s m n b = tt
  ways-use Maybe Never s m n b = jumped
  ways-use Maybe Maybe s m n b = (flags, uses-Num P 0)
  ways-use Maybe Always s m n b = jumped
  ways-use Always Never s m n b = tt
  ways-use Always Maybe s m n b = annuls
  ways-use Always Always s m n b = tt

  ends-say : (j a : Mode) (stays jumps annuls both : Point) → CodeSays P (ends (ways j a stays jumps annuls both))
  ends-say j a s m n b = record { stmts = says-none P; end = ways-use j a s m n b }

  -- ---- an arrival under a guard

  selector-uses : (delayed : Bool) → Uses P (selector_c delayed)
  selector-uses true = flags
  selector-uses false = uses-Bin P Add jumped_c (Num 2) jumped (uses-Num P 2)

  sets-one : (e : CExpr) (rest : List Stmt) → Uses P e → Says P rest → Says P (Set (Temp 1) e ∷ rest)
  sets-one e rest u k = says-Set P (Temp 1) e rest (allows.temp 1 (omega (arith, few))) u k

  behind-says : Says P selected_behind
  behind-says = sets-one (Bin Add (Num 4) (Of ServeE)) [] (uses-Bin P Add (Num 4) (Of ServeE) (uses-Num P 4) (uses-ServeE P named temps allows few)) (says-none P)

  keeps-target : Says P (Set (Temp 1) (Bin Add (Num 4) (Of Pt)) ∷ [])
  keeps-target = sets-one (Bin Add (Num 4) (Of Pt)) [] (uses-Bin P Add (Num 4) (Of Pt) (uses-Num P 4) pt) (says-none P)

  selected-says : (slot : Slot) → MayArrive P plan named slot → Says P (selected_c plan slot)
  selected-says Seq may = keeps-target
  selected-says (To t) may = keeps-target
  selected-says (Dyn a) may = keeps-target
  selected-says (CallTo t back) may = calls-one back t selected_behind may behind-says
  selected-says (CallDyn back) may = calls-any back selected_behind may behind-says
  selected-says Ret may = keeps-target

  module _ (pc : ℕ) (slot : Slot) (j a : Mode) (stays jumps annuls : Point) (may : can_arrive j a ≡ true → MayArrive P plan named slot) where
    select-says : (delayed : Bool) → MayArrive P plan named slot → CodeSays P (selected_code plan delayed j a stays jumps annuls slot)
    select-says delayed m = record {
      stmts = sets-one (selector_c delayed) (If (Bin Eq jumped_c (Num 3)) (selected_c plan slot) ∷ []) (selector-uses delayed)
          (says-If P (Bin Eq jumped_c (Num 3)) (selected_c plan slot) [] (uses-Bin P Eq jumped_c (Num 3) jumped (uses-Num P 3)) (selected-says slot m) (says-none P));
      end = (jumped, pt);
    }

    jump-ways-say : (delayed : Bool) → CodeSays P (jump_ways plan p pc delayed j a stays jumps annuls slot)
    jump-ways-say delayed = by (always_arrives j a) (can_arrive j a && is_selected plan slot) refl refl
      where
        by : (x y : Bool) → always_arrives j a ≡ x → (can_arrive j a && is_selected plan slot) ≡ y
            → CodeSays P (if x then arrival_code plan p slot else if y then selected_code plan delayed j a stays jumps annuls slot else ends (ways j a stays jumps annuls (arrival_point pc slot)))
        by true y e f = arrival-says slot (may (both-do j a e))
        by false true e f = select-says delayed (may (and-first (can_arrive j a) (is_selected plan slot) f))
        by false false e f = ends-say j a stays jumps annuls (arrival_point pc slot)

  -- ---- control behind an instruction

  target-says : (kind : JumpKind) (c : Code) → CodeSays P c → CodeSays P (keep_target kind c)
  target-says kind c h = by kind
    where
      keeps : CodeSays P (code (Set Pt jump_target_c ∷ c.stmts) c.end)
      keeps = record { stmts = says-Set P Pt jump_target_c c.stmts (allows.everywhere Pt refl) (uses-Temp P named temps allows few 0 (omega arith)) h.stmts; end = h.end }

      by : (kind : JumpKind) → CodeSays P (keep_target kind c)
      by JumpKind.Never = h
      by (JumpKind.To t) = h
      by JumpKind.Dyn = keeps
      by (JumpKind.CallTo t back) = h
      by (JumpKind.CallDyn back) = keeps
      by JumpKind.Ret = keeps

  seq-says : (delay : Option ℕ) (pc next : ℕ) (slot : Slot) (j a : Mode) → (can_arrive j (annul_for delay a) ≡ true → MayArrive P plan named slot) → CodeSays P (code_from_seq plan p pc next delay j a slot)
  seq-says None pc next slot j a may = jump-ways-say pc slot j Always (point next Seq) (point next Seq) (point next Seq) may false
  seq-says (Some d) pc next slot j a may = jump-ways-say pc slot j a (point next Seq) (point next slot) (point (further_on next d) Seq) may true

  rest-says : (delay : Option ℕ) (next : ℕ) (a : Mode) → CodeSays P (code_without_jump next delay a)
  rest-says None next a = record { stmts = says-none P; end = tt }
  rest-says (Some d) next a = ends-say Never a (point next Seq) (point next Seq) (point (further_on next d) Seq) (point (further_on next d) Seq)

  couples-say : (condition : CExpr) (pc : ℕ) (c : Code) → Uses P condition → CodeSays P c → CodeSays P (code (stop_if condition couple_stop (Num pc) c.stmts) c.end)
  couples-say condition pc c u h = record { stmts = says-stop_if P named temps allows few condition couple_stop (Num pc) c.stmts u (uses-Num P pc) h.stmts; end = h.end }

  one-says : (delay : Option ℕ) (pc t : ℕ) (j a : Mode) → CodeSays P (couple_jump pc j (ends (annul_ways a t (past_slot delay t))))
  one-says delay pc t j a = by j
    where
      on : CodeSays P (ends (annul_ways a t (past_slot delay t)))
      on = ends-say Never a (point t Seq) (point t Seq) (point (past_slot delay t) Seq) (point (past_slot delay t) Seq)

      by : (j : Mode) → CodeSays P (couple_jump pc j (ends (annul_ways a t (past_slot delay t))))
      by Never = on
      by Maybe = couples-say jumped_c pc (ends (annul_ways a t (past_slot delay t))) jumped on
      by Always = record { stmts = says-none P; end = uses-Num P pc }

  slot-says : (pc : ℕ) (j a : Mode) (c : Code) → CodeSays P c → CodeSays P (couple_any pc j a c)
  slot-says pc Never Never c h = h
  slot-says pc Never Maybe c h = couples-say flags_c pc c flags h
  slot-says pc Never Always c h = record { stmts = says-none P; end = uses-Num P pc }
  slot-says pc Maybe Never c h = couples-say flags_c pc c flags h
  slot-says pc Maybe Maybe c h = couples-say flags_c pc c flags h
  slot-says pc Maybe Always c h = record { stmts = says-none P; end = uses-Num P pc }
  slot-says pc Always a c h = record { stmts = says-none P; end = uses-Num P pc }

  module _ (pc next : ℕ) (j a : Mode) where
    abbrev delay : Option ℕ
    delay = plan.flow.setting.machine.delay

    from-seq : (kind : JumpKind) (slot : Slot) → (can_arrive j (annul_for delay a) ≡ true → MayArrive P plan named slot) → CodeSays P (keep_target kind (code_from_seq plan p pc next delay j a slot))
    from-seq kind slot may = target-says kind (code_from_seq plan p pc next delay j a slot) (seq-says delay pc next slot j a may)

    pub control-says : (slot : Slot) (kind : JumpKind) → MayArrive P plan named slot → (slot ≡ Seq → can_arrive j (annul_for delay a) ≡ true → MayArrive P plan named (pending pc kind)) → CodeSays P (control_by plan p pc next slot kind j a)
    control-says Seq JumpKind.Never may at = rest-says delay next a
    control-says Seq (JumpKind.To t) may at = from-seq (JumpKind.To t) (To t) (at refl)
    control-says Seq JumpKind.Dyn may at = from-seq JumpKind.Dyn (Dyn pc) (at refl)
    control-says Seq (JumpKind.CallTo t r) may at = from-seq (JumpKind.CallTo t r) (CallTo t r) (at refl)
    control-says Seq (JumpKind.CallDyn r) may at = from-seq (JumpKind.CallDyn r) (CallDyn r) (at refl)
    control-says Seq JumpKind.Ret may at = from-seq JumpKind.Ret Ret (at refl)
    control-says (To t) (JumpKind.To u) may at = ends-say j a (point t Seq) (point t (To u)) (point (past_slot delay t) Seq) (point u Seq)
    control-says (To t) JumpKind.Never may at = one-says delay pc t j a
    control-says (To t) JumpKind.Dyn may at = one-says delay pc t j a
    control-says (To t) (JumpKind.CallTo u r) may at = one-says delay pc t j a
    control-says (To t) (JumpKind.CallDyn r) may at = one-says delay pc t j a
    control-says (To t) JumpKind.Ret may at = one-says delay pc t j a
    control-says (Dyn t) kind may at = slot-says pc j a (arrival_code plan p (Dyn t)) (arrival-says (Dyn t) may)
    control-says (CallTo t r) kind may at = slot-says pc j a (arrival_code plan p (CallTo t r)) (arrival-says (CallTo t r) may)
    control-says (CallDyn r) kind may at = slot-says pc j a (arrival_code plan p (CallDyn r)) (arrival-says (CallDyn r) may)
    control-says Ret kind may at = slot-says pc j a (arrival_code plan p Ret) (arrival-says Ret may)
