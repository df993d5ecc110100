-- The blocks of a plan have forms.
use Rattle.std.proofs.Common.{◌≡◌, ℕ, zero, suc, ◌<◌, ◌+◌, ◌*◌, ◌%◌, ◌≤◌, ◌^◌, Bool, true, false, ◌&&◌, if◌then◌else◌, Option, Some, None, List, [], ◌∷◌, ◌++◌, length, map, All, get_or, refl, sym, ap, ◌∙◌, subst, arith}
use Rattle.std.specs.Prelude.{not}
use Rattle.std.specs.List.{Contains}
use Rattle.std.proofs.Math.Nat.{mod-lt}
use Rattle.std.proofs.lemmas.Nat.{pow_pos}
use Rattle.std.proofs.lemmas.List.Elements.{All-nil, All-cons, All-head, All-tail, All-append, Contains-get_or}
use Rattle.rtl_core.specs.declared.inst.GroundInst.{GroundInst}
use Rattle.rtl_core.specs.declared.machine.Machine.{Machine}
use Rattle.rtl_core.specs.declared.point.Point.{Point}
use Rattle.rtl_core.specs.declared.point.Slot.{Slot}
use Rattle.rtl_core.specs.declared.point.Slot.TheVariants.{Seq, To, Dyn, CallTo, CallDyn, Ret}
use Rattle.points.specs.declared.block.Block.{Block}
use Rattle.points.specs.declared.block.JumpKind.{JumpKind}
use Rattle.points.specs.declared.block.Mode.{Mode}
use Rattle.points.specs.declared.block.Mode.TheVariants.{Never, Maybe, Always}
use Rattle.points.specs.Machine.{Setting}
use Rattle.points.specs.Courses.{point, pending, jump_mode, annul_mode, halts}
use Rattle.points.specs.Kinds.{further, past_slot, block_at, second}
use Rattle.c_lang.specs.declared.tree.Case.{Case}
use Rattle.c_lang.specs.declared.tree.CBlock.{CBlock}
use Rattle.c_lang.specs.declared.tree.COp.TheVariants.{Add, Eq}
use Rattle.c_lang.specs.declared.tree.CExpr.{CExpr}
use Rattle.c_lang.specs.declared.tree.CExpr.TheVariants.{Num, Of, Bin}
use Rattle.c_lang.specs.declared.tree.End.{End}
use Rattle.c_lang.specs.declared.tree.End.TheVariants.{Goto, Branch, Switch, Return, Finish}
use Rattle.c_lang.specs.declared.tree.Stmt.{Stmt}
use Rattle.c_lang.specs.declared.tree.Stmt.TheVariants.{Set, If}
use Rattle.c_lang.specs.declared.tree.Var.TheVariants.{Pt, Temp, ServeE}
use Rattle.c_lang.specs.Spellable.{total, misfit, end_deepest, end_misfits, point_misfits, slot_misfits, case_misfits, BlockHasForm}
use Rattle.c_lang.proofs.SpellingLaws.{fits}
use Rattle.c_control.specs.Blocks.{Code, ends, code, case, go_on_at, never, switch_c, table_cases, back_cases, behind_call_by, behind_call, jump_code, arrival_code, ways, annul_ways, is_selected, selector_c, selected_behind, selected_c, selected_cases, other_cases, selected_code, can_arrive, always_arrives, arrival_point, keep_target, jump_ways, code_from_seq, code_without_jump, couple_jump, couple_any, code_from_jump, control_by, control_code, code_behind, code_of_block, code_at, labelled, block_c, leaves_apart, annul_for, further_of_block, further_at, further_c}
use Rattle.c_control.specs.Choice.{choose_c, levels}
use Rattle.c_control.specs.Pieces.{illegal_stop, undiscovered_stop, couple_stop, jump_target_c, jumped_c, annuls_c, flags_c, stop_if, call_c, tail_c, leaf_c, return_c}
use Rattle.c_control.specs.Plans.{Plan, ra_of, further_label}
use Rattle.c_program.proofs.SmallPoints.{SmallPoint, SmallSlot}
use Rattle.c_forms.proofs.Fine.{Small, SmallBy, small, num-by, var-by, bin-by, more-by, small-num, small-var, Fine, fine-form, fine-more, fine-set, fine-if, tidy-fine}
use Rattle.c_forms.proofs.PiecesFine.{jumped-by, annuls-by, flags-by, target-by, stop-fine, call-fine, tail-fine, LeafFine, leaf-fine, TreeFits, choose-fine, return-fine, due-fine}

-- ---- ends

-- an end with small expressions and numbers that fit
pub record EndFine (e : End) : Type 0 where
  pub exprs : end_deepest e ≤ 8
  pub numbers : end_misfits e ≡ 0

-- how many `if`s the statements of control stand inside, at most
abbrev most_ifs : ℕ
most_ifs = 20

-- statements and an end that have forms
pub record CodeFine (c : Code) : Type 0 where
  pub stmts : All (Fine 20) c.stmts
  pub end : EndFine c.end

-- the addresses of a label have 32 bits
abbrev LabelFits : Point → Type 0
LabelFits p = point_misfits p ≡ 0

pub ends-fine : (e : End) → EndFine e → CodeFine (ends e)
ends-fine e h = record { stmts = All-nil (Fine 20); end = h }

seq-fits : (a : ℕ) → a < 2 ^ 32 → LabelFits (point a Seq)
seq-fits a lt = omega (arith, fits 32 a lt)

goto-fine : (p : Point) → LabelFits p → EndFine (Goto p)
goto-fine p h = record { exprs = omega arith; numbers = h }

go-on-fine : (a : ℕ) → a < 2 ^ 32 → EndFine (go_on_at a)
go-on-fine a lt = goto-fine (point a Seq) (seq-fits a lt)

pub finish-fine : (n : ℕ) (e : CExpr) → n < 2 ^ 64 → Small e → EndFine (Finish n e)
finish-fine n e lt s = record { exprs = s.nest; numbers = omega (arith, fits 64 n lt, s.numbers) }

pub never-fine : EndFine never
never-fine = finish-fine couple_stop (Num 0) (omega arith) (small-num 0 (omega arith))

return-end-fine : EndFine Return
return-end-fine = record { exprs = omega arith; numbers = refl }

branch-fine : (e : CExpr) (p q : Point) → Small e → LabelFits p → LabelFits q → EndFine (Branch e p q)
branch-fine e p q s h k = record { exprs = s.nest; numbers = omega (arith, s.numbers, h, k) }

-- ---- cases

abbrev CasesFit : List Case → Type 0
CasesFit cases = total (map case_misfits cases) ≡ 0

case-more : (v : ℕ) (to : Point) (cases : List Case) → v < 2 ^ 64 → LabelFits to → CasesFit cases → CasesFit (case v to ∷ cases)
case-more v to cases lt h k = omega (arith, fits 64 v lt, h, k)

switch-fine : (e : CExpr) (cases : List Case) (n : ℕ) (value : CExpr) → Small e → CasesFit cases → n < 2 ^ 64 → Small value → EndFine (Switch e cases n value)
switch-fine e cases n value s h lt v = record { exprs = omega (arith, s.nest, v.nest); numbers = omega (arith, s.numbers, h, fits 64 n lt, v.numbers) }

table-fits : (more : ℕ) (ts : List ℕ) → more ≤ 4 → All (λ t. t < 2 ^ 32) ts → CasesFit (table_cases more ts)
table-fits more [] le h = refl
table-fits more (t ∷ ts) le h =
    let lt = All-head (λ t. t < 2 ^ 32) t ts h in
    case-more (more + t) (point t Seq) (table_cases more ts) (omega (arith, le, lt)) (seq-fits t lt) (table-fits more ts le (All-tail (λ t. t < 2 ^ 32) t ts h))

jumped : Small jumped_c
jumped = small 0 jumped_c (omega arith) jumped-by

annuls : Small annuls_c
annuls = small 0 annuls_c (omega arith) annuls-by

flags : Small flags_c
flags = small 2 flags_c (omega arith) flags-by

zero-small : Small (Num 0)
zero-small = small-num 0 (omega arith)

pt-small : Small (Of Pt)
pt-small = small-var Pt refl

-- ---- ways

ways-fine : (jump annul : Mode) (s j a b : Point) → LabelFits s → LabelFits j → LabelFits a → LabelFits b → EndFine (ways jump annul s j a b)
ways-fine Never Never s j a b hs hj ha hb = goto-fine s hs
ways-fine Never Maybe s j a b hs hj ha hb = branch-fine annuls_c a s annuls ha hs
ways-fine Never Always s j a b hs hj ha hb = goto-fine a ha
ways-fine Maybe Never s j a b hs hj ha hb = branch-fine jumped_c j s jumped hj hs
ways-fine Maybe Maybe s j a b hs hj ha hb =
    switch-fine flags_c (case 0 s ∷ case 1 j ∷ case 2 a ∷ case 3 b ∷ []) couple_stop (Num 0) flags
    (case-more 0 s (case 1 j ∷ case 2 a ∷ case 3 b ∷ []) (omega arith) hs (case-more 1 j (case 2 a ∷ case 3 b ∷ []) (omega arith) hj (case-more 2 a (case 3 b ∷ []) (omega arith) ha (case-more 3 b [] (omega arith) hb refl)))) (omega arith) zero-small
ways-fine Maybe Always s j a b hs hj ha hb = branch-fine jumped_c b a jumped hb ha
ways-fine Always Never s j a b hs hj ha hb = goto-fine j hj
ways-fine Always Maybe s j a b hs hj ha hb = branch-fine annuls_c b j annuls hb hj
ways-fine Always Always s j a b hs hj ha hb = goto-fine b hb

annul-ways-fine : (annul : Mode) (near far : ℕ) → near < 2 ^ 32 → far < 2 ^ 32 → EndFine (annul_ways annul near far)
annul-ways-fine annul near far h k = ways-fine Never annul (point near Seq) (point near Seq) (point far Seq) (point far Seq) (seq-fits near h) (seq-fits near h) (seq-fits far k) (seq-fits far k)

others-fit : (jump annul : Mode) (s j a : Point) (rest : List Case) → LabelFits s → LabelFits j → LabelFits a → CasesFit rest → CasesFit (other_cases jump annul s j a rest)
others-fit Never annul s j a rest hs hj ha h = h
others-fit Maybe Never s j a rest hs hj ha h = case-more 0 s rest (omega arith) hs h
others-fit Maybe Maybe s j a rest hs hj ha h =
    case-more 0 s (case 1 j ∷ case 2 a ∷ rest) (omega arith) hs (case-more 1 j (case 2 a ∷ rest) (omega arith) hj (case-more 2 a rest (omega arith) ha h))
others-fit Maybe Always s j a rest hs hj ha h = case-more 2 a rest (omega arith) ha h
others-fit Always Never s j a rest hs hj ha h = h
others-fit Always Maybe s j a rest hs hj ha h = case-more 1 j rest (omega arith) hj h
others-fit Always Always s j a rest hs hj ha h = h

further-small : (a bytes : ℕ) → further a bytes < 2 ^ 32
further-small a bytes = mod-lt (a + bytes) (pow_pos 32)

past-small : (delay : Option ℕ) (a : ℕ) → a < 2 ^ 32 → past_slot delay a < 2 ^ 32
past-small None a h = h
past-small (Some delay) a h = further-small a delay

-- the addresses of a slot have 32 bits, that of a computed jump too
abbrev pub SlotFits : Slot → Type 0
SlotFits slot = slot_misfits slot ≡ 0

-- the addresses of a jump that is still to come have 32 bits
abbrev pub KindFits : JumpKind → Type 0
KindFits kind = (pc : ℕ) → pc < 2 ^ 32 → SmallSlot (pending pc kind) × SlotFits (pending pc kind)

-- a plan whose numbers have few enough bits
pub record IsNarrow (plan : Plan) : Type 0 where
  pub refs : (p : ℕ) → All (λ c. c < 2 ^ 8) (plan.refs p)
  pub mods : (p : ℕ) → All (λ c. c < 2 ^ 8) (plan.mods p)
  pub tree : TreeFits plan.tree
  pub few : levels plan.tree ≤ 17
  pub tables : (a : ℕ) → All (λ t. t < 2 ^ 32) (plan.flow.table a)
  pub seconds : (back s : ℕ) → second plan.flow.setting back ≡ Some s → s < 2 ^ 32
  pub ra : (back : ℕ) → back < 2 ^ 32 → ra_of plan.flow.setting back < 2 ^ 64

module _ (plan : Plan) (narrow : IsNarrow plan) where
  -- ---- arrivals

  back-fits : (more back : ℕ) (o : Option ℕ) → more ≤ 4 → back < 2 ^ 32 → ((s : ℕ) → o ≡ Some s → s < 2 ^ 32) → CasesFit (back_cases more back o)
  back-fits more back None le lt h = case-more more (point back Seq) [] (omega (arith, le)) (seq-fits back lt) refl
  back-fits more back (Some s) le lt h =
      case-more more (point back Seq) (case (more + 1) (point s Seq) ∷ []) (omega (arith, le)) (seq-fits back lt) (case-more (more + 1) (point s Seq) [] (omega (arith, le)) (seq-fits s (h s refl)) refl)

  behind-fine : (back : ℕ) (o : Option ℕ) → back < 2 ^ 32 → ((s : ℕ) → o ≡ Some s → s < 2 ^ 32) → EndFine (behind_call_by back o)
  behind-fine back None lt h = go-on-fine back lt
  behind-fine back (Some s) lt h = switch-fine (Of ServeE) (back_cases 0 back (Some s)) couple_stop (Num 0) (small-var ServeE refl) (back-fits 0 back (Some s) (omega arith) lt h) (omega arith) zero-small

  tail-leaf : (p : ℕ) → LeafFine (leaf_c (tail_c plan p))
  tail-leaf p = leaf-fine (tail_c plan p) (λ t k rest lt h. tail-fine plan narrow.refs narrow.mods p t k rest lt h)

  call-leaf : (back : ℕ) → back < 2 ^ 32 → LeafFine (leaf_c (call_c plan back))
  call-leaf back small = leaf-fine (call_c plan back) (λ t k rest lt h. call-fine plan narrow.refs narrow.mods back t k rest lt (narrow.ra back small) h)

  jump-fine : (p : ℕ) (ts : List ℕ) → All (λ t. t < 2 ^ 32) ts → CodeFine (jump_code plan p ts)
  jump-fine p [] h = record {
    stmts = choose-fine (leaf_c (tail_c plan p)) (tail-leaf p) 19 plan.tree [] (omega (arith, narrow.few)) narrow.tree (All-nil (Fine 20));
    end = return-end-fine;
  }
  jump-fine p (t ∷ ts) h = ends-fine (Switch (Of Pt) (table_cases 0 (t ∷ ts)) undiscovered_stop (Of Pt)) (switch-fine (Of Pt) (table_cases 0 (t ∷ ts)) undiscovered_stop (Of Pt) pt-small (table-fits 0 (t ∷ ts) (omega arith) h) (omega arith) pt-small)

  pub arrival-fine : (p : ℕ) (slot : Slot) → SmallSlot slot → CodeFine (arrival_code plan p slot)
  arrival-fine p Seq h = ends-fine never never-fine
  arrival-fine p (To t) h = ends-fine (go_on_at t) (go-on-fine t h)
  arrival-fine p (Dyn a) h = jump-fine p (plan.flow.table a) (narrow.tables a)
  arrival-fine p (CallTo t back) h = record {
    stmts = call-fine plan narrow.refs narrow.mods back t 19 [] h.0 (narrow.ra back h.1) (All-nil (Fine 20));
    end = behind-fine back (second plan.flow.setting back) h.1 (narrow.seconds back);
  }
  arrival-fine p (CallDyn back) h = record {
    stmts = choose-fine (leaf_c (call_c plan back)) (call-leaf back h) 19 plan.tree [] (omega (arith, narrow.few)) narrow.tree (All-nil (Fine 20));
    end = behind-fine back (second plan.flow.setting back) h (narrow.seconds back);
  }
  arrival-fine p Ret h = record { stmts = return-fine 18 (plan.mods p) [] (narrow.mods p) (All-nil (Fine 20)); end = return-end-fine }

  -- ---- an arrival without a slot, under a guard

  selector-by : (delayed : Bool) → SmallBy 2 (selector_c delayed)
  selector-by true = flags-by
  selector-by false = more-by 1 2 _ (omega arith) (bin-by 0 Add jumped_c (Num 2) jumped-by (num-by 2 (omega arith)))

  temp-fits : misfit 16 1 ≡ 0
  temp-fits = fits 16 1 (omega arith)

  behind-selected : All (Fine 19) selected_behind
  behind-selected =
      let e = Bin Add (Num 4) (Of ServeE) in
      All-cons (Fine 19) (Set (Temp 1) e) [] (fine-set 19 (Temp 1) e temp-fits (small 1 e (omega arith) (bin-by 0 Add (Num 4) (Of ServeE) (num-by 4 (omega arith)) (var-by ServeE refl)))) (All-nil (Fine 19))

  target-selected : All (Fine 19) (Set (Temp 1) (Bin Add (Num 4) (Of Pt)) ∷ [])
  target-selected =
      let e = Bin Add (Num 4) (Of Pt) in
      All-cons (Fine 19) (Set (Temp 1) e) [] (fine-set 19 (Temp 1) e temp-fits (small 1 e (omega arith) (bin-by 0 Add (Num 4) (Of Pt) (num-by 4 (omega arith)) (var-by Pt refl)))) (All-nil (Fine 19))

  selected-stmts : (slot : Slot) → SmallSlot slot → All (Fine 19) (selected_c plan slot)
  selected-stmts Seq h = target-selected
  selected-stmts (To t) h = target-selected
  selected-stmts (Dyn a) h = target-selected
  selected-stmts (CallTo t back) h = call-fine plan narrow.refs narrow.mods back t 18 selected_behind h.0 (narrow.ra back h.1) behind-selected
  selected-stmts (CallDyn back) h = choose-fine (leaf_c (call_c plan back)) (call-leaf back h) 18 plan.tree selected_behind (omega (arith, narrow.few)) narrow.tree behind-selected
  selected-stmts Ret h = target-selected

  selected-fit : (slot : Slot) → SmallSlot slot → CasesFit (selected_cases plan slot)
  selected-fit Seq h = refl
  selected-fit (To t) h = refl
  selected-fit (Dyn a) h = table-fits 4 (plan.flow.table a) (omega arith) (narrow.tables a)
  selected-fit (CallTo t back) h = back-fits 4 back (second plan.flow.setting back) (omega arith) h.1 (narrow.seconds back)
  selected-fit (CallDyn back) h = back-fits 4 back (second plan.flow.setting back) (omega arith) h (narrow.seconds back)
  selected-fit Ret h = refl

  selected-fine : (delayed : Bool) (jump annul : Mode) (s j a : Point) (slot : Slot) → LabelFits s → LabelFits j → LabelFits a → SmallSlot slot → CodeFine (selected_code plan delayed jump annul s j a slot)
  selected-fine delayed jump annul s j a slot hs hj ha h =
      let test = Bin Eq jumped_c (Num 3) in
      let body = selected_c plan slot in
      record {
        stmts = All-cons (Fine 20) (Set (Temp 1) (selector_c delayed)) (If test body ∷ []) (fine-set 20 (Temp 1) (selector_c delayed) temp-fits (small 2 _ (omega arith) (selector-by delayed)))
            (All-cons (Fine 20) (If test body) [] (fine-if 19 test body (small 1 test (omega arith) (bin-by 0 Eq jumped_c (Num 3) jumped-by (num-by 3 (omega arith)))) (selected-stmts slot h)) (All-nil (Fine 20)));
        end = switch-fine jumped_c (other_cases jump annul s j a (selected_cases plan slot)) undiscovered_stop (Of Pt) jumped (others-fit jump annul s j a (selected_cases plan slot) hs hj ha (selected-fit slot h)) (omega arith) pt-small;
      }

  -- ---- control behind an instruction

  arrival-label : (pc : ℕ) (slot : Slot) → pc < 2 ^ 32 → SmallSlot slot → LabelFits (arrival_point pc slot)
  arrival-label pc Seq lt h = omega (arith, fits 32 pc lt)
  arrival-label pc (To t) lt h = seq-fits t h
  arrival-label pc (Dyn a) lt h = omega (arith, fits 32 pc lt)
  arrival-label pc (CallTo t back) lt h = omega (arith, fits 32 pc lt)
  arrival-label pc (CallDyn back) lt h = omega (arith, fits 32 pc lt)
  arrival-label pc Ret lt h = omega (arith, fits 32 pc lt)

  keep-fine : (kind : JumpKind) (c : Code) → CodeFine c → CodeFine (keep_target kind c)
  keep-fine kind c h = by kind
    where
      kept : CodeFine (code (Set Pt jump_target_c ∷ c.stmts) c.end)
      kept = record { stmts = All-cons (Fine 20) (Set Pt jump_target_c) c.stmts (fine-set 20 Pt jump_target_c refl (small 0 jump_target_c (omega arith) target-by)) h.stmts; end = h.end }

      by : (kind : JumpKind) → CodeFine (keep_target kind c)
      by JumpKind.Never = h
      by (JumpKind.To t) = h
      by JumpKind.Dyn = kept
      by (JumpKind.CallTo t back) = h
      by (JumpKind.CallDyn back) = kept
      by JumpKind.Ret = kept

  jump-ways-fine : (p pc : ℕ) (delayed : Bool) (jump annul : Mode) (s j a : Point) (slot : Slot) → pc < 2 ^ 32 → LabelFits s → LabelFits j → LabelFits a → SmallSlot slot
      → CodeFine (jump_ways plan p pc delayed jump annul s j a slot)
  jump-ways-fine p pc delayed jump annul s j a slot lt hs hj ha h = by (always_arrives jump annul) (can_arrive jump annul && is_selected plan slot)
    where
      by : (x y : Bool) → CodeFine (if x then arrival_code plan p slot else if y then selected_code plan delayed jump annul s j a slot else ends (ways jump annul s j a (arrival_point pc slot)))
      by true y = arrival-fine p slot h
      by false true = selected-fine delayed jump annul s j a slot hs hj ha h
      by false false = ends-fine (ways jump annul s j a (arrival_point pc slot)) (ways-fine jump annul s j a (arrival_point pc slot) hs hj ha (arrival-label pc slot lt h))

  from-seq-fine : (p pc next : ℕ) (delay : Option ℕ) (jump annul : Mode) (slot : Slot) → pc < 2 ^ 32 → next < 2 ^ 32 → SmallSlot slot → SlotFits slot → CodeFine (code_from_seq plan p pc next delay jump annul slot)
  from-seq-fine p pc next None jump annul slot lt nt h k =
      jump-ways-fine p pc false jump Always (point next Seq) (point next Seq) (point next Seq) slot lt (seq-fits next nt) (seq-fits next nt) (seq-fits next nt) h
  from-seq-fine p pc next (Some delay) jump annul slot lt nt h k =
      jump-ways-fine p pc true jump annul (point next Seq) (point next slot) (point (further next delay) Seq) slot lt (seq-fits next nt) (omega (arith, fits 32 next nt, k)) (seq-fits (further next delay) (further-small next delay)) h

  without-jump-fine : (next : ℕ) (delay : Option ℕ) (annul : Mode) → next < 2 ^ 32 → CodeFine (code_without_jump next delay annul)
  without-jump-fine next None annul nt = ends-fine (go_on_at next) (go-on-fine next nt)
  without-jump-fine next (Some delay) annul nt = ends-fine (annul_ways annul next (further next delay)) (annul-ways-fine annul next (further next delay) nt (further-small next delay))

  couple-end : (pc : ℕ) → pc < 2 ^ 32 → CodeFine (ends (Finish couple_stop (Num pc)))
  couple-end pc lt = ends-fine (Finish couple_stop (Num pc)) (finish-fine couple_stop (Num pc) (omega arith) (small-num pc (omega (arith, lt))))

  coupled : (pc : ℕ) (e : CExpr) (c : Code) → pc < 2 ^ 32 → Small e → CodeFine c → CodeFine (code (stop_if e couple_stop (Num pc) c.stmts) c.end)
  coupled pc e c lt s h = record { stmts = stop-fine 19 e couple_stop (Num pc) c.stmts s (omega arith) (small-num pc (omega (arith, lt))) h.stmts; end = h.end }

  couple-jump-fine : (pc : ℕ) (jump : Mode) (c : Code) → pc < 2 ^ 32 → CodeFine c → CodeFine (couple_jump pc jump c)
  couple-jump-fine pc Never c lt h = h
  couple-jump-fine pc Maybe c lt h = coupled pc jumped_c c lt jumped h
  couple-jump-fine pc Always c lt h = couple-end pc lt

  couple-any-fine : (pc : ℕ) (jump annul : Mode) (c : Code) → pc < 2 ^ 32 → CodeFine c → CodeFine (couple_any pc jump annul c)
  couple-any-fine pc Never Never c lt h = h
  couple-any-fine pc Never Maybe c lt h = coupled pc flags_c c lt flags h
  couple-any-fine pc Never Always c lt h = couple-end pc lt
  couple-any-fine pc Maybe Never c lt h = coupled pc flags_c c lt flags h
  couple-any-fine pc Maybe Maybe c lt h = coupled pc flags_c c lt flags h
  couple-any-fine pc Maybe Always c lt h = couple-end pc lt
  couple-any-fine pc Always Never c lt h = couple-end pc lt
  couple-any-fine pc Always Maybe c lt h = couple-end pc lt
  couple-any-fine pc Always Always c lt h = couple-end pc lt

  one-fine : (delay : Option ℕ) (pc t : ℕ) (jump annul : Mode) → pc < 2 ^ 32 → t < 2 ^ 32 → CodeFine (couple_jump pc jump (ends (annul_ways annul t (past_slot delay t))))
  one-fine delay pc t jump annul lt tt' =
      couple-jump-fine pc jump (ends (annul_ways annul t (past_slot delay t))) lt (ends-fine (annul_ways annul t (past_slot delay t)) (annul-ways-fine annul t (past_slot delay t) tt' (past-small delay t tt')))

  from-jump-fine : (delay : Option ℕ) (pc t : ℕ) (kind : JumpKind) (jump annul : Mode) → pc < 2 ^ 32 → t < 2 ^ 32 → KindFits kind → CodeFine (code_from_jump delay pc t kind jump annul)
  from-jump-fine delay pc t (JumpKind.To u) jump annul lt lt' k =
      let u-small : u < 2 ^ 32 = (k pc lt).0 in
      ends-fine (ways jump annul (point t Seq) (point t (To u)) (point (past_slot delay t) Seq) (point u Seq))
      (ways-fine jump annul (point t Seq) (point t (To u)) (point (past_slot delay t) Seq) (point u Seq) (seq-fits t lt') (omega (arith, fits 32 t lt', fits 32 u u-small)) (seq-fits (past_slot delay t) (past-small delay t lt')) (seq-fits u u-small))
  from-jump-fine delay pc t JumpKind.Never jump annul lt lt' k = one-fine delay pc t jump annul lt lt'
  from-jump-fine delay pc t JumpKind.Dyn jump annul lt lt' k = one-fine delay pc t jump annul lt lt'
  from-jump-fine delay pc t (JumpKind.CallTo u back) jump annul lt lt' k = one-fine delay pc t jump annul lt lt'
  from-jump-fine delay pc t (JumpKind.CallDyn back) jump annul lt lt' k = one-fine delay pc t jump annul lt lt'
  from-jump-fine delay pc t JumpKind.Ret jump annul lt lt' k = one-fine delay pc t jump annul lt lt'

  seq-kind-fine : (p pc next : ℕ) (kind : JumpKind) (jump annul : Mode) → pc < 2 ^ 32 → next < 2 ^ 32 → KindFits kind
      → CodeFine (keep_target kind (code_from_seq plan p pc next plan.flow.setting.machine.delay jump annul (pending pc kind)))
  seq-kind-fine p pc next kind jump annul lt nt k =
      keep-fine kind (code_from_seq plan p pc next plan.flow.setting.machine.delay jump annul (pending pc kind)) (from-seq-fine p pc next plan.flow.setting.machine.delay jump annul (pending pc kind) lt nt (k pc lt).0 (k pc lt).1)

  pub control-fine : (p pc next : ℕ) (slot : Slot) (kind : JumpKind) (jump annul : Mode) → pc < 2 ^ 32 → next < 2 ^ 32 → SmallSlot slot → KindFits kind → CodeFine (control_by plan p pc next slot kind jump annul)
  control-fine p pc next Seq JumpKind.Never jump annul lt nt h k = without-jump-fine next plan.flow.setting.machine.delay annul nt
  control-fine p pc next Seq (JumpKind.To t) jump annul lt nt h k = seq-kind-fine p pc next (JumpKind.To t) jump annul lt nt k
  control-fine p pc next Seq JumpKind.Dyn jump annul lt nt h k = seq-kind-fine p pc next JumpKind.Dyn jump annul lt nt k
  control-fine p pc next Seq (JumpKind.CallTo t back) jump annul lt nt h k = seq-kind-fine p pc next (JumpKind.CallTo t back) jump annul lt nt k
  control-fine p pc next Seq (JumpKind.CallDyn back) jump annul lt nt h k = seq-kind-fine p pc next (JumpKind.CallDyn back) jump annul lt nt k
  control-fine p pc next Seq JumpKind.Ret jump annul lt nt h k = seq-kind-fine p pc next JumpKind.Ret jump annul lt nt k
  control-fine p pc next (To t) kind jump annul lt nt h k = from-jump-fine plan.flow.setting.machine.delay pc t kind jump annul lt h k
  control-fine p pc next (Dyn a) kind jump annul lt nt h k = couple-any-fine pc jump annul (arrival_code plan p (Dyn a)) lt (arrival-fine p (Dyn a) h)
  control-fine p pc next (CallTo t back) kind jump annul lt nt h k = couple-any-fine pc jump annul (arrival_code plan p (CallTo t back)) lt (arrival-fine p (CallTo t back) h)
  control-fine p pc next (CallDyn back) kind jump annul lt nt h k = couple-any-fine pc jump annul (arrival_code plan p (CallDyn back)) lt (arrival-fine p (CallDyn back) h)
  control-fine p pc next Ret kind jump annul lt nt h k = couple-any-fine pc jump annul (arrival_code plan p Ret) lt (arrival-fine p Ret h)
