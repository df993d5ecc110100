-- Control behind an instruction.
use Rattle.std.proofs.Common.{◌≡◌, ℕ, Bool, true, false, ◌&&◌, List, [], ◌∷◌, Option, Some, None, refl}
use Rattle.std.specs.Prelude.{if◌then◌else◌, ◌==◌}
use Rattle.rtl_core.specs.declared.point.Point.{Point}
use Rattle.rtl_core.specs.declared.point.Slot.{Slot}
use Rattle.rtl_core.specs.declared.point.Slot.TheVariants.{Seq, To, Dyn, CallTo, CallDyn, Ret}
use Rattle.points.specs.declared.block.JumpKind.{JumpKind}
use Rattle.points.specs.declared.block.Mode.{Mode}
use Rattle.points.specs.declared.block.Mode.TheVariants.{Never, Maybe, Always}
use Rattle.points.specs.Kinds.{further as further_on, past_slot, second}
use Rattle.points.specs.Courses.{point, pending, possible}
use Rattle.c_lang.specs.declared.tree.COp.TheVariants.{Add, Eq}
use Rattle.c_lang.specs.declared.tree.Var.TheVariants.{Pt, Temp, ServeE}
use Rattle.c_lang.specs.declared.tree.CExpr.{CExpr}
use Rattle.c_lang.specs.declared.tree.CExpr.TheVariants.{Num, Of, Bin}
use Rattle.c_lang.specs.declared.tree.End.TheVariants.{Return, Finish}
use Rattle.c_lang.specs.declared.tree.Stmt.{Stmt}
use Rattle.c_lang.specs.declared.tree.Stmt.TheVariants.{Set, If, Stop}
use Rattle.c_lower.specs.Tidy.{with_temp}
use Rattle.c_control.specs.Blocks.{Code, ends, code, ways, arrival_code, arrival_point, jump_code, behind_call_by, can_arrive, always_arrives, is_selected, selector_c, selected_behind, selected_c, selected_code, jump_ways, code_from_seq, code_without_jump, control_by, annul_for, annul_ways, couple_jump, couple_any, keep_target}
use Rattle.c_control.specs.Pieces.{undiscovered_stop, couple_stop, jump_target_c, jumped_c, flags_c, stop_if}
use Rattle.c_control.specs.Plans.{Plan}
use Rattle.c_static.proofs.PieceSays.{AllLeaves}
use Rattle.c_shape.specs.Performing.{CanCall, CanJump, CanReturn, GoesBack, Hands, IsBehind, IsEntering, Knows, EndKnows, Last, Performs, Quiet}
use Rattle.c_shape.proofs.Walking.{last-itself, last-through, Four, none, four, none-in-all, knows-temp, knows-jumped, knows-annuls, knows-flags, knows-pt, knows-flag, behind, stop, call, choose-calls, choose-jumps}

no-way : {A : Type 0} → false ≡ true → A
no-way e = let no : ⊥ = cc in absurd no

and-first : (x y : Bool) → (x && y) ≡ true → x ≡ true
and-first true y e = refl
and-first false y e = no-way e

both-do : (j a : Mode) → always_arrives j a ≡ true → can_arrive j a ≡ true
both-do Never a e = no-way e
both-do Maybe a e = no-way e
both-do Always Never e = no-way e
both-do Always Maybe e = no-way e
both-do Always Always e = refl

with-four : (D : ℕ → Bool) (k : ℕ) → Four D → Four (with_temp D k)
with-four D k h i lt = by (k == i)
  where
    by : (x : Bool) → (if x then true else D i) ≡ true
    by true = refl
    by false = h i lt

abbrev pub Any : (ℕ → Bool) → Type 0
Any D = Unit {0}

module _ (plan : Plan) (roots : List ℕ) (p : ℕ) (b : Point) where
  -- what an arrival may enter, or that it may return
  abbrev pub May : Slot → Type 0
  May Seq = Unit {0}
  May (To t) = Unit {0}
  May (Dyn a) = plan.flow.table a ≡ [] → AllLeaves (CanJump plan roots b) plan.tree
  May (CallTo t back) = CanCall plan roots b t back
  May (CallDyn back) = AllLeaves (λ t. CanCall plan roots b t back) plan.tree
  May Ret = CanReturn plan b

  -- code that does what it may, from where some temporaries are assigned
  pub record Shaped (Ok : (ℕ → Bool) → Type 0) (c : Code) : Type 0 where
    pub out : ℕ → Bool
    pub stmts : (D : ℕ → Bool) → Ok D → Performs plan roots p b c D c.stmts out
    pub end : EndKnows out c.end
    pub hands : c.end ≡ Return → Hands plan p c.stmts

  pub hands-more : (xs ys : List Stmt) → Last xs ys → Hands plan p xs → Hands plan p ys
  hands-more xs ys f (Hands.returns h) = Hands.returns (last-through _ xs ys h f)
  hands-more xs ys f (Hands.jumps h) = Hands.jumps (last-through _ xs ys h f)

  pub with-front : (c : Code) (stmts : List Stmt) → Last c.stmts stmts
      → ((D E : ℕ → Bool) → Four D → ((C : ℕ → Bool) → Four C → Performs plan roots p b (code stmts c.end) C c.stmts E) → Performs plan roots p b (code stmts c.end) D stmts E) → Shaped Four c → Shaped Four (code stmts c.end)
  with-front c stmts in_it front h = record {
    out = h.out;
    stmts = λ D f. front D h.out f (λ C k. behind plan roots p b c stmts in_it C h.out c.stmts (h.stmts C k));
    end = h.end;
    hands = λ e. hands-more c.stmts stmts in_it (h.hands e);
  }

  nothing : (w : Code) (D : ℕ → Bool) → Performs plan roots p b w D [] none
  nothing w D = Performs.ends (none-in-all D)

  -- ---- arrivals

  jump-shaped : (ts : List ℕ) → (ts ≡ [] → AllLeaves (CanJump plan roots b) plan.tree) → Shaped Any (jump_code plan p ts)
  jump-shaped [] may = record {
    out = none;
    stmts = λ D f. choose-jumps plan roots p b (jump_code plan p []) refl plan.tree D none (may refl) (none-in-all D);
    end = tt;
    hands = λ e. Hands.jumps (last-itself _);
  }
  jump-shaped (t ∷ ts) may = record { out = none; stmts = λ D f. nothing _ D; end = (knows-pt none, knows-pt none); hands = λ e. let no : ⊥ = cc in absurd no }

  behind-knows : (back : ℕ) (o : Option ℕ) → EndKnows none (behind_call_by back o)
  behind-knows back None = tt
  behind-knows back (Some s) = (knows-flag none, Knows.number 0)

  goes-on : {A : Type 0} (back : ℕ) (o : Option ℕ) → behind_call_by back o ≡ Return → A
  goes-on back None e = let no : ⊥ = cc in absurd no
  goes-on back (Some s) e = let no : ⊥ = cc in absurd no

  pub arrival-shaped : (slot : Slot) → May slot → Shaped Any (arrival_code plan p slot)
  arrival-shaped Seq may = record { out = none; stmts = λ D f. nothing _ D; end = Knows.number 0; hands = λ e. let no : ⊥ = cc in absurd no }
  arrival-shaped (To t) may = record { out = none; stmts = λ D f. nothing _ D; end = tt; hands = λ e. let no : ⊥ = cc in absurd no }
  arrival-shaped (Dyn a) may = jump-shaped (plan.flow.table a) may
  arrival-shaped (CallTo t back) may =
      let w = arrival_code plan p (CallTo t back) in
      record { out = none; stmts = λ D f. call plan roots p b w D none back t [] may (GoesBack.at_once (IsEntering.one t) (last-itself w.stmts) refl) IsBehind.nothing (nothing w D); end = behind-knows back (second plan.flow.setting back); hands = λ e. goes-on back (second plan.flow.setting back) e }
  arrival-shaped (CallDyn back) may =
      let w = arrival_code plan p (CallDyn back) in
      record { out = none; stmts = λ D f. choose-calls plan roots p b w back (GoesBack.at_once IsEntering.any (last-itself w.stmts) refl) plan.tree D none [] may IsBehind.nothing (nothing w D); end = behind-knows back (second plan.flow.setting back); hands = λ e. goes-on back (second plan.flow.setting back) e }
  arrival-shaped Ret may = record { out = none; stmts = λ D f. Performs.returns may refl (none-in-all D); end = tt; hands = λ e. Hands.returns (last-itself _) }

  any-four : (c : Code) → Shaped Any c → Shaped Four c
  any-four c h = record { out = h.out; stmts = λ D f. h.stmts D tt; end = h.end; hands = h.hands }

  -- ---- ways

  ways-know : (j a : Mode) (stays jumps annuls both : Point) → EndKnows four (ways j a stays jumps annuls both)
  ways-know Never Never s m n x = tt
  ways-know Never Maybe s m n x = knows-annuls four (λ i h. h)
  ways-know Never Always s m n x = tt
  ways-know Maybe Never s m n x = knows-jumped four (λ i h. h)
  ways-know Maybe Maybe s m n x = (knows-flags four (λ i h. h), Knows.number 0)
  ways-know Maybe Always s m n x = knows-jumped four (λ i h. h)
  ways-know Always Never s m n x = tt
  ways-know Always Maybe s m n x = knows-annuls four (λ i h. h)
  ways-know Always Always s m n x = tt

  ways-go : {A : Type 0} (j a : Mode) (stays jumps annuls both : Point) → ways j a stays jumps annuls both ≡ Return → A
  ways-go Never Never s m n x e = let no : ⊥ = cc in absurd no
  ways-go Never Maybe s m n x e = let no : ⊥ = cc in absurd no
  ways-go Never Always s m n x e = let no : ⊥ = cc in absurd no
  ways-go Maybe Never s m n x e = let no : ⊥ = cc in absurd no
  ways-go Maybe Maybe s m n x e = let no : ⊥ = cc in absurd no
  ways-go Maybe Always s m n x e = let no : ⊥ = cc in absurd no
  ways-go Always Never s m n x e = let no : ⊥ = cc in absurd no
  ways-go Always Maybe s m n x e = let no : ⊥ = cc in absurd no
  ways-go Always Always s m n x e = let no : ⊥ = cc in absurd no

  ways-shaped : (j a : Mode) (stays jumps annuls both : Point) → Shaped Four (ends (ways j a stays jumps annuls both))
  ways-shaped j a s m n x = record { out = four; stmts = λ D f. Performs.ends f; end = ways-know j a s m n x; hands = λ e. ways-go j a s m n x e }

  -- ---- an arrival under a guard

  selector-known : (delayed : Bool) (D : ℕ → Bool) → Four D → Knows D (selector_c delayed)
  selector-known true D f = knows-flags D f
  selector-known false D f = Knows.two Add jumped_c (Num 2) (knows-jumped D f) (Knows.number 2)

  sets-one : (w : Code) (D : ℕ → Bool) (e : CExpr) → Knows D e → Performs plan roots p b w D (Set (Temp 1) e ∷ []) none
  sets-one w D e k = Performs.sets_temp 1 e k (nothing w (with_temp D 1))

  behind-set : (w : Code) (D : ℕ → Bool) → Performs plan roots p b w D selected_behind none
  behind-set w D = sets-one w D (Bin Add (Num 4) (Of ServeE)) (Knows.two Add (Num 4) (Of ServeE) (Knows.number 4) (knows-flag D))

  target-set : (w : Code) (D : ℕ → Bool) → Performs plan roots p b w D (Set (Temp 1) (Bin Add (Num 4) (Of Pt)) ∷ []) none
  target-set w D = sets-one w D (Bin Add (Num 4) (Of Pt)) (Knows.two Add (Num 4) (Of Pt) (Knows.number 4) (knows-pt D))

  module _ (delayed : Bool) (j a : Mode) (stays jumps annuls : Point) where
    abbrev chosen : Slot → Code
    chosen slot = selected_code plan delayed j a stays jumps annuls slot

    selected-last : (slot : Slot) → Last (If (Bin Eq jumped_c (Num 3)) (selected_c plan slot) ∷ []) (chosen slot).stmts
    selected-last slot = record { front = Set (Temp 1) (selector_c delayed) ∷ []; quiet = Quiet.sets (Temp 1) (selector_c delayed) Quiet.empty; is = refl }

    chosen-body : (slot : Slot) → May slot → (D : ℕ → Bool) → Performs plan roots p b (chosen slot) D (selected_c plan slot) none
    chosen-body Seq may D = target-set (chosen Seq) D
    chosen-body (To t) may D = target-set (chosen (To t)) D
    chosen-body (Dyn t) may D = target-set (chosen (Dyn t)) D
    chosen-body (CallTo t back) may D =
        call plan roots p b (chosen (CallTo t back)) D none back t selected_behind may (GoesBack.chosen j a stays jumps annuls undiscovered_stop (Of Pt) (IsEntering.one t) (selected-last (CallTo t back)) refl) IsBehind.chooses (behind-set (chosen (CallTo t back)) D)
    chosen-body (CallDyn back) may D =
        choose-calls plan roots p b (chosen (CallDyn back)) back (GoesBack.chosen j a stays jumps annuls undiscovered_stop (Of Pt) IsEntering.any (selected-last (CallDyn back)) refl) plan.tree D none selected_behind may IsBehind.chooses
        (behind-set (chosen (CallDyn back)) D)
    chosen-body Ret may D = target-set (chosen Ret) D

    select-shaped : (slot : Slot) → May slot → Shaped Four (chosen slot)
    select-shaped slot may = record {
      out = four;
      stmts = λ D f. Performs.sets_temp 1 (selector_c delayed) (selector-known delayed D f)
          (Performs.tests (Bin Eq jumped_c (Num 3)) (Knows.two Eq jumped_c (Num 3) (knows-jumped (with_temp D 1) (with-four D 1 f)) (Knows.number 3)) (chosen-body slot may (with_temp D 1)) (Performs.ends (with-four D 1 f)));
      end = (knows-jumped four (λ i h. h), knows-pt four);
      hands = λ e. let no : ⊥ = cc in absurd no;
    }

  module _ (pc : ℕ) (slot : Slot) (j a : Mode) (stays jumps annuls : Point) (may : can_arrive j a ≡ true → May slot) where
    jump-ways-shaped : (delayed : Bool) → Shaped Four (jump_ways plan p pc delayed j a stays jumps annuls slot)
    jump-ways-shaped delayed = by (always_arrives j a) (can_arrive j a && is_selected plan slot) refl refl
      where
        by : (x y : Bool) → always_arrives j a ≡ x → (can_arrive j a && is_selected plan slot) ≡ y
            → Shaped Four (if x then arrival_code plan p slot else if y then selected_code plan delayed j a stays jumps annuls slot else ends (ways j a stays jumps annuls (arrival_point pc slot)))
        by true y e f = any-four (arrival_code plan p slot) (arrival-shaped slot (may (both-do j a e)))
        by false true e f = select-shaped delayed j a stays jumps annuls slot (may (and-first (can_arrive j a) (is_selected plan slot) f))
        by false false e f = ways-shaped j a stays jumps annuls (arrival_point pc slot)

  -- ---- control behind an instruction

  target-shaped : (kind : JumpKind) (c : Code) → Shaped Four c → Shaped Four (keep_target kind c)
  target-shaped kind c h = by kind
    where
      keeps : Shaped Four (code (Set Pt jump_target_c ∷ c.stmts) c.end)
      keeps = with-front c (Set Pt jump_target_c ∷ c.stmts) (record { front = Set Pt jump_target_c ∷ []; quiet = Quiet.sets Pt jump_target_c Quiet.empty; is = refl }) (λ D E f k. Performs.sets Pt jump_target_c refl (knows-temp D f 0 refl) (k D f)) h

      by : (kind : JumpKind) → Shaped Four (keep_target kind c)
      by JumpKind.Never = h
      by (JumpKind.To t) = h
      by JumpKind.Dyn = keeps
      by (JumpKind.CallTo t back) = h
      by (JumpKind.CallDyn back) = keeps
      by JumpKind.Ret = keeps

  seq-shaped : (delay : Option ℕ) (pc next : ℕ) (slot : Slot) (j a : Mode) → (can_arrive j (annul_for delay a) ≡ true → May slot) → Shaped Four (code_from_seq plan p pc next delay j a slot)
  seq-shaped None pc next slot j a may = jump-ways-shaped pc slot j Always (point next Seq) (point next Seq) (point next Seq) may false
  seq-shaped (Some d) pc next slot j a may = jump-ways-shaped pc slot j a (point next Seq) (point next slot) (point (further_on next d) Seq) may true

  rest-shaped : (delay : Option ℕ) (next : ℕ) (a : Mode) → Shaped Four (code_without_jump next delay a)
  rest-shaped None next a = ways-shaped Never Never (point next Seq) (point next Seq) (point next Seq) (point next Seq)
  rest-shaped (Some d) next a = ways-shaped Never a (point next Seq) (point next Seq) (point (further_on next d) Seq) (point (further_on next d) Seq)

  stops-shaped : (pc : ℕ) → Shaped Four (ends (Finish couple_stop (Num pc)))
  stops-shaped pc = record { out = none; stmts = λ D f. nothing _ D; end = Knows.number pc; hands = λ e. let no : ⊥ = cc in absurd no }

  couples-shaped : (condition : CExpr) (pc : ℕ) (c : Code) → ((D : ℕ → Bool) → Four D → Knows D condition) → Shaped Four c → Shaped Four (code (stop_if condition couple_stop (Num pc) c.stmts) c.end)
  couples-shaped condition pc c u h =
      let stmts = stop_if condition couple_stop (Num pc) c.stmts in
      with-front c stmts (record { front = If condition (Stop couple_stop (Num pc) ∷ []) ∷ []; quiet = Quiet.tests condition (Quiet.stops couple_stop (Num pc) Quiet.empty) Quiet.empty; is = refl }) (λ D E f k. stop plan roots p b (code stmts c.end) D E condition couple_stop (Num pc) c.stmts (u D f) (Knows.number pc) (k D f)) h

  one-shaped : (delay : Option ℕ) (pc t : ℕ) (j a : Mode) → Shaped Four (couple_jump pc j (ends (annul_ways a t (past_slot delay t))))
  one-shaped delay pc t j a = by j
    where
      on : Shaped Four (ends (annul_ways a t (past_slot delay t)))
      on = ways-shaped Never a (point t Seq) (point t Seq) (point (past_slot delay t) Seq) (point (past_slot delay t) Seq)

      by : (j : Mode) → Shaped Four (couple_jump pc j (ends (annul_ways a t (past_slot delay t))))
      by Never = on
      by Maybe = couples-shaped jumped_c pc (ends (annul_ways a t (past_slot delay t))) knows-jumped on
      by Always = stops-shaped pc

  slot-shaped : (pc : ℕ) (j a : Mode) (c : Code) → (possible j false ≡ true → possible a false ≡ true → Shaped Four c) → Shaped Four (couple_any pc j a c)
  slot-shaped pc Never Never c h = h refl refl
  slot-shaped pc Never Maybe c h = couples-shaped flags_c pc c knows-flags (h refl refl)
  slot-shaped pc Never Always c h = stops-shaped pc
  slot-shaped pc Maybe Never c h = couples-shaped flags_c pc c knows-flags (h refl refl)
  slot-shaped pc Maybe Maybe c h = couples-shaped flags_c pc c knows-flags (h refl refl)
  slot-shaped pc Maybe Always c h = stops-shaped pc
  slot-shaped pc Always a c h = stops-shaped pc

  module _ (pc next : ℕ) (j a : Mode) where
    abbrev delay : Option ℕ
    delay = plan.flow.setting.machine.delay

    from-seq : (kind : JumpKind) (slot : Slot) → (can_arrive j (annul_for delay a) ≡ true → May slot) → Shaped Four (keep_target kind (code_from_seq plan p pc next delay j a slot))
    from-seq kind slot may = target-shaped kind (code_from_seq plan p pc next delay j a slot) (seq-shaped delay pc next slot j a may)

    from-slot : (slot : Slot) → (possible j false ≡ true → possible a false ≡ true → May slot) → Shaped Four (couple_any pc j a (arrival_code plan p slot))
    from-slot slot may = slot-shaped pc j a (arrival_code plan p slot) (λ x y. any-four (arrival_code plan p slot) (arrival-shaped slot (may x y)))

    pub control-shaped : (slot : Slot) (kind : JumpKind) → (possible j false ≡ true → possible a false ≡ true → May slot) → (slot ≡ Seq → can_arrive j (annul_for delay a) ≡ true → May (pending pc kind)) → Shaped Four (control_by plan p pc next slot kind j a)
    control-shaped Seq JumpKind.Never may at = rest-shaped delay next a
    control-shaped Seq (JumpKind.To t) may at = from-seq (JumpKind.To t) (To t) (at refl)
    control-shaped Seq JumpKind.Dyn may at = from-seq JumpKind.Dyn (Dyn pc) (at refl)
    control-shaped Seq (JumpKind.CallTo t r) may at = from-seq (JumpKind.CallTo t r) (CallTo t r) (at refl)
    control-shaped Seq (JumpKind.CallDyn r) may at = from-seq (JumpKind.CallDyn r) (CallDyn r) (at refl)
    control-shaped Seq JumpKind.Ret may at = from-seq JumpKind.Ret Ret (at refl)
    control-shaped (To t) (JumpKind.To u) may at = ways-shaped j a (point t Seq) (point t (To u)) (point (past_slot delay t) Seq) (point u Seq)
    control-shaped (To t) JumpKind.Never may at = one-shaped delay pc t j a
    control-shaped (To t) JumpKind.Dyn may at = one-shaped delay pc t j a
    control-shaped (To t) (JumpKind.CallTo u r) may at = one-shaped delay pc t j a
    control-shaped (To t) (JumpKind.CallDyn r) may at = one-shaped delay pc t j a
    control-shaped (To t) JumpKind.Ret may at = one-shaped delay pc t j a
    control-shaped (Dyn t) kind may at = from-slot (Dyn t) may
    control-shaped (CallTo t r) kind may at = from-slot (CallTo t r) may
    control-shaped (CallDyn r) kind may at = from-slot (CallDyn r) may
    control-shaped Ret kind may at = from-slot Ret may
