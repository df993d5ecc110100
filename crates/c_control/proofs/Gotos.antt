-- Where a block of the text can go on.
use Rattle.std.proofs.Common.{◌≡◌, ℕ, Bool, true, false, ◌&&◌, List, [], ◌∷◌, Option, Some, None, refl, sym, ap, arith}
use Rattle.std.specs.Prelude.{not, if◌then◌else◌}
use Rattle.std.specs.List.{Contains}
use Rattle.std.proofs.lemmas.List.Elements.{Contains-append_right, Contains-get_or}
use Rattle.rtl_core.specs.declared.point.Point.{Point}
use Rattle.rtl_core.specs.declared.point.Slot.{Slot}
use Rattle.rtl_core.specs.declared.point.Slot.TheVariants.{Seq, To, Dyn, CallTo, CallDyn, Ret}
use Rattle.points.specs.declared.block.JumpKind.{JumpKind}
use Rattle.points.specs.declared.block.Mode.{Mode}
use Rattle.points.specs.declared.block.Mode.TheVariants.{Never, Maybe, Always}
use Rattle.points.specs.declared.block.Next.{Next}
use Rattle.points.specs.Kinds.{further as further_on, past_slot, second}
use Rattle.points.specs.Courses.{point, pending, possible, arrival_next, course_next, course_by, course_from_seq, course_from_jump, course_from_slot, course_to}
use Rattle.points.specs.Bodies.{Code, code_of, nexts, LeadsTo, CallsBack}
use Rattle.c_lang.specs.declared.tree.Case.{Case}
use Rattle.c_lang.specs.declared.tree.End.{End}
use Rattle.c_control.specs.Blocks.{ways, arrival_code, arrival_point, jump_code, table_cases, back_cases, behind_call_by, can_arrive, always_arrives, is_selected, selected_code, selected_cases, other_cases, jump_ways, code_from_seq, code_without_jump, code_from_jump, control_by, leaves_apart, annul_for, annul_ways, couple_jump, couple_any, ends}
use Rattle.c_control.specs.Shape.{AllLead, AllCases}
use Rattle.c_control.specs.Plans.{Plan, further_label}
use Rattle.c_control.proofs.Ways.{way_of, way_course}

-- each way that can come out leads on
pub ways-lead : (P : Point → Type 0) (j a : Mode) (stays jumps annuls both : Point) → ((x y : Bool) → possible j x ≡ true → possible a y ≡ true → P (way_of x y stays jumps annuls both)) → AllLead P (ways j a stays jumps annuls both)
ways-lead P Never Never s m n b h = h false false refl refl
ways-lead P Never Maybe s m n b h = (h false true refl refl, h false false refl refl)
ways-lead P Never Always s m n b h = h false true refl refl
ways-lead P Maybe Never s m n b h = (h true false refl refl, h false false refl refl)
ways-lead P Maybe Maybe s m n b h = (h false false refl refl, (h true false refl refl, (h false true refl refl, (h true true refl refl, tt))))
ways-lead P Maybe Always s m n b h = (h true true refl refl, h false true refl refl)
ways-lead P Always Never s m n b h = h true false refl refl
ways-lead P Always Maybe s m n b h = (h true true refl refl, h true false refl refl)
ways-lead P Always Always s m n b h = h true true refl refl

-- each target of a table
pub table-leads : (P : Point → Type 0) (more : ℕ) (ts : List ℕ) → ((t : ℕ) → Contains ts t → P (point t Seq)) → AllCases P (table_cases more ts)
table-leads P more [] h = tt
table-leads P more (t ∷ ts) h = (h t (Contains-get_or (t ∷ ts) 0 t (omega arith)), table-leads P more ts (λ u c. h u (Contains-append_right (t ∷ []) ts u c)))

module _ (plan : Plan) (b : Point) where
  abbrev code : Code
  code = code_of plan.flow.setting plan.flow.table

  abbrev Leads : Point → Type 0
  Leads to = LeadsTo code b to

  -- each return point
  pub backs-lead : (more back : ℕ) (o : Option ℕ) → second plan.flow.setting back ≡ o → CallsBack (nexts code b) back → AllCases Leads (back_cases more back o)
  backs-lead more back None e c = (LeadsTo.back c, tt)
  backs-lead more back (Some s) e c = (LeadsTo.back c, (LeadsTo.past c e, tt))

  behind-leads : (back : ℕ) (o : Option ℕ) → second plan.flow.setting back ≡ o → CallsBack (nexts code b) back → AllLead Leads (behind_call_by back o)
  behind-leads back None e c = LeadsTo.back c
  behind-leads back (Some s) e c = backs-lead 0 back (Some s) e c

  -- an arrival that a step can make
  pub arrival-leads : (p : ℕ) (slot : Slot) → Contains (nexts code b) (arrival_next slot) → AllLead Leads (arrival_code plan p slot).end
  arrival-leads p Seq c = tt
  arrival-leads p (To t) c = LeadsTo.goes c
  arrival-leads p (Dyn a) c = by (plan.flow.table a) (λ t i. LeadsTo.jumps c i)
    where
      by : (ts : List ℕ) → ((t : ℕ) → Contains ts t → Leads (point t Seq)) → AllLead Leads (jump_code plan p ts).end
      by [] h = tt
      by (t ∷ ts) h = table-leads Leads 0 (t ∷ ts) h
  arrival-leads p (CallTo t back) c = behind-leads back (second plan.flow.setting back) refl (CallsBack.given c)
  arrival-leads p (CallDyn back) c = behind-leads back (second plan.flow.setting back) refl (CallsBack.any c)
  arrival-leads p Ret c = tt

-- ---- control

all-lead : (P Q : Point → Type 0) → ((to : Point) → P to → Q to) → (end : End) → AllLead P end → AllLead Q end
all-lead P Q f (End.Goto to) h = f to h
all-lead P Q f (End.Branch e x y) h = (f x h.0, f y h.1)
all-lead P Q f (End.Switch e cases k other) h = by cases h
  where
    by : (cases : List Case) → AllCases P cases → AllCases Q cases
    by [] h = tt
    by (c ∷ cases) h = (f c.to h.0, by cases h.1)
all-lead P Q f End.Return h = tt
all-lead P Q f (End.Finish k e) h = tt

no-way : {A : Type 0} → false ≡ true → A
no-way e = let no : ⊥ = cc in absurd no

can-both : (j a : Mode) → possible j true ≡ true → possible a true ≡ true → can_arrive j a ≡ true
can-both Never a e f = no-way e
can-both Maybe Never e f = no-way f
can-both Maybe Maybe e f = refl
can-both Maybe Always e f = refl
can-both Always Never e f = no-way f
can-both Always Maybe e f = refl
can-both Always Always e f = refl

both-can : (j a : Mode) → can_arrive j a ≡ true → (possible j true ≡ true) × (possible a true ≡ true)
both-can Never a e = no-way e
both-can Maybe Never e = no-way e
both-can Maybe Maybe e = (refl, refl)
both-can Maybe Always e = (refl, refl)
both-can Always Never e = no-way e
both-can Always Maybe e = (refl, refl)
both-can Always Always e = (refl, refl)

both-do : (j a : Mode) → always_arrives j a ≡ true → can_arrive j a ≡ true
both-do Never a e = no-way e
both-do Maybe a e = no-way e
both-do Always Never e = no-way e
both-do Always Maybe e = no-way e
both-do Always Always e = refl

some-way : (a : Mode) → (y : Bool) × (possible a y ≡ true)
some-way Never = (false, refl)
some-way Maybe = (false, refl)
some-way Always = (true, refl)

and-first : (x y : Bool) → (x && y) ≡ true → x ≡ true
and-first true y e = refl
and-first false y e = no-way e

apart : (c a s : Bool) → c ≡ true → a ≡ false → (c && s) ≡ false → (c && (not a && not s)) ≡ true
apart true false false e f g = refl
apart true false true e f g = no-way (sym g)
apart true true s e f g = no-way (sym f)
apart false a s e f g = no-way e

module _ (plan : Plan) (p : ℕ) (b : Point) (P : Point → Type 0) (leads : (to : Point) → LeadsTo (code_of plan.flow.setting plan.flow.table) b to → P to) where
  abbrev ns : List Next
  ns = nexts (code_of plan.flow.setting plan.flow.table) b

  goes-on : (to : Point) → Contains ns (Next.Goes to) → P to
  goes-on to c = leads to (LeadsTo.goes c)

  cases-on : (cases : List Case) → AllCases (LeadsTo (code_of plan.flow.setting plan.flow.table) b) cases → AllCases P cases
  cases-on [] h = tt
  cases-on (c ∷ cases) h = (leads c.to h.0, cases-on cases h.1)

  arrives : (slot : Slot) → Contains ns (arrival_next slot) → AllLead P (arrival_code plan p slot).end
  arrives slot c = all-lead (LeadsTo (code_of plan.flow.setting plan.flow.table) b) P leads (arrival_code plan p slot).end (arrival-leads plan b p slot c)

  selects : (slot : Slot) → Contains ns (arrival_next slot) → AllCases P (selected_cases plan slot)
  selects Seq c = tt
  selects (To t) c = tt
  selects (Dyn a) c = table-leads P 4 (plan.flow.table a) (λ t i. leads (point t Seq) (LeadsTo.jumps c i))
  selects (CallTo t back) c = cases-on (back_cases 4 back (second plan.flow.setting back)) (backs-lead plan b 4 back (second plan.flow.setting back) refl (CallsBack.given c))
  selects (CallDyn back) c = cases-on (back_cases 4 back (second plan.flow.setting back)) (backs-lead plan b 4 back (second plan.flow.setting back) refl (CallsBack.any c))
  selects Ret c = tt

  module _ (pc : ℕ) (slot : Slot) (j a : Mode) (stays jumps annuls : Point) (come : (x y : Bool) → possible j x ≡ true → possible a y ≡ true → Contains ns (course_next (way_course x y stays jumps annuls slot)))
      (starts : slot ≡ Seq → ⊥) (further : leaves_apart plan j a slot ≡ true → P (further_label pc)) where
    on : (x y : Bool) → always_arrives j a ≡ false → (can_arrive j a && is_selected plan slot) ≡ false → possible j x ≡ true → possible a y ≡ true → P (way_of x y stays jumps annuls (arrival_point pc slot))
    on false false e f ej ea = goes-on stays (come false false ej ea)
    on true false e f ej ea = goes-on jumps (come true false ej ea)
    on false true e f ej ea = goes-on annuls (come false true ej ea)
    on true true e f ej ea = by slot (come true true ej ea) starts further f
      where
        by : (slot : Slot) → Contains ns (arrival_next slot) → (slot ≡ Seq → ⊥) → (leaves_apart plan j a slot ≡ true → P (further_label pc)) → (can_arrive j a && is_selected plan slot) ≡ false → P (arrival_point pc slot)
        by Seq c not far f = absurd (not refl)
        by (To t) c not far f = goes-on (point t Seq) c
        by (Dyn t) c not far f = far (apart (can_arrive j a) (always_arrives j a) (is_selected plan (Dyn t)) (can-both j a ej ea) e f)
        by (CallTo t r) c not far f = far (apart (can_arrive j a) (always_arrives j a) true (can-both j a ej ea) e f)
        by (CallDyn r) c not far f = far (apart (can_arrive j a) (always_arrives j a) true (can-both j a ej ea) e f)
        by Ret c not far f = far (apart (can_arrive j a) (always_arrives j a) false (can-both j a ej ea) e f)

    others : (rest : List Case) → AllCases P rest → AllCases P (other_cases j a stays jumps annuls rest)
    others rest h = by j a come
      where
        by : (j a : Mode) → ((x y : Bool) → possible j x ≡ true → possible a y ≡ true → Contains ns (course_next (way_course x y stays jumps annuls slot))) → AllCases P (other_cases j a stays jumps annuls rest)
        by Never a come = h
        by Maybe Never come = (goes-on stays (come false false refl refl), h)
        by Maybe Maybe come = (goes-on stays (come false false refl refl), (goes-on jumps (come true false refl refl), (goes-on annuls (come false true refl refl), h)))
        by Maybe Always come = (goes-on annuls (come false true refl refl), h)
        by Always Never come = h
        by Always Maybe come = (goes-on jumps (come true false refl refl), h)
        by Always Always come = h

    pub jump-leads : (delayed : Bool) → AllLead P (jump_ways plan p pc delayed j a stays jumps annuls slot).end
    jump-leads delayed = by (always_arrives j a) (can_arrive j a && is_selected plan slot) refl refl
      where
        both : can_arrive j a ≡ true → Contains ns (arrival_next slot)
        both e = let w = both-can j a e in come true true w.0 w.1

        by : (x y : Bool) → always_arrives j a ≡ x → (can_arrive j a && is_selected plan slot) ≡ y
            → AllLead P (if x then arrival_code plan p slot else if y then selected_code plan delayed j a stays jumps annuls slot else ends (ways j a stays jumps annuls (arrival_point pc slot))).end
        by true y e f = arrives slot (both (both-do j a e))
        by false true e f = others (selected_cases plan slot) (selects slot (both (and-first (can_arrive j a) (is_selected plan slot) f)))
        by false false e f = ways-lead P j a stays jumps annuls (arrival_point pc slot) (λ x y ej ea. on x y e f ej ea)

  -- nothing is to come, and the instruction does not jump
  rest-leads : (delay : Option ℕ) (next : ℕ) (a : Mode) → ((y : Bool) → possible a y ≡ true → Contains ns (course_next (course_from_seq delay next Seq false y))) → AllLead P (code_without_jump next delay a).end
  rest-leads None next a come = let w = some-way a in goes-on (point next Seq) (come w.0 w.1)
  rest-leads (Some d) next a come = ways-lead P Never a (point next Seq) (point next Seq) (point (further_on next d) Seq) (point (further_on next d) Seq) on
    where
      on : (x y : Bool) → possible Never x ≡ true → possible a y ≡ true → P (way_of x y (point next Seq) (point next Seq) (point (further_on next d) Seq) (point (further_on next d) Seq))
      on false false e f = goes-on (point next Seq) (come false f)
      on false true e f = goes-on (point (further_on next d) Seq) (come true f)
      on true y e f = no-way e

  -- nothing is to come, and the instruction can jump
  seq-leads : (delay : Option ℕ) (pc next : ℕ) (slot : Slot) (j a : Mode) → ((x y : Bool) → possible j x ≡ true → possible a y ≡ true → Contains ns (course_next (course_from_seq delay next slot x y)))
      → (slot ≡ Seq → ⊥) → (leaves_apart plan j (annul_for delay a) slot ≡ true → P (further_label pc)) → AllLead P (code_from_seq plan p pc next delay j a slot).end
  seq-leads None pc next slot j a come starts far = jump-leads pc slot j Always (point next Seq) (point next Seq) (point next Seq) on starts far false
    where
      on : (x y : Bool) → possible j x ≡ true → possible Always y ≡ true → Contains ns (course_next (way_course x y (point next Seq) (point next Seq) (point next Seq) slot))
      on x false ej ea = no-way ea
      on false true ej ea = let w = some-way a in come false w.0 ej w.1
      on true true ej ea = let w = some-way a in come true w.0 ej w.1
  seq-leads (Some d) pc next slot j a come starts far = jump-leads pc slot j a (point next Seq) (point next slot) (point (further_on next d) Seq) on starts far true
    where
      on : (x y : Bool) → possible j x ≡ true → possible a y ≡ true → Contains ns (course_next (way_course x y (point next Seq) (point next slot) (point (further_on next d) Seq) slot))
      on false false ej ea = come false false ej ea
      on true false ej ea = come true false ej ea
      on false true ej ea = come false true ej ea
      on true true ej ea = come true true ej ea

  -- in the slot of a plain jump stands another one
  pair-leads : (delay : Option ℕ) (pc t u : ℕ) (j a : Mode) → ((x y : Bool) → possible j x ≡ true → possible a y ≡ true → Contains ns (course_next (course_from_jump delay t (JumpKind.To u) x y)))
      → AllLead P (code_from_jump delay pc t (JumpKind.To u) j a).end
  pair-leads delay pc t u j a come = ways-lead P j a (point t Seq) (point t (To u)) (point (past_slot delay t) Seq) (point u Seq) on
    where
      on : (x y : Bool) → possible j x ≡ true → possible a y ≡ true → P (way_of x y (point t Seq) (point t (To u)) (point (past_slot delay t) Seq) (point u Seq))
      on false false e f = goes-on (point t Seq) (come false false e f)
      on true false e f = goes-on (point t (To u)) (come true false e f)
      on false true e f = goes-on (point (past_slot delay t) Seq) (come false true e f)
      on true true e f = goes-on (point u Seq) (come true true e f)

  -- in the slot of a plain jump stands no other one that may stand there
  one-leads : (delay : Option ℕ) (t : ℕ) (a : Mode) → ((y : Bool) → possible a y ≡ true → Contains ns (course_next (course_to delay t y)))
      → AllLead P (annul_ways a t (past_slot delay t))
  one-leads delay t a come = ways-lead P Never a (point t Seq) (point t Seq) (point (past_slot delay t) Seq) (point (past_slot delay t) Seq) on
    where
      on : (x y : Bool) → possible Never x ≡ true → possible a y ≡ true → P (way_of x y (point t Seq) (point t Seq) (point (past_slot delay t) Seq) (point (past_slot delay t) Seq))
      on false false e f = goes-on (point t Seq) (come false f)
      on false true e f = goes-on (point (past_slot delay t) Seq) (come true f)
      on true y e f = no-way e

  other-leads : (delay : Option ℕ) (pc t : ℕ) (j a : Mode) → ((y : Bool) → possible j false ≡ true → possible a y ≡ true → Contains ns (course_next (course_to delay t y))) → AllLead P (couple_jump pc j (ends (annul_ways a t (past_slot delay t)))).end
  other-leads delay pc t Never a come = one-leads delay t a (λ y f. come y refl f)
  other-leads delay pc t Maybe a come = one-leads delay t a (λ y f. come y refl f)
  other-leads delay pc t Always a come = tt

  -- in any other slot
  slot-leads : (pc : ℕ) (slot : Slot) (j a : Mode) → ((x y : Bool) → possible j x ≡ true → possible a y ≡ true → Contains ns (course_next (course_from_slot slot x y)))
      → AllLead P (couple_any pc j a (arrival_code plan p slot)).end
  slot-leads pc slot Never Never come = arrives slot (come false false refl refl)
  slot-leads pc slot Never Maybe come = arrives slot (come false false refl refl)
  slot-leads pc slot Never Always come = tt
  slot-leads pc slot Maybe Never come = arrives slot (come false false refl refl)
  slot-leads pc slot Maybe Maybe come = arrives slot (come false false refl refl)
  slot-leads pc slot Maybe Always come = tt
  slot-leads pc slot Always a come = tt

  -- control behind an instruction
  module _ (pc next : ℕ) (j a : Mode) where
    abbrev Come : Slot → JumpKind → Type 0
    Come slot kind = (x y : Bool) → possible j x ≡ true → possible a y ≡ true → Contains ns (course_next (course_by plan.flow.setting.machine pc slot next kind x y))

    pub control-leads : (slot : Slot) (kind : JumpKind) → Come slot kind → (kind ≡ JumpKind.Never → j ≡ Never)
        → (slot ≡ Seq → leaves_apart plan j (annul_for plan.flow.setting.machine.delay a) (pending pc kind) ≡ true → P (further_label pc)) → AllLead P (control_by plan p pc next slot kind j a).end
    control-leads Seq JumpKind.Never come never far = let e = never refl in rest-leads plan.flow.setting.machine.delay next a (λ y f. come false y (ap (λ m. possible m false) e) f)
    control-leads Seq (JumpKind.To t) come never far = seq-leads plan.flow.setting.machine.delay pc next (To t) j a come (λ e. cc) (far refl)
    control-leads Seq JumpKind.Dyn come never far = seq-leads plan.flow.setting.machine.delay pc next (Dyn pc) j a come (λ e. cc) (far refl)
    control-leads Seq (JumpKind.CallTo t r) come never far = seq-leads plan.flow.setting.machine.delay pc next (CallTo t r) j a come (λ e. cc) (far refl)
    control-leads Seq (JumpKind.CallDyn r) come never far = seq-leads plan.flow.setting.machine.delay pc next (CallDyn r) j a come (λ e. cc) (far refl)
    control-leads Seq JumpKind.Ret come never far = seq-leads plan.flow.setting.machine.delay pc next Ret j a come (λ e. cc) (far refl)
    control-leads (To t) (JumpKind.To u) come never far = pair-leads plan.flow.setting.machine.delay pc t u j a come
    control-leads (To t) JumpKind.Never come never far = other-leads plan.flow.setting.machine.delay pc t j a (λ y. come false y)
    control-leads (To t) JumpKind.Dyn come never far = other-leads plan.flow.setting.machine.delay pc t j a (λ y. come false y)
    control-leads (To t) (JumpKind.CallTo u r) come never far = other-leads plan.flow.setting.machine.delay pc t j a (λ y. come false y)
    control-leads (To t) (JumpKind.CallDyn r) come never far = other-leads plan.flow.setting.machine.delay pc t j a (λ y. come false y)
    control-leads (To t) JumpKind.Ret come never far = other-leads plan.flow.setting.machine.delay pc t j a (λ y. come false y)
    control-leads (Dyn t) kind come never far = slot-leads pc (Dyn t) j a come
    control-leads (CallTo t r) kind come never far = slot-leads pc (CallTo t r) j a come
    control-leads (CallDyn r) kind come never far = slot-leads pc (CallDyn r) j a come
    control-leads Ret kind come never far = slot-leads pc Ret j a come
