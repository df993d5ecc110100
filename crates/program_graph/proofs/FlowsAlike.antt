-- Two flows of one program run alike.
use Rattle.std.proofs.Common.{◌≡◌, ℕ, zero, suc, Bool, true, false, true≢false, if◌then◌else◌, List, [], ◌∷◌, Option, Some, None, inl, inr, refl, sym, ap, ◌∙◌, subst}
use Rattle.std.specs.Prelude.{◌⊎◌, ◌↔◌, ◌||◌, IsTrue, is_some, Result, Ok, Err}
use Rattle.std.proofs.Math.Path.{fun_ext}
use Rattle.lockstep.specs.Runs.{Next, Goes, Ends, after, View, machine_view}
use Rattle.rtl_core.specs.declared.inst.GroundInst.{GroundInst}
use Rattle.rtl_core.specs.declared.conv.ServiceShape.{ServiceShape}
use Rattle.rtl_core.specs.declared.point.Point.{Point}
use Rattle.rtl_core.specs.declared.point.Slot.{Slot}
use Rattle.rtl_core.specs.declared.point.Slot.TheVariants.{Seq, To, Dyn, CallTo, CallDyn, Ret}
use Rattle.rtl_core.specs.declared.stop.Reply.{Reply}
use Rattle.rtl_core.specs.declared.stop.Stop.{Stop}
use Rattle.rtl_core.specs.Contents.{Contents}
use Rattle.rtl_core.specs.Services.{Served, asked}
use Rattle.rtl_core.specs.Transfers.{Ran, Went, Halted, all_transferred, fresh}
use Rattle.points.specs.Bundles.{LieInMemory}
use Rattle.points.specs.declared.block.Block.{Block}
use Rattle.points.specs.declared.block.Course.{Course}
use Rattle.points.specs.declared.block.Course.TheVariants.{On, Arrives, Couples}
use Rattle.points.specs.declared.block.JumpKind.{JumpKind}
use Rattle.points.specs.declared.block.Member.{Member}
use Rattle.points.specs.declared.block.Member.TheVariants.{Call, Tail}
use Rattle.points.specs.Bodies.{code_of, roots_of, Procedure}
use Rattle.points.specs.Control.{Control, Flow, Move, at, entered, entered_any, jumped, is_return_point, returned, arrived, followed, kept}
use Rattle.points.specs.Courses.{point, pending, course, course_by, course_from_seq, course_from_jump, course_to_both, course_to, course_from_slot}
use Rattle.points.specs.Flows.{is_computed, IsFlow}
use Rattle.points.specs.Kinds.{block_at}
use Rattle.points.specs.Machine.{Setting}
use Rattle.points.specs.Running.{State, MNext, Did, stops, moved, control_behind, controlled, after_transfers, world_of, after_service, unless_exit, with_answer, service_due, finished, concluded, performed, stepped, step, first_state, machine_run}
use Rattle.program_graph.specs.Flows.{FlowsRunAlike}
use Rattle.program_graph.proofs.Carried.{alike-tables, same-jumps}

module _ (setting : Setting) (procedures : ℕ → Bool) (table other : ℕ → List ℕ) (same : (a : ℕ) → is_computed (block_at setting a) ≡ true → table a ≡ other a) where
  abbrev f : Flow
  f = record { setting = setting; is_procedure = procedures; table = table }

  abbrev g : Flow
  g = record { setting = setting; is_procedure = procedures; table = other }

  -- a jump that is still to come is a computed one where its slot says so
  abbrev SlotStands : Slot → Type 0
  SlotStands (Dyn a) = is_computed (block_at setting a) ≡ true
  SlotStands slot = Unit {0}

  abbrev CourseStands : Course → Type 0
  CourseStands (On p) = SlotStands p.slot
  CourseStands (Arrives slot) = SlotStands slot
  CourseStands Couples = Unit {0}

  abbrev MoveStands : Move → Type 0
  MoveStands (Ok c) = SlotStands c.point.slot
  MoveStands (Err stop) = Unit {0}

  abbrev NextStands : MNext → Type 0
  NextStands (Goes s) = SlotStands s.control.point.slot
  NextStands (Ends out stop) = Unit {0}

  -- ---- courses

  seq-stands : (delay : Option ℕ) (next : ℕ) (slot : Slot) (j a : Bool) → SlotStands slot → CourseStands (course_from_seq delay next slot j a)
  seq-stands None next slot false a h = tt
  seq-stands None next slot true a h = h
  seq-stands (Some d) next slot false false h = tt
  seq-stands (Some d) next slot false true h = tt
  seq-stands (Some d) next slot true false h = h
  seq-stands (Some d) next slot true true h = h

  to-stands : (delay : Option ℕ) (t : ℕ) (a : Bool) → CourseStands (course_to delay t a)
  to-stands delay t false = tt
  to-stands delay t true = tt

  one-stands : (delay : Option ℕ) (t : ℕ) (j a : Bool) → CourseStands (Rattle.points.specs.Courses.course_to_one delay t j a)
  one-stands delay t false a = to-stands delay t a
  one-stands delay t true a = tt

  both-stands : (delay : Option ℕ) (t u : ℕ) (j a : Bool) → CourseStands (course_to_both delay t u j a)
  both-stands delay t u false a = to-stands delay t a
  both-stands delay t u true false = tt
  both-stands delay t u true true = tt

  jump-stands : (delay : Option ℕ) (t : ℕ) (kind : JumpKind) (j a : Bool) → CourseStands (course_from_jump delay t kind j a)
  jump-stands delay t (JumpKind.To u) j a = both-stands delay t u j a
  jump-stands delay t JumpKind.Never j a = one-stands delay t j a
  jump-stands delay t JumpKind.Dyn j a = one-stands delay t j a
  jump-stands delay t (JumpKind.CallTo u back) j a = one-stands delay t j a
  jump-stands delay t (JumpKind.CallDyn back) j a = one-stands delay t j a
  jump-stands delay t JumpKind.Ret j a = one-stands delay t j a

  slot-stands : (slot : Slot) (j a : Bool) → SlotStands slot → CourseStands (course_from_slot slot j a)
  slot-stands slot true a h = tt
  slot-stands slot false true h = tt
  slot-stands slot false false h = h

  pending-stands : (pc : ℕ) (inst : GroundInst) (kind : JumpKind) → block_at setting pc ≡ Block.Inst inst kind → SlotStands (pending pc kind)
  pending-stands pc inst JumpKind.Never e = tt
  pending-stands pc inst (JumpKind.To t) e = tt
  pending-stands pc inst JumpKind.Dyn e = ap is_computed e
  pending-stands pc inst (JumpKind.CallTo t back) e = tt
  pending-stands pc inst (JumpKind.CallDyn back) e = tt
  pending-stands pc inst JumpKind.Ret e = tt

  course-stands : (pc : ℕ) (slot : Slot) (inst : GroundInst) (kind : JumpKind) (j a : Bool) → SlotStands slot → block_at setting pc ≡ Block.Inst inst kind
      → CourseStands (course_by setting.machine pc slot inst.next kind j a)
  course-stands pc Seq inst kind j a h e = seq-stands setting.machine.delay inst.next (pending pc kind) j a (pending-stands pc inst kind e)
  course-stands pc (To t) inst kind j a h e = jump-stands setting.machine.delay t kind j a
  course-stands pc (Dyn b) inst kind j a h e = slot-stands (Dyn b) j a h
  course-stands pc (CallTo t back) inst kind j a h e = slot-stands (CallTo t back) j a h
  course-stands pc (CallDyn back) inst kind j a h e = slot-stands (CallDyn back) j a h
  course-stands pc Ret inst kind j a h e = slot-stands Ret j a h

  -- ---- arrivals

  enters-stands : (t : ℕ) (member : Member) (c : Control) → MoveStands (entered t member c)
  enters-stands t member c = by (length-is c)
    where
      length-is : Control → Bool
      length-is c = Rattle.std.specs.Prelude.nat_eq (Rattle.std.specs.Prelude.length c.calls) Rattle.points.specs.Control.most_calls

      by : (b : Bool) → MoveStands (if b then Err Stop.CallDepth else Ok (record c { point = point t Seq; calls = member ∷ c.calls }))
      by true = tt
      by false = tt

  any-stands : (flow : Flow) (member : Member) (c : Control) → MoveStands (entered_any flow member c)
  any-stands flow member c = by (flow.is_procedure c.target)
    where
      by : (b : Bool) → MoveStands (if b then entered c.target member c else Err (Stop.Undiscovered c.target))
      by true = enters-stands c.target member c
      by false = tt

  jumped-stands : (flow : Flow) (ts : List ℕ) (c : Control) → MoveStands (jumped flow ts c)
  jumped-stands flow [] c = any-stands flow Tail c
  jumped-stands flow (t ∷ ts) c = by (Rattle.std.specs.List.list_any (λ u. Rattle.std.specs.Prelude.nat_eq u c.target) (t ∷ ts))
    where
      by : (b : Bool) → MoveStands (if b then Ok (at c.target c) else Err (Stop.Undiscovered c.target))
      by true = tt
      by false = tt

  returned-stands : (calls : List Member) (c : Control) → MoveStands (returned setting calls c)
  returned-stands [] c = tt
  returned-stands (Tail ∷ calls) c = returned-stands calls c
  returned-stands (Call back ∷ calls) c = by (is_return_point setting back c.target)
    where
      by : (b : Bool) → MoveStands (if b then Ok (record c { point = point c.target Seq; calls = calls }) else Err (Stop.ReturnMismatch c.target))
      by true = tt
      by false = tt

  arrived-stands : (slot : Slot) (c : Control) → MoveStands (arrived f slot c)
  arrived-stands Seq c = tt
  arrived-stands (To t) c = tt
  arrived-stands (Dyn a) c = jumped-stands f (table a) c
  arrived-stands (CallTo t back) c = enters-stands t (Call back) c
  arrived-stands (CallDyn back) c = any-stands f (Call back) c
  arrived-stands Ret c = returned-stands c.calls c

  followed-stands : (course : Course) (c : Control) → CourseStands course → MoveStands (followed f course c)
  followed-stands (On p) c h = h
  followed-stands (Arrives slot) c h = arrived-stands slot c
  followed-stands Couples c h = tt

  -- ---- the same move

  jumped-same : (ts : List ℕ) (c : Control) → jumped f ts c ≡ jumped g ts c
  jumped-same [] c = refl
  jumped-same (t ∷ ts) c = refl

  arrived-same : (slot : Slot) (c : Control) → SlotStands slot → arrived f slot c ≡ arrived g slot c
  arrived-same Seq c h = refl
  arrived-same (To t) c h = refl
  arrived-same (Dyn a) c h = ap (λ ts. jumped f ts c) (same a h) ∙ jumped-same (other a) c
  arrived-same (CallTo t back) c h = refl
  arrived-same (CallDyn back) c h = refl
  arrived-same Ret c h = refl

  followed-same : (course : Course) (c : Control) → CourseStands course → followed f course c ≡ followed g course c
  followed-same (On p) c h = refl
  followed-same (Arrives slot) c h = arrived-same slot c h
  followed-same Couples c h = refl

  -- ---- the same step

  -- a step that is the same with both, and keeps what stands
  record IsStep (x y : MNext) : Type 0 where
    alike : x ≡ y
    stands : NextStands x

  moved-step : (m n : Move) (s : State) → m ≡ n → MoveStands m → IsStep (moved m s) (moved n s)
  moved-step (Ok c) n s e h = record { alike = ap (λ k. moved k s) e; stands = h }
  moved-step (Err stop) n s e h = record { alike = ap (λ k. moved k s) e; stands = tt }

  module _ (pc : ℕ) (slot : Slot) (inst : GroundInst) (kind : JumpKind) (slot-is : SlotStands slot) (e : block_at setting pc ≡ Block.Inst inst kind) where
    controlled-step : (did : Did) (s : State) → s.control.point ≡ point pc slot → did.inst ≡ inst → did.kind ≡ kind → IsStep (controlled f did s) (controlled g did s)
    controlled-step did s at-is i k =
        let way = course setting.machine s.control.point did.inst.next did.kind (is_some did.jump) did.annul in
        let stands : CourseStands way =
        subst (λ (p : Point). CourseStands (course setting.machine p did.inst.next did.kind (is_some did.jump) did.annul)) (sym at-is)
        (subst (λ (x : GroundInst). CourseStands (course_by setting.machine pc slot x.next did.kind (is_some did.jump) did.annul)) (sym i)
        (subst (λ (x : JumpKind). CourseStands (course_by setting.machine pc slot inst.next x (is_some did.jump) did.annul)) (sym k) (course-stands pc slot inst kind (is_some did.jump) did.annul slot-is e))) in
        moved-step (control_behind f did s.control) (control_behind g did s.control) s (followed-same way (kept did.jump s.control) stands) (followed-stands way (kept did.jump s.control) stands)

    exit-step : (reply : Reply) (x y : MNext) (s : State) → IsStep x y → IsStep (unless_exit reply x s) (unless_exit reply y s)
    exit-step (Reply.Exit k) x y s h = record { alike = refl; stands = tt }
    exit-step (Reply.Value k) x y s h = h
    exit-step (Reply.Error k) x y s h = h

    finished-step : (did : Did) (o : Option ServiceShape) (s : State) → s.control.point ≡ point pc slot → did.inst ≡ inst → did.kind ≡ kind → IsStep (finished f did o s) (finished g did o s)
    finished-step did None s at-is i k = controlled-step did s at-is i k
    finished-step did (Some shape) s at-is i k =
        let done = asked setting.conv shape s.cells (world_of s) in
        let t = after_service setting shape done s in
        exit-step done.reply (controlled f did t) (controlled g did t) t (controlled-step did t at-is i k)

    concluded-step : (ran : Ran) (s : State) → s.control.point ≡ point pc slot → IsStep (concluded f inst kind ran s) (concluded g inst kind ran s)
    concluded-step (Halted stop d) s at-is = record { alike = refl; stands = tt }
    concluded-step (Went d) s at-is =
        finished-step (record { inst = inst; kind = kind; jump = d.jump; annul = d.annul }) (service_due d.service setting.conv.service) (after_transfers s d) at-is refl refl

  stepped-step : (b : Block) (s : State) → SlotStands s.control.point.slot → block_at setting s.control.point.pc ≡ b → IsStep (stepped f b s) (stepped g b s)
  stepped-step Block.Outside s h e = record { alike = refl; stands = tt }
  stepped-step Block.Illegal s h e = record { alike = refl; stands = tt }
  stepped-step (Block.Inst inst kind) s h e =
      concluded-step s.control.point.pc s.control.point.slot inst kind h e (all_transferred setting.machine s.control.point.pc inst.transfers (fresh s.cells s.memory s.saved)) s refl

  same-after : (n : ℕ) (x : MNext) → NextStands x → after (step f) n x ≡ after (step g) n x
  same-after zero x h = refl
  same-after (suc n) (Goes s) h =
      let one = stepped-step (block_at setting s.control.point.pc) s h refl in
      same-after n (step f s) one.stands ∙ ap (after (step g) n) one.alike
  same-after (suc n) (Ends out stop) h = refl

  pub same-run : (memory : Contents) (start : ℕ) (input : List ℕ) (n : ℕ) → machine_run f memory start input n ≡ machine_run g memory start input n
  same-run memory start input n = ap (machine_view (λ s. s.output)) (same-after n (Goes (first_state setting memory start input)) tt)

-- ---- procedures

same-flag : (a b : Bool) → (IsTrue a → IsTrue b) → (IsTrue b → IsTrue a) → a ≡ b
same-flag true true x y = refl
same-flag true false x y = let no = x refl in absurd (true≢false (sym no))
same-flag false true x y = let no = y refl in absurd (true≢false (sym no))
same-flag false false x y = refl

module _ (setting : Setting) (entry : ℕ) (symbols : List ℕ) (f g : Flow) (lie : LieInMemory setting.frozen) (is-f : IsFlow setting entry symbols f) (is-g : IsFlow setting entry symbols g) where
  abbrev roots : List ℕ
  roots = roots_of setting entry symbols

  abbrev with : (ℕ → Bool) → (ℕ → List ℕ) → Flow
  with procedures table = record { setting = setting; is_procedure = procedures; table = table }

  -- a procedure by one is one by the other
  carried : (x y : Flow) → IsFlow setting entry symbols x → IsFlow setting entry symbols y → (p : ℕ) → IsTrue (x.is_procedure p) → IsTrue (y.is_procedure p)
  carried x y is-x is-y p h =
      let there = (alike-tables setting x.table roots lie is-x.tables).procedures p in
      let back = (alike-tables setting y.table roots lie is-y.tables).procedures p in
      (is-y.procedures p).1 (back.0 (there.1 ((is-x.procedures p).0 h)))

  flags : f.is_procedure ≡ g.is_procedure
  flags = fun_ext (λ p. same-flag (f.is_procedure p) (g.is_procedure p) (carried f g is-f is-g p) (carried g f is-g is-f p))

  whole : (x : Flow) → x.setting ≡ setting → x ≡ with x.is_procedure x.table
  whole x e = λ i. record { setting = e i; is_procedure = x.is_procedure; table = x.table }

  pub run-alike : (memory : Contents) (start : ℕ) (input : List ℕ) (n : ℕ) → machine_run f memory start input n ≡ machine_run g memory start input n
  run-alike memory start input n =
      ap (λ x. machine_run x memory start input n) (whole f is-f.setting_is) ∙ ap (λ b. machine_run (with b f.table) memory start input n) flags
      ∙ same-run setting g.is_procedure f.table g.table (same-jumps setting f.table g.table lie is-f.tables is-g.tables) memory start input n
      ∙ sym (ap (λ x. machine_run x memory start input n) (whole g is-g.setting_is))

pub flows-run-alike : FlowsRunAlike
flows-run-alike setting entry symbols f g lie is-f is-g memory start input n = run-alike setting entry symbols f g lie is-f is-g memory start input n
