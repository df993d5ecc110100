-- Where control goes on is reached, and each call that it makes is one that can be made.
use Rattle.std.proofs.Common.{◌≡◌, ℕ, Bool, true, false, true≢false, ◌&&◌, ◌||◌, List, [], ◌∷◌, ◌++◌, length, Option, Some, None, Ok, Err, inl, inr, refl, sym, ap, ◌∙◌, subst, rules, eqb-true}
use Rattle.std.specs.Prelude.{◌⊎◌, ◌↔◌, ◌==◌, is_some, if◌then◌else◌, IsTrue}
use Rattle.std.specs.List.{All, Contains, list_any}
use Rattle.std.proofs.lemmas.List.Elements.{Contains-append_left, Contains-append_right, All-head, All-tail, All-cons}
use Rattle.worklist.proofs.Members.{head_member, tail_member, member_cases}
use Rattle.lockstep.specs.Runs.{Goes, Ends}
use Rattle.rtl_core.specs.declared.conv.ServiceShape.{ServiceShape}
use Rattle.rtl_core.specs.declared.inst.GroundInst.{GroundInst}
use Rattle.rtl_core.specs.declared.machine.Machine.{Machine}
use Rattle.rtl_core.specs.declared.point.Point.{Point}
use Rattle.rtl_core.specs.declared.point.Slot.{Slot}
use Rattle.rtl_core.specs.declared.point.Slot.TheVariants.{Seq, To, Dyn, CallTo, CallDyn, Ret}
use Rattle.rtl_core.specs.declared.stop.Reply.{Reply}
use Rattle.rtl_core.specs.declared.stop.Stop.{Stop}
use Rattle.rtl_core.specs.Services.{asked}
use Rattle.rtl_core.specs.Transfers.{Doing, Ran, Went, Halted, all_transferred, fresh}
use Rattle.points.specs.declared.block.Block.{Block}
use Rattle.points.specs.declared.block.Block.TheVariants.{Inst}
use Rattle.points.specs.declared.block.Course.{Course}
use Rattle.points.specs.declared.block.Course.TheVariants.{On, Arrives, Couples}
use Rattle.points.specs.declared.block.JumpKind.{JumpKind}
use Rattle.points.specs.declared.block.Member.{Member}
use Rattle.points.specs.declared.block.Member.TheVariants.{Call, Tail}
use Rattle.points.specs.declared.block.Mode.{Mode}
use Rattle.points.specs.declared.block.Next.{Next}
use Rattle.points.specs.contracts.block.NextPartialEq.TheImpl as next_equality
use Rattle.points.specs.Bodies.{Code, nexts, given, any, goes, jumps as by_table, back as comes_back, past as comes_past, first, Procedure, IsReached}
use Rattle.points.specs.Control.{Control, Flow, Move, most_calls, entered, entered_any, jumped, is_second, is_return_point, returned, arrived, followed, kept}
use Rattle.points.specs.Courses.{point, course, course_next, arrival_next, possible, halts, next_if, nexts_of, all_but, once, after, jump_mode, annul_mode}
use Rattle.points.specs.Kinds.{block_at, second}
use Rattle.points.specs.Running.{State, MNext, Did, step, stepped, concluded, finished, service_due, controlled, control_behind, moved, unless_exit, after_service, after_transfers, world_of}
use Rattle.discover.proofs.Serving.{goes_on}
use Rattle.graph_control.specs.Programs.{program_of, Comes, ComesBack, IsOpen}
use Rattle.graph_control.proofs.Modes.{jump-possible, annul-possible, not-halted}

-- ---- what comes behind an instruction is among all that can come

equals-is : (n o : Next) → next_equality.eq-value.it n o ≡ true → n ≡ o
equals-is n o h = search rules

others-stay : (o n : Next) (ns : List Next) → next_equality.eq-value.it o n ≡ false → Contains ns n → Contains (all_but o ns) n
others-stay o n [] other h = h
others-stay o n (x ∷ ns) other h = by (next_equality.eq-value.it o x) refl (member_cases x n ns h) (others-stay o n ns other)
  where
    by : (b : Bool) → next_equality.eq-value.it o x ≡ b → (x ≡ n) ⊎ Contains ns n → (Contains ns n → Contains (all_but o ns) n) → Contains (if b then all_but o ns else x ∷ all_but o ns) n
    by true e (inl same) rest = absurd (true≢false (sym e ∙ ap (next_equality.eq-value.it o) same ∙ other))
    by true e (inr m) rest = rest m
    by false e (inl same) rest = subst (Contains (x ∷ all_but o ns)) same (head_member x (all_but o ns))
    by false e (inr m) rest = tail_member x n (all_but o ns) (rest m)

once-stays : (n : Next) (ns : List Next) → Contains ns n → Contains (once ns) n
once-stays n [] h = h
once-stays n (o ∷ ns) h = by (member_cases o n ns h) (once-stays n ns)
  where
    unless : (b : Bool) → next_equality.eq-value.it o n ≡ b → Contains (once ns) n → Contains (o ∷ all_but o (once ns)) n
    unless true e m = subst (Contains (o ∷ all_but o (once ns))) (equals-is o n e) (head_member o (all_but o (once ns)))
    unless false e m = tail_member o n (all_but o (once ns)) (others-stay o n (once ns) e m)

    by : (o ≡ n) ⊎ Contains ns n → (Contains ns n → Contains (once ns) n) → Contains (o ∷ all_but o (once ns)) n
    by (inl same) rest = subst (Contains (o ∷ all_but o (once ns))) same (head_member o (all_but o (once ns)))
    by (inr m) rest = unless (next_equality.eq-value.it o n) refl (rest m)

if-member : (b : Bool) (c : Course) → b ≡ true → Contains (next_if b c) (course_next c)
if-member true c e = head_member (course_next c) []
if-member false c e = absurd (true≢false (sym e))

both-true : (a b : Bool) → a ≡ true → b ≡ true → (a && b) ≡ true
both-true true b e f = f
both-true false b e f = absurd (true≢false (sym e))

module _ (m : Machine) (p : Point) (inst : GroundInst) (kind : JumpKind) (j a : Mode) where
  abbrev row : Bool → Bool → List Next
  row jumps annuls = next_if (possible j jumps && possible a annuls) (course m p inst.next kind jumps annuls)

  among-rows : (x y : Bool) (n : Next) → Contains (row x y) n → Contains (nexts_of m p inst kind j a) n
  among-rows false false n c = Contains-append_left ((row false false ++ row false true) ++ row true false) (row true true) n (Contains-append_left (row false false ++ row false true) (row true false) n (Contains-append_left (row false false) (row false true) n c))
  among-rows false true n c = Contains-append_left ((row false false ++ row false true) ++ row true false) (row true true) n (Contains-append_left (row false false ++ row false true) (row true false) n (Contains-append_right (row false false) (row false true) n c))
  among-rows true false n c = Contains-append_left ((row false false ++ row false true) ++ row true false) (row true true) n (Contains-append_right (row false false ++ row false true) (row true false) n c)
  among-rows true true n c = Contains-append_right ((row false false ++ row false true) ++ row true false) (row true true) n c

  way-member : (x y : Bool) → possible j x ≡ true → possible a y ≡ true → Contains (nexts_of m p inst kind j a) (course_next (course m p inst.next kind x y))
  way-member x y ej ea = among-rows x y (course_next (course m p inst.next kind x y)) (if-member (possible j x && possible a y) (course m p inst.next kind x y) (both-true (possible j x) (possible a y) ej ea))

-- what passes a test of a table stands in it
pub in-table : (ts : List ℕ) (t : ℕ) → list_any (λ u. u == t) ts ≡ true → Contains ts t
in-table [] t e = absurd (true≢false (sym e))
in-table (u ∷ ts) t e = by (u == t) refl (in-table ts t)
  where
    by : (b : Bool) → (u == t) ≡ b → (list_any (λ u. u == t) ts ≡ true → Contains ts t) → Contains (u ∷ ts) t
    by true is rest = subst (Contains (u ∷ ts)) (eqb-true u t is) (head_member u ts)
    by false is rest = tail_member u t ts (rest (sym (ap (λ b. b || list_any (λ u. u == t) ts) is) ∙ e))

module _ (f : Flow) (roots : List ℕ) where
  abbrev code : Code
  code = program_of f

  abbrev m : Machine
  m = f.setting.machine

  abbrev Reached : Point → Type 0
  Reached p = IsReached code roots p

  module _ (p : Point) (inst : GroundInst) (kind : JumpKind) (stands : block_at f.setting p.pc ≡ Inst inst kind) where
    among-nexts : (x y : Bool) → halts inst.transfers ≡ false → possible (jump_mode inst.transfers) x ≡ true → possible (annul_mode inst.transfers) y ≡ true
        → Contains (nexts code p) (course_next (course m p inst.next kind x y))
    among-nexts x y going ej ea =
        let n = course_next (course m p inst.next kind x y) in
        let ns = nexts_of m p inst kind (jump_mode inst.transfers) (annul_mode inst.transfers) in
        subst (λ (k : Block). Contains (after m p k) n) (sym stands)
        (subst (λ (h : Bool). Contains (if h then [] else once ns) n) (sym going) (once-stays n ns (way-member m p inst kind (jump_mode inst.transfers) (annul_mode inst.transfers) x y ej ea)))

    -- what control comes to do behind the transfers of an instruction that is reached
    pub comes-behind : (s : State) (d : Doing) → Reached p → all_transferred m s.control.point.pc inst.transfers (fresh s.cells s.memory s.saved) ≡ Went d
        → Comes code roots (course_next (course m p inst.next kind (is_some d.jump) d.annul))
    comes-behind s d reached is = record {
      point = p;
      reached = reached;
      is = among-nexts (is_some d.jump) d.annul (not-halted m s.control.point.pc inst.transfers s.cells s.memory s.saved d is)
          (jump-possible m s.control.point.pc inst.transfers s.cells s.memory s.saved d is) (annul-possible m s.control.point.pc inst.transfers s.cells s.memory s.saved d is);
    }

  -- ---- where control goes on

  -- control is at a point that is reached, with calls that can be made
  pub record Stays (c : Control) : Type 0 where
    pub reached : Reached c.point
    pub calls : All (IsOpen code roots) c.calls

  abbrev pub StaysIn : Move → Type 0
  StaysIn (Ok c) = Stays c
  StaysIn (Err stop) = Unit {0}

  abbrev Open : List Member → Type 0
  Open members = All (IsOpen code roots) members

  -- a call that comes to be made comes back to points that are reached
  pub reached-back : (back : ℕ) → ComesBack code roots back → Reached (point back Seq)
  reached-back back h = (goes_on code roots).leads h.point (point back Seq) h.reached (comes_back h.calls)

  pub reached-past : (back s : ℕ) → ComesBack code roots back → second f.setting back ≡ Some s → Reached (point s Seq)
  reached-past back s h e = (goes_on code roots).leads h.point (point s Seq) h.reached (comes_past h.calls e)

  pub reached-on : (p : Point) → Comes code roots (Next.Goes p) → Reached p
  reached-on p h = (goes_on code roots).leads h.point p h.reached (goes h.is)

  pub reached-call : (t back : ℕ) → Comes code roots (Next.Calls t back) → Reached (point t Seq)
  reached-call t back h = (goes_on code roots).enters h.point t h.reached (record { back = back; calls = tail_member (arrival_next h.point.slot) (Next.Calls t back) (nexts code h.point) h.is })

  pub reached-jump : (a t : ℕ) → Comes code roots (Next.Table a) → Contains (f.table a) t → Reached (point t Seq)
  reached-jump a t h c = (goes_on code roots).leads h.point (point t Seq) h.reached (by_table h.is c)

  pub back-of-call : (t back : ℕ) → Comes code roots (Next.Calls t back) → ComesBack code roots back
  back-of-call t back h = record { point = h.point; reached = h.reached; calls = given h.is }

  pub back-of-any : (back : ℕ) → Comes code roots (Next.CallsAny back) → ComesBack code roots back
  back-of-any back h = record { point = h.point; reached = h.reached; calls = any h.is }

  pub reached-return : (back target : ℕ) → ComesBack code roots back → is_return_point f.setting back target ≡ true → Reached (point target Seq)
  reached-return back target h e = by (back == target) refl
    where
      second-by : (o : Option ℕ) → second f.setting back ≡ o → is_second o target ≡ true → Reached (point target Seq)
      second-by None is e = absurd (true≢false (sym e))
      second-by (Some s) is e = subst (λ t. Reached (point t Seq)) (eqb-true s target e) (reached-past back s h is)

      by : (b : Bool) → (back == target) ≡ b → Reached (point target Seq)
      by true is = subst (λ t. Reached (point t Seq)) (eqb-true back target is) (reached-back back h)
      by false is = second-by (second f.setting back) refl (sym (ap (λ b. b || is_second (second f.setting back) target) is) ∙ e)

  module _ (procedures : (p : ℕ) → IsTrue (f.is_procedure p) ↔ Procedure code roots p) where
    pub reached-procedure : (t : ℕ) → f.is_procedure t ≡ true → Reached (point t Seq)
    reached-procedure t e = record { entry = t; procedure = (procedures t).0 e; body = first }

    entered-stays : (t : ℕ) (member : Member) (c : Control) → Reached (point t Seq) → IsOpen code roots member → Open c.calls → StaysIn (entered t member c)
    entered-stays t member c reached made calls = by (length c.calls == most_calls) refl
      where
        by : (b : Bool) → (length c.calls == most_calls) ≡ b → StaysIn (entered t member c)
        by true e = rw e tt
        by false e = rw e (record { reached = reached; calls = All-cons (IsOpen code roots) member c.calls made calls })

    any-stays : (member : Member) (c : Control) → IsOpen code roots member → Open c.calls → StaysIn (entered_any f member c)
    any-stays member c made calls = by (f.is_procedure c.target) refl
      where
        by : (b : Bool) → f.is_procedure c.target ≡ b → StaysIn (entered_any f member c)
        by true e = rw e (entered-stays c.target member c (reached-procedure c.target e) made calls)
        by false e = rw e tt

    jumped-stays : (a : ℕ) (ts : List ℕ) (c : Control) → f.table a ≡ ts → Comes code roots (Next.Table a) → Open c.calls → StaysIn (jumped f ts c)
    jumped-stays a [] c same comes calls = any-stays Tail c tt calls
    jumped-stays a (t ∷ ts) c same comes calls = by (list_any (λ u. u == c.target) (t ∷ ts)) refl
      where
        by : (b : Bool) → list_any (λ u. u == c.target) (t ∷ ts) ≡ b → StaysIn (if b then Ok (record c { point = point c.target Seq }) else Err (Stop.Undiscovered c.target))
        by true e = record { reached = reached-jump a c.target comes (subst (λ xs. Contains xs c.target) (sym same) (in-table (t ∷ ts) c.target e)); calls = calls }
        by false e = tt

    returned-stays : (calls : List Member) (c : Control) → Open calls → StaysIn (returned f.setting calls c)
    returned-stays [] c made = tt
    returned-stays (Tail ∷ calls) c made = returned-stays calls c (All-tail (IsOpen code roots) Tail calls made)
    returned-stays (Call back ∷ calls) c made = by (is_return_point f.setting back c.target) refl
      where
        by : (b : Bool) → is_return_point f.setting back c.target ≡ b → StaysIn (returned f.setting (Call back ∷ calls) c)
        by true e = rw e (record { reached = reached-return back c.target (All-head (IsOpen code roots) (Call back) calls made) e; calls = All-tail (IsOpen code roots) (Call back) calls made })
        by false e = rw e tt

    arrived-stays : (slot : Slot) (c : Control) → Comes code roots (arrival_next slot) → Open c.calls → StaysIn (arrived f slot c)
    arrived-stays Seq c comes calls = tt
    arrived-stays (To t) c comes calls = record { reached = reached-on (point t Seq) comes; calls = calls }
    arrived-stays (Dyn a) c comes calls = jumped-stays a (f.table a) c refl comes calls
    arrived-stays (CallTo t back) c comes calls = entered-stays t (Call back) c (reached-call t back comes) (back-of-call t back comes) calls
    arrived-stays (CallDyn back) c comes calls = any-stays (Call back) c (back-of-any back comes) calls
    arrived-stays Ret c comes calls = returned-stays c.calls c calls

    followed-stays : (way : Course) (c : Control) → Comes code roots (course_next way) → Open c.calls → StaysIn (followed f way c)
    followed-stays (On p) c comes calls = record { reached = reached-on p comes; calls = calls }
    followed-stays (Arrives slot) c comes calls = arrived-stays slot c comes calls
    followed-stays Couples c comes calls = tt

    -- ---- where a step goes on

    abbrev pub StaysAt : MNext → Type 0
    StaysAt (Goes s) = Stays s.control
    StaysAt (Ends out stop) = Unit {0}

    moved-stays : (move : Move) (s : State) → StaysIn move → StaysAt (moved move s)
    moved-stays (Ok c) s h = h
    moved-stays (Err stop) s h = tt

    kept-calls : (jump : Option ℕ) (c : Control) → Open c.calls → Open (kept jump c).calls
    kept-calls None c h = h
    kept-calls (Some t) c h = h

    controlled-stays : (did : Did) (s : State) → Comes code roots (course_next (course m s.control.point did.inst.next did.kind (is_some did.jump) did.annul)) → Open s.control.calls → StaysAt (controlled f did s)
    controlled-stays did s comes calls =
        moved-stays (control_behind f did s.control) s
        (followed-stays (course m s.control.point did.inst.next did.kind (is_some did.jump) did.annul) (kept did.jump s.control) comes (kept-calls did.jump s.control calls))

    unless-stays : (reply : Reply) (next : MNext) (s : State) → StaysAt next → StaysAt (unless_exit reply next s)
    unless-stays (Reply.Exit x) next s h = tt
    unless-stays (Reply.Value k) next s h = h
    unless-stays (Reply.Error e) next s h = h

    finished-stays : (did : Did) (due : Option ServiceShape) (s : State) → Comes code roots (course_next (course m s.control.point did.inst.next did.kind (is_some did.jump) did.annul)) → Open s.control.calls → StaysAt (finished f did due s)
    finished-stays did None s comes calls = controlled-stays did s comes calls
    finished-stays did (Some shape) s comes calls =
        let done = asked f.setting.conv shape s.cells (world_of s) in
        let t = after_service f.setting shape done s in
        unless-stays done.reply (controlled f did t) t (controlled-stays did t comes calls)

    module _ (s : State) (stays : Stays s.control) where
      concluded-stays : (inst : GroundInst) (kind : JumpKind) (r : Ran) → block_at f.setting s.control.point.pc ≡ Inst inst kind
          → all_transferred m s.control.point.pc inst.transfers (fresh s.cells s.memory s.saved) ≡ r → StaysAt (concluded f inst kind r s)
      concluded-stays inst kind (Halted stop d) stands is = tt
      concluded-stays inst kind (Went d) stands is =
          finished-stays (record { inst = inst; kind = kind; jump = d.jump; annul = d.annul }) (service_due d.service f.setting.conv.service) (after_transfers s d)
          (comes-behind s.control.point inst kind stands s d stays.reached is) stays.calls

      stepped-stays : (block : Block) → block_at f.setting s.control.point.pc ≡ block → StaysAt (stepped f block s)
      stepped-stays Block.Outside stands = tt
      stepped-stays Block.Illegal stands = tt
      stepped-stays (Block.Inst inst kind) stands = concluded-stays inst kind (all_transferred m s.control.point.pc inst.transfers (fresh s.cells s.memory s.saved)) stands refl

      -- a step goes on at a point that is reached, with calls that can be made
      pub step-stays : StaysAt (step f s)
      step-stays = stepped-stays (block_at f.setting s.control.point.pc) refl
