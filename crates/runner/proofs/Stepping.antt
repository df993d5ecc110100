-- What the definition of a step says at each branch of the code.
use Rattle.std.proofs.Common.{◌≡◌, ℕ, Bool, true, false, List, [], ◌++◌, append-nil, Option, Some, None, refl, sym, ap, ◌∙◌, subst}
use Rattle.std.specs.Prelude.{◌&&◌, ◌<◌, ◌^◌, is_some, slice_get}
use Rattle.std.specs.List.{All}
use Rattle.std.proofs.lemmas.List.Elements.{All-contains}
use Rattle.lockstep.specs.Runs.{Goes, Ends}
use Rattle.page_pool.specs.Frames.{Frames}
use Rattle.paged_space.specs.PageTable.{contents_of}
use Rattle.rtl_core.specs.declared.conv.Conv.{Conv}
use Rattle.rtl_core.specs.declared.conv.ServiceShape.{ServiceShape}
use Rattle.rtl_core.specs.declared.inst.GroundInst.{GroundInst}
use Rattle.rtl_core.specs.declared.machine.Machine.{Machine}
use Rattle.rtl_core.specs.declared.point.Point.{Point}
use Rattle.rtl_core.specs.declared.stop.Stop.{Stop}
use Rattle.rtl_core.specs.Contents.{Contents}
use Rattle.rtl_core.specs.Services.{Served, asked, answered}
use Rattle.rtl_core.specs.Transfers.{Doing, Went, Halted, all_transferred, fresh}
use Rattle.rtl_meaning.specs.declared.effect.Effect.{Effect}
use Rattle.rtl_meaning.specs.Effects.{doing}
use Rattle.points.specs.declared.block.Block.{Block}
use Rattle.points.specs.declared.block.Block.TheVariants.{Inst}
use Rattle.points.specs.declared.block.JumpKind.{JumpKind}
use Rattle.points.specs.declared.graph.Node.{Node}
use Rattle.points.specs.Control.{Control, Flow, Move, followed, kept}
use Rattle.points.specs.Courses.{course, course_next}
use Rattle.points.specs.Graphs.{points_of}
use Rattle.points.specs.Kinds.{block_at}
use Rattle.points.specs.Running.{State, MNext, Did, step, stepped, performed, concluded, finished, service_due, controlled, control_behind, moved, with_answer, after_service, after_transfers, world_of}
use Rattle.sysemu.specs.declared.cell_service.Served.{Served as ServedEnd}
use Rattle.sysemu.specs.declared.cell_service.Served.TheVariants as End
use Rattle.sysemu.specs.Streams.{Flow as Streaming}
use Rattle.graph_control.specs.declared.position.Position.{Position}
use Rattle.runner.specs.declared.run_state.RunState.{RunState}
use Rattle.graph_control.specs.declared.lookup.Lookup.{Lookup}
use Rattle.graph_control.specs.declared.ways.Way.{Way}
use Rattle.graph_control.specs.declared.ways.Ways.{Ways}
use Rattle.graph_control.specs.Programs.{program_of, Comes, IsAt, IsOpen, Steers, IsSteered}
use Rattle.graph_control.specs.Charts.{Chart, control_of, led}
use Rattle.runner.specs.Shown.{state_of, moment}
use Rattle.runner.specs.Doing.{HasNode, Turns, did_of, IsServed}
use Rattle.graph_control.specs.Ways.{IsLookup, IsWay, IsCoursePlace, AreWaysAt, AreWaysOf, way_of}
use Rattle.graph_control.proofs.Looking.{member_at, mapped_from, none_there}
use Rattle.graph_control.proofs.Reaching.{comes-behind, step-stays, Stays, StaysAt}
use Rattle.graph_control.proofs.Zipped.{beside}
use Rattle.runner.proofs.Serving.{answer-exits, answer-goes, due-some, due-none}

abbrev ended : List ℕ → Stop → MNext
ended out stop = Ends out stop

-- a stop with nothing more written
pub stop-here : (stop : Stop) (s : RunState) (frames : Frames) (before more : List ℕ) → more ≡ [] → moment (Some stop) (state_of (before ++ more) frames s) ≡ Ends before stop
stop-here stop s frames before more e = ap (λ o. ended o stop) (ap (λ m. before ++ m) e ∙ append-nil before)

-- ---- what stands at the point

module _ (c : Chart) (f : Flow) (p : Position) (at : IsAt c f p) where
  pub point_here : (n : Node) → slice_get c.graph.nodes p.place ≡ Some n → n.point ≡ p.point
  point_here n e = mapped_from (λ (x : Node). x.point) c.graph.nodes p.place n p.point e at.place

  pub block_here : (n : Node) → slice_get c.graph.nodes p.place ≡ Some n → block_at f.setting p.point.pc ≡ n.block
  block_here n e =
      ap (λ (q : Point). block_at f.setting q.pc) (sym (point_here n e))
      ∙ sym (All-contains (λ (x : Node). x.block ≡ (program_of f).block_at x.point.pc) c.graph.nodes n at.flow.graph.blocks (member_at c.graph.nodes p.place n e))

  pub node_here : slice_get c.graph.nodes p.place ≡ None → ⊥
  node_here e = none_there (λ (x : Node). x.point) c.graph.nodes p.place p.point at.place e

  pub has_node : (n : Node) (inst : GroundInst) (kind : JumpKind) → slice_get c.graph.nodes p.place ≡ Some n → n.block ≡ Inst inst kind → HasNode c p inst kind
  has_node n inst kind e b = record { node = n; is = e; point = point_here n e; block = b }

  pub stands_here : (inst : GroundInst) (kind : JumpKind) → HasNode c p inst kind → block_at f.setting p.point.pc ≡ Inst inst kind
  stands_here inst kind h = block_here h.node h.is ∙ h.block

-- a step from what stands there
pub step-of : (f : Flow) (s : State) (block : Block) → block_at f.setting s.control.point.pc ≡ block → stepped f block s ≡ step f s
step-of f s block e = ap (λ b. stepped f b s) (sym e)

module _ (c : Chart) (f : Flow) (s : RunState) (frames : Frames) (at : IsAt c f s.position) (n : Node) (is : slice_get c.graph.nodes s.position.place ≡ Some n) (before : List ℕ) where
  pub outside-node : s.streams.pending ≡ [] → n.block ≡ Block.Outside → moment (Some (Stop.Undiscovered n.point.pc)) (state_of (before ++ s.streams.pending) frames s) ≡ step f (state_of before frames s)
  outside-node none e =
      stop-here (Stop.Undiscovered n.point.pc) s frames before s.streams.pending none
      ∙ ap (λ (q : Point). ended before (Stop.Undiscovered q.pc)) (point_here c f s.position at n is)
      ∙ step-of f (state_of before frames s) Block.Outside (block_here c f s.position at n is ∙ e)

  pub illegal-node : s.streams.pending ≡ [] → n.block ≡ Block.Illegal → moment (Some (Stop.Illegal n.point.pc)) (state_of (before ++ s.streams.pending) frames s) ≡ step f (state_of before frames s)
  illegal-node none e =
      stop-here (Stop.Illegal n.point.pc) s frames before s.streams.pending none
      ∙ ap (λ (q : Point). ended before (Stop.Illegal q.pc)) (point_here c f s.position at n is)
      ∙ step-of f (state_of before frames s) Block.Illegal (block_here c f s.position at n is ∙ e)

  pub inst-node : (inst : GroundInst) (kind : JumpKind) → n.block ≡ Inst inst kind → performed f inst kind (state_of before frames s) ≡ step f (state_of before frames s)
  inst-node inst kind e = step-of f (state_of before frames s) (Inst inst kind) (block_here c f s.position at n is ∙ e)

-- ---- behind the transfers

module _ (c : Chart) (f : Flow) (inst : GroundInst) (kind : JumpKind) (same : f.setting.machine ≡ c.machine) where
  pub performed-halts : (s : State) (stop : Stop) (d : Doing) → all_transferred c.machine s.control.point.pc inst.transfers (fresh s.cells s.memory s.saved) ≡ Halted stop d → Ends s.output stop ≡ performed f inst kind s
  performed-halts s stop d e =
      let is = ap (λ (m : Machine). all_transferred m s.control.point.pc inst.transfers (fresh s.cells s.memory s.saved)) same ∙ e in
      sym (ap (λ r. concluded f inst kind r s) is)

  pub performed-went : (s : State) (d : Doing) → all_transferred c.machine s.control.point.pc inst.transfers (fresh s.cells s.memory s.saved) ≡ Went d
      → finished f (record { inst = inst; kind = kind; jump = d.jump; annul = d.annul }) (service_due d.service f.setting.conv.service) (after_transfers s d) ≡ performed f inst kind s
  performed-went s d e =
      let is = ap (λ (m : Machine). all_transferred m s.control.point.pc inst.transfers (fresh s.cells s.memory s.saved)) same ∙ e in
      sym (ap (λ r. concluded f inst kind r s) is)

-- the transfers left all else as it was
abbrev pub KeptBut : RunState → RunState → Type 0
KeptBut old new = new ≡ record old { cells = new.cells; windows = new.windows; space = new.space }

pub state-behind : (before : List ℕ) (frames now : Frames) (old new : RunState) (effect : Effect) → KeptBut old new
    → state_of before now new ≡ after_transfers (state_of before frames old) (doing new.cells.values (contents_of new.space now) new.windows effect)
state-behind before frames now old new effect e = ap (state_of before now) e

pub position-kept : (old new : RunState) → KeptBut old new → new.position ≡ old.position
position-kept old new e = ap (λ s. s.position) e

pub pending-kept : (old new : RunState) → KeptBut old new → old.streams.pending ≡ [] → new.streams.pending ≡ []
pending-kept old new e none = ap (λ s. s.streams.pending) e ∙ none

pub heap-kept : (old new : RunState) → KeptBut old new → old.streams.heap_end < 2 ^ 32 → new.streams.heap_end < 2 ^ 32
heap-kept old new e fits = let P : ℕ → Type 0 = λ n. n < 2 ^ 32 in subst P (sym (ap (λ s. s.streams.heap_end) e)) fits

-- control comes to go on behind the transfers
pub turns : (c : Chart) (f : Flow) (inst : GroundInst) (kind : JumpKind) (old new : RunState) (frames now : Frames) (effect : Effect) (at : IsAt c f old.position) → HasNode c old.position inst kind → KeptBut old new
    → all_transferred c.machine old.position.point.pc inst.transfers (fresh old.cells.values (contents_of old.space frames) old.windows) ≡ Went (doing new.cells.values (contents_of new.space now) new.windows effect)
    → Turns c f at.roots new.position inst kind effect
turns c f inst kind old new frames now effect at node kept e =
    let p = old.position in
    let s = state_of [] frames old in
    let d = doing new.cells.values (contents_of new.space now) new.windows effect in
    let is = ap (λ (m : Machine). all_transferred m p.point.pc inst.transfers (fresh s.cells s.memory s.saved)) at.flow.machine ∙ e in
    let comes = comes-behind f at.roots p.point inst kind (stands_here c f p at inst kind node) s d at.reached is in
    let there : Turns c f at.roots p inst kind effect = record {
      node = node;
      steers = record {
        flow = at.flow;
        comes = subst (λ (m : Machine). Comes (program_of f) at.roots (course_next (course m p.point inst.next kind (is_some effect.jump) effect.annul))) at.flow.machine comes;
        calls = at.calls;
      };
    } in
    subst (λ (q : Position). Turns c f at.roots q inst kind effect) (sym (position-kept old new kept)) there

-- ---- where control goes

pub turned : (r : Option Stop) (p : Position) (move : Move) (before : List ℕ) (frames : Frames) (s : RunState) → led r (control_of p) ≡ move
    → moment r (state_of before frames (record s { position = p })) ≡ moved move (state_of before frames s)
turned None p move before frames s e = ap (λ m. moved m (state_of before frames s)) e
turned (Some stop) p move before frames s e = ap (λ m. moved m (state_of before frames s)) e

-- the same with nothing more written
pub turned-here : (r : Option Stop) (p : Position) (move : Move) (before more : List ℕ) (frames : Frames) (s : RunState) → more ≡ [] → led r (control_of p) ≡ move
    → moment r (state_of (before ++ more) frames (record s { position = p })) ≡ moved move (state_of before frames s)
turned-here r p move before more frames s none e =
    ap (λ o. moment r (state_of o frames (record s { position = p }))) (ap (λ m. before ++ m) none ∙ append-nil before) ∙ turned r p move before frames s e

-- control in the code goes the way of its node
pub turned-by : (c : Chart) (f : Flow) (roots : List ℕ) (p mid new : Position) (inst : GroundInst) (kind : JumpKind) (effect : Effect) (t : Turns c f roots p inst kind effect) (w : Way) (r : Option Stop)
    → IsWay c.graph (course c.machine p.point inst.next kind (is_some effect.jump) effect.annul) w → control_of mid ≡ kept effect.jump (control_of p)
    → (Steers c f roots mid (course_next w.course) → IsCoursePlace c.graph w.course w.place → IsSteered c (followed f w.course (control_of mid)) r new)
    → IsSteered c (control_behind f (did_of inst kind effect) (control_of p)) r new
turned-by c f roots p mid new inst kind effect t w r way moved go =
    let co = course c.machine p.point inst.next kind (is_some effect.jump) effect.annul in
    let same : mid.calls ≡ p.calls = ap (λ k. k.calls) moved ∙ calls-kept effect.jump (control_of p) in
    let s : Steers c f roots mid (course_next co) = record {
      flow = t.steers.flow;
      comes = t.steers.comes;
      calls = subst (All (IsOpen (program_of f) roots)) (sym same) t.steers.calls;
    } in
    let done = go (subst (λ x. Steers c f roots mid (course_next x)) (sym way.course) s) (subst (λ x. IsCoursePlace c.graph x w.place) (sym way.course) way.place) in
    let to : followed f w.course (control_of mid) ≡ control_behind f (did_of inst kind effect) (control_of p) =
    ap (λ x. followed f x (control_of mid)) way.course ∙ ap (followed f co) moved
    ∙ ap (λ (m : Machine). followed f (course m p.point inst.next kind (is_some effect.jump) effect.annul) (kept effect.jump (control_of p))) (sym t.steers.flow.machine) in
    subst (λ (m : Move). IsSteered c m r new) to done
  where
    calls-kept : (jump : Option ℕ) (k : Control) → (kept jump k).calls ≡ k.calls
    calls-kept None k = refl
    calls-kept (Some target) k = refl

-- the ways of the node where control is
pub ways-here : (c : Chart) (l : Lookup) (at : IsLookup c l) (p : Position) (inst : GroundInst) (kind : JumpKind) → HasNode c p inst kind
    → (w : Ways) × (slice_get l.ways.items p.place ≡ Some w) × ((x y : Bool) → IsWay c.graph (course c.machine p.point inst.next kind x y) (way_of w x y))
ways-here c l at p inst kind h =
    let b = beside (AreWaysAt c.machine c.graph) c.graph.nodes l.ways.items p.place h.node at.ways h.is in
    let here = subst (λ (k : Block). AreWaysOf c.machine c.graph h.node.point k b.0) h.block b.2 in
    (b.0, b.1, subst (λ (q : Point). AreWaysOf c.machine c.graph q (Inst inst kind) b.0) h.point here)

-- no service is due
pub finished-plain : (f : Flow) (did : Did) (due : Bool) (conv : Conv) (s : State) → f.setting.conv ≡ conv → (due && is_some conv.service) ≡ false
    → controlled f did s ≡ finished f did (service_due due f.setting.conv.service) s
finished-plain f did due conv s same none =
    let e : service_due due f.setting.conv.service ≡ None = ap (λ (k : Conv). service_due due k.service) same ∙ due-none due conv.service none in
    sym (ap (λ o. finished f did o s) e)

-- one is due
pub finished-serves : (f : Flow) (did : Did) (due : Bool) (conv : Conv) (shape : ServiceShape) (s : State) → f.setting.conv ≡ conv → (due && is_some conv.service) ≡ true → conv.service ≡ Some shape
    → with_answer f did shape (asked conv shape s.cells (world_of s)) s ≡ finished f did (service_due due f.setting.conv.service) s
finished-serves f did due conv shape s same h is =
    let e : service_due due f.setting.conv.service ≡ Some shape = ap (λ (k : Conv). service_due due k.service) same ∙ due-some due conv.service shape h is in
    ap (λ (k : Conv). with_answer f did shape (asked k shape s.cells (world_of s)) s) (sym same) ∙ sym (ap (λ o. finished f did o s) e)

-- ---- behind a service

-- the state with these parts, with what is pending written
abbrev parts : List ℕ → List ℕ → Contents → List (List ℕ) → Control → Streaming → State
parts before cells memory saved control flow = record {
  cells = cells;
  memory = memory;
  saved = saved;
  control = control;
  input = flow.input;
  output = before ++ flow.pending;
  heap_end = flow.heap_end;
}

module _ (c : Chart) (f : Flow) (did : Did) (shape : ServiceShape) (before : List ℕ) (frames now : Frames) (old new : RunState) (end : ServedEnd) (same : f.setting.machine ≡ c.machine) where
  abbrev s : State
  s = state_of before frames old

  abbrev done : Served
  done = asked c.conv shape old.cells.values (world_of s)

  module _ (h : IsServed c.machine shape done end now old new) where
    -- the state that the service left
    pub state-served : state_of (before ++ new.streams.pending) now new ≡ after_service f.setting shape done s
    state-served =
        let cells = answered f.setting.machine.zero shape done.reply old.cells.values in
        let is : new.cells.values ≡ cells = h.cells ∙ ap (λ (m : Machine). answered m.zero shape done.reply old.cells.values) (sym same) in
        let control = control_of new.position in
        ap (λ k. parts before k (contents_of new.space now) new.windows control new.streams) is
        ∙ ap (λ k. parts before cells k new.windows control new.streams) h.memory
        ∙ ap (λ k. parts before cells done.world.memory k control new.streams) h.windows
        ∙ ap (λ p. parts before cells done.world.memory old.windows (control_of p) new.streams) h.position
        ∙ ap (λ k. parts before cells done.world.memory old.windows (control_of old.position) k) h.streams

    -- it ended the run
    pub served-exits : (k : ℕ) → end ≡ End.Exit k → moment (Some (Stop.Exit k)) (state_of (before ++ new.streams.pending) now new) ≡ with_answer f did shape done s
    served-exits k e =
        answer-exits f did shape done s (state_of (before ++ new.streams.pending) now new) k (sym e ∙ h.end_is) (ap (λ t. t.output) state-served)

    -- the run goes on
    pub served-goes : (r : Option Stop) (p : Position) → end ≡ End.Go → led r (control_of p) ≡ control_behind f did (control_of new.position)
        → moment r (state_of (before ++ new.streams.pending) now (record new { position = p })) ≡ with_answer f did shape done s
    served-goes r p e moving =
        turned r p (control_behind f did (control_of new.position)) (before ++ new.streams.pending) now new moving
        ∙ ap (controlled f did) state-served
        ∙ answer-goes f did shape done s (sym e ∙ h.end_is)

-- ---- where a step of a guest goes on

pub stays-at : (c : Chart) (f : Flow) (old new : RunState) (frames now : Frames) (before after : List ℕ) (r : Option Stop) (at : IsAt c f old.position)
    → moment r (state_of after now new) ≡ step f (state_of before frames old) → (r ≡ None → slice_get (points_of c.graph.nodes) new.position.place ≡ Some new.position.point) → r ≡ None → IsAt c f new.position
stays-at c f old new frames now before after r at e placed none =
    let s = state_of before frames old in
    let here : Stays f at.roots s.control = record { reached = at.reached; calls = at.calls } in
    let led : Goes (state_of after now new) ≡ step f s = ap (λ o. moment o (state_of after now new)) (sym none) ∙ e in
    let there : Stays f at.roots (control_of new.position) = subst (StaysAt f at.roots at.flow.procedures) (sym led) (step-stays f at.roots at.flow.procedures s here) in
    record { roots = at.roots; flow = at.flow; place = placed none; reached = there.reached; calls = there.calls }
