-- The program of a graph has the function of each procedure, and so it is the same as the machine.
use Rattle.std.proofs.Common.{◌≡◌, ℕ, ◌+◌, ◌<◌, ◌≤◌, List, ◌++◌, append_assoc, length, get_or, Some, refl, sym, ap, ◌∙◌, subst, arith}
use Rattle.std.specs.Prelude.{slice_get}
use Rattle.std.specs.List.{Contains}
use Rattle.std.proofs.lemmas.List.{get_or-map, length-map}
use Rattle.std.proofs.lemmas.List.Elements.{All-contains}
use Rattle.rtl_core.specs.declared.inst.GroundInst.{GroundInst}
use Rattle.rtl_core.specs.declared.point.Point.{Point}
use Rattle.rtl_core.specs.declared.point.Slot.TheVariants.{Seq}
use Rattle.rtl_core.specs.FirstMemory.{Part}
use Rattle.points.specs.declared.block.Block.TheVariants.{Inst}
use Rattle.points.specs.declared.block.JumpKind.{JumpKind}
use Rattle.points.specs.declared.graph.Graph.{Graph}
use Rattle.points.specs.declared.graph.Node.{Node}
use Rattle.points.specs.declared.graph.Summary.{Summary}
use Rattle.points.specs.Bodies.{Code, code_of, Body, Procedure}
use Rattle.points.specs.Courses.{point}
use Rattle.points.specs.Graphs.{IsPlaceOf, IsProcedureOf, points_of}
use Rattle.points.specs.Kinds.{block_at}
use Rattle.points.specs.Machine.{Setting}
use Rattle.points.proofs.CodeControl.{no_jump_waits_for_itself}
use Rattle.c_lang.specs.declared.tree.CBlock.{CBlock}
use Rattle.c_lang.specs.declared.tree.Program.{Program}
use Rattle.c_lang.specs.State.{At}
use Rattle.c_lang.specs.Step.{block_of, first_place}
use Rattle.c_lower.specs.Accounts.{lowered_need}
use Rattle.c_control.specs.Blocks.{block_c, code_at, further_c}
use Rattle.c_control.specs.Plans.{Plan}
use Rattle.c_control.specs.Programs.{HasFunction}
use Rattle.c_control.proofs.PlannedSame.{planned-is-same}
use Rattle.params.proofs.Members.{from-mapped, to-mapped}
use Rattle.c_program.specs.Functions.{block_need, blocks_of, most_need, no_node, nodes_at, part_of}
use Rattle.c_program.specs.declared.functions.Part.TheVariants.{Entry, Others, Further}
use Rattle.c_program.specs.Planning.{IsDescribed, GraphIsPlanned, GraphIsSame, graph_plan, graph_program}
use Rattle.c_program.proofs.Needs.{least-most}
use Rattle.c_program.proofs.Planned.{planned}
use Rattle.c_program.proofs.ProcedureFunctions.{IsAmong, block-is, first-is, function-among, further-is, need-among}

module _ (setting : Setting) (table : ℕ → List ℕ) (roots : List ℕ) (g : Graph) (sums : List Summary) (others : List ℕ) (parts : List Part) (entry : ℕ) (d : IsDescribed setting table roots g) (p : ℕ)
    (procedure : Procedure (code_of setting table) roots p) where
  abbrev plan : Plan
  plan = graph_plan setting table g.procs sums others

  abbrev program : Program
  program = graph_program setting table g sums others parts entry

  abbrev code : Code
  code = code_of setting table

  abbrev among : IsAmong plan g.nodes 0 g.procs p
  among = function-among plan g.nodes 0 g.procs p (d.graph.procs.whole p procedure)

  abbrev body : List Node
  body = nodes_at g.nodes among.proc.body

  is-procedure : IsProcedureOf code (points_of g.nodes) among.proc
  is-procedure = All-contains (IsProcedureOf code (points_of g.nodes)) g.procs among.proc d.graph.bodies among.in_procs

  -- a node of the body
  record IsOfBody (n : Node) : Type 0 where
    inside : Body code p n.point
    block : n.block ≡ block_at setting n.point.pc

  of-body : (n : Node) → Contains body n → IsOfBody n
  of-body n c =
      let found = from-mapped (λ k. get_or g.nodes k no_node) among.proc.body n c in
      let k = found.0 in
      let place = All-contains (IsPlaceOf code among.proc.entry (points_of g.nodes)) among.proc.body k is-procedure.exactly.sound found.1 in
      let size = length-map g.nodes (λ (n : Node). n.point) in
      let within : k < length g.nodes = omega (arith, place.within, size) in
      let at : (get_or g.nodes k no_node).point ≡ place.point = sym (get_or-map (λ (n : Node). n.point) g.nodes k no_node place.point within) ∙ place.is in
      let inside : Body code p (get_or g.nodes k no_node).point = subst (λ e. Body code e (get_or g.nodes k no_node).point) among.entry (subst (Body code among.proc.entry) (sym at) place.body) in
      subst IsOfBody found.2 (record { inside = inside; block = d.graph.blocks k no_node within })

  -- the node of a point of the body
  record HasNodeOf (b : Point) : Type 0 where
    node : Node
    among_body : Contains body node
    point_is : node.point ≡ b

  node-of : (b : Point) → Body code p b → HasNodeOf b
  node-of b inside =
      let c = d.graph.nodes.whole b (record { entry = p; procedure = procedure; body = inside }) in
      let k = c.0 in
      let size = length-map g.nodes (λ (n : Node). n.point) in
      let within : k < length g.nodes = omega (arith, c.1, size) in
      let place = is-procedure.exactly.whole k (record { point = b; within = c.1; is = c.2; body = subst (λ e. Body code e b) (sym among.entry) inside }) in
      record {
        node = get_or g.nodes k no_node;
        among_body = to-mapped (λ k. get_or g.nodes k no_node) among.proc.body k place;
        point_is = sym (get_or-map (λ (n : Node). n.point) g.nodes k no_node b within) ∙ c.2;
      }

  needs : (b : Point) (inst : GroundInst) (kind : JumpKind) → Body code p b → block_at setting b.pc ≡ Inst inst kind → lowered_need inst.transfers ≤ most_need body
  needs b inst kind inside e =
      let n = node-of b inside in
      let is : n.node.block ≡ Inst inst kind = (of-body n.node n.among_body).block ∙ ap (λ (b : Point). block_at setting b.pc) n.point_is ∙ e in
      subst (λ k. block_need k ≤ most_need body) is (need-among body n.node n.among_body)

  first : first_place (blocks_of plan p body) ≡ At (code_at plan p (point p Seq)).stmts (code_at plan p (point p Seq)).end
  first =
      let n = node-of (point p Seq) Body.first in
      let E = part_of plan p Entry body in
      let O = part_of plan p Others body in
      let F = part_of plan p Further body in
      ap first_place (append_assoc E O F) ∙ first-is plan p body (O ++ F) n.node n.among_body n.point_is

  blocks : (b : Point) → Body code p b → block_of (blocks_of plan p body) b ≡ Some (block_c plan p b)
  blocks b inside = let n = node-of b inside in subst (λ b. block_of (blocks_of plan p body) b ≡ Some (block_c plan p b)) n.point_is (block-is plan p body n.node n.among_body)

  further-blocks : (b : Point) (blk : CBlock) → Body code p b → further_c plan p b ≡ Some blk → block_of (blocks_of plan p body) blk.label ≡ Some blk
  further-blocks b blk inside e =
      let n = node-of b inside in
      further-is plan p body n.node blk n.among_body (ap (further_c plan p) n.point_is ∙ e) (λ m c. no_jump_waits_for_itself setting table p m.point d.sound.machine.encodings (of-body m c).inside)

  pub has-function : HasFunction plan program p
  has-function =
      let index-is : 0 + among.place ≡ among.place = omega arith in
      record {
        found = record { index = 0 + among.place; function = Rattle.c_program.specs.Functions.function_of plan g.nodes p among.proc.body };
        is = among.is;
        there = ap (slice_get program.functions) index-is ∙ among.there;
        params = refl;
        room = record { flags = least-most body; needs = needs };
        first = first;
        blocks = blocks;
        further = further-blocks;
      }

pub graph-is-planned : GraphIsPlanned
graph-is-planned setting table roots g sums others parts entry d are moving at_root =
    planned setting table roots g sums others parts entry d are moving at_root (λ p procedure. has-function setting table roots g sums others parts entry d p procedure)

pub graph-is-same : GraphIsSame
graph-is-same setting table roots g sums others parts entry d are moving at_root =
    planned-is-same (graph_plan setting table g.procs sums others) roots parts entry (graph_program setting table g sums others parts entry) (graph-is-planned setting table roots g sums others parts entry d are moving at_root)
