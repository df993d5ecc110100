-- The program of a graph has a function for each procedure, with its blocks, and no other.
use Rattle.std.proofs.Common.{◌≡◌, ◌≢◌, ℕ, Bool, true, false, List, [], ◌∷◌, ◌++◌, map, get_or, slice_get, append_assoc, Option, Some, None, ◌⊎◌, inl, inr, refl, sym, ap, ◌∙◌, subst, arith, rules}
use Rattle.std.specs.Prelude.{All, IfSome, if◌then◌else◌, ◌==◌}
use Rattle.std.specs.List.{Contains}
use Rattle.std.specs.List.Sorted.{IsStrictlySortedBy}
use Rattle.std.specs.Ordering.{nat_cmp}
use Rattle.std.proofs.lemmas.List.Elements.{All-contains, All-head, All-map, All-tail}
use Rattle.std.proofs.lemmas.List.{get_or-map, get_or_default, length-map}
use Rattle.rtl_core.specs.declared.point.Point.{Point}
use Rattle.rtl_core.specs.declared.point.Slot.TheVariants.{Seq, Dyn}
use Rattle.rtl_core.specs.FirstMemory.{Part}
use Rattle.points.specs.declared.graph.Graph.{Graph}
use Rattle.points.specs.declared.graph.Node.{Node}
use Rattle.points.specs.declared.graph.Proc.{Proc}
use Rattle.points.specs.declared.graph.Summary.{Summary}
use Rattle.points.specs.Bodies.{Code, code_of, Body, Procedure}
use Rattle.points.specs.Courses.{point}
use Rattle.points.specs.Exactly.{IsExactly}
use Rattle.points.specs.Graphs.{IsProcedureOf, points_of}
use Rattle.points.specs.Machine.{Setting}
use Rattle.points.proofs.CodeControl.{no_jump_waits_for_itself}
use Rattle.c_lang.specs.declared.tree.CBlock.{CBlock}
use Rattle.c_lang.specs.declared.tree.Function.{Function}
use Rattle.c_lang.specs.declared.tree.Program.{Program}
use Rattle.c_control.specs.Blocks.{block_c, further_c}
use Rattle.c_control.specs.Plans.{Plan, further_label}
use Rattle.c_control.specs.Programs.{HasFunction}
use Rattle.c_control.proofs.Frames.{Emission}
use Rattle.params.specs.ByEntry.{AreMoving, refs_of}
use Rattle.c_program.specs.Functions.{function_of, functions_of, is_entry, no_node, nodes_at}
use Rattle.c_program.specs.Planning.{AreSummariesOf, IsDescribed, entries, graph_plan, graph_program}
use Rattle.c_program.proofs.AllBlocks.{HoldsAt, all-blocks}
use Rattle.c_program.proofs.GraphFunctions.{graph-is-planned}
use Rattle.c_static.proofs.Bodies.{body-apart, is-procedure, of-body}
use Rattle.c_static.proofs.FunctionFacts.{HasBlocks, found-one, has-blocks}
use Rattle.c_static.proofs.Labels.{labels-once}
use Rattle.c_static.proofs.Split.{row, entry_at, other_at, further_at, split}
use Rattle.params.proofs.Members.{none-in, split-in, to-mapped}
use Rattle.c_shape.specs.Functions.{IsBlockOf, AreBlocksOf, IsProcedureFunction, HasItsFunctions, further_block}
use Rattle.c_shape.specs.Laws.{GraphHasItsFunctions}
use Rattle.c_shape.proofs.Guards.{is-guarded, further-made}

-- P holds of the block of a point and of its further block, if it has one
pub record HoldsOf (plan : Plan) (p : ℕ) (P : CBlock → Type 0) (b : Point) : Type 0 where
  pub block : P (block_c plan p b)
  pub further : (more : CBlock) → further_c plan p b ≡ Some more → P more

-- what holds of each member holds of all
pub all-in : {A : Type 0} (P : A → Type 0) (xs : List A) → ((x : A) → Contains xs x → P x) → All P xs
all-in P xs h k d lt = h (get_or xs k d) (k, lt, get_or_default xs k (get_or xs k d) d lt)

pub some-all : {A : Type 0} (P : A → Type 0) (o : Option A) → ((x : A) → o ≡ Some x → P x) → IfSome o P
some-all P None h = tt
some-all P (Some x) h = h x refl

rises-by : (sums : List Summary) (others : List ℕ) (p : ℕ) → All (λ s. IsStrictlySortedBy nat_cmp s.refs) sums → IsStrictlySortedBy nat_cmp others → IsStrictlySortedBy nat_cmp (refs_of sums others p)
rises-by [] others p h o = o
rises-by (s ∷ ss) others p h o = by (s.entry == p) (rises-by ss others p (All-tail (λ s. IsStrictlySortedBy nat_cmp s.refs) s ss h) o)
  where
    by : (b : Bool) → IsStrictlySortedBy nat_cmp (refs_of ss others p) → IsStrictlySortedBy nat_cmp (if b then s.refs else refs_of ss others p)
    by true rest = All-head (λ s. IsStrictlySortedBy nat_cmp s.refs) s ss h
    by false rest = rest

-- the first block of a procedure is that of its entry
first-block : (plan : Plan) (p : ℕ) (ns : List Node) (rest : List CBlock) (n : Node) → Contains ns n → n.point ≡ point p Seq → slice_get (row (entry_at plan p) ns ++ rest) 0 ≡ Some (block_c plan p (point p Seq))
first-block plan p [] rest n h e = none-in n h
first-block plan p (m ∷ ns) rest n h e = by (is_entry p m.point) refl (split-in m n ns h) (first-block plan p ns rest n)
  where
    entry-itself : is_entry p (point p Seq) ≡ true
    entry-itself = search rules

    point-is : is_entry p m.point ≡ true → m.point ≡ point p Seq
    point-is f = search (rules, f)

    by : (t : Bool) → is_entry p m.point ≡ t → (m ≡ n) ⊎ Contains ns n → (Contains ns n → n.point ≡ point p Seq → slice_get (row (entry_at plan p) ns ++ rest) 0 ≡ Some (block_c plan p (point p Seq)))
        → slice_get (((if t then block_c plan p m.point ∷ [] else []) ++ row (entry_at plan p) ns) ++ rest) 0 ≡ Some (block_c plan p (point p Seq))
    by true f c later = ap (λ x. Some (block_c plan p x)) (point-is f)
    by false f (inr c) later = later c e
    by false f (inl same) later =
        let yes : is_entry p m.point ≡ true = ap (is_entry p) (ap (λ (k : Node). k.point) same ∙ e) ∙ entry-itself in
        let none : ⊥ = let w = sym yes ∙ f in cc in absurd none

-- functions stand at the entries of their procedures
pub entries-are : (plan : Plan) (nodes : List Node) (procs : List Proc) → map (λ (f : Function). f.entry) (functions_of plan nodes procs) ≡ entries procs
entries-are plan nodes [] = refl
entries-are plan nodes (p ∷ ps) = ap (λ es. p.entry ∷ es) (entries-are plan nodes ps)

module _ (setting : Setting) (table : ℕ → List ℕ) (roots : List ℕ) (g : Graph) (sums : List Summary) (others : List ℕ) (parts : List Part) (entry : ℕ) (d : IsDescribed setting table roots g) (are : AreSummariesOf setting table roots g sums)
    (moving : AreMoving setting.machine others) (at_root : Contains roots entry) where
  abbrev plan : Plan
  plan = graph_plan setting table g.procs sums others

  abbrev program : Program
  program = graph_program setting table g sums others parts entry

  abbrev code : Code
  code = code_of setting table

  abbrev pub emission : Emission
  emission = record { plan = plan; roots = roots; parts = parts; entry = entry; program = program; planned = graph-is-planned setting table roots g sums others parts entry d are moving at_root }

  rise : AreSummariesOf setting table roots g sums → All (λ s. IsStrictlySortedBy nat_cmp s.refs) sums
  rise (AreSummariesOf.least s) = λ k x lt. (s.each k x lt).refs_rise
  rise (AreSummariesOf.whole s) = λ k x lt. (s.each k x lt).refs_rise

  -- what holds of each function holds of all
  pub each-function : (P : Function → Type 0) → ((proc : Proc) → Contains g.procs proc → P (function_of plan g.nodes proc.entry proc.body)) → All P program.functions
  each-function P h = All-map P (λ (proc : Proc). function_of plan g.nodes proc.entry proc.body) g.procs (all-in (λ (proc : Proc). P (function_of plan g.nodes proc.entry proc.body)) g.procs h)

  module _ (proc : Proc) (there : Contains g.procs proc) where
    abbrev q : ℕ
    q = proc.entry

    abbrev f : Function
    f = function_of plan g.nodes q proc.body

    abbrev body : List Node
    body = nodes_at g.nodes proc.body

    pub procedure : Procedure code roots q
    procedure = is-procedure code roots g d.graph proc there

    -- what holds of the block of each point of the body, and of each further block, holds of all blocks
    pub each-block : (P : CBlock → Type 0) → ((b : Point) → Body code q b → HoldsOf plan q P b) → All P f.blocks
    each-block P h = all-blocks plan q P body (all-in (HoldsAt plan q P) body (λ n c. let holds = h n.point (of-body code roots g d.graph proc there n c) in record { block = holds.block; further = some-all P (further_c plan q n.point) holds.further }))

    fn : HasFunction plan program q
    fn = emission.planned.functions q procedure

    is : fn.found.function ≡ f
    is = found-one plan g.nodes 0 g.procs proc fn.found d.graph.procs_rise there fn.is

    blocks-of : HasBlocks plan q f
    blocks-of = has-blocks plan program q fn f is

    record IsPlace (b : Point) : Type 0 where
      node : Node
      among : Contains body node
      stands : node.point ≡ b

    waits-not : (b : Point) → Body code q b → b.slot ≢ Dyn b.pc
    waits-not b inside = no_jump_waits_for_itself setting table q b d.sound.machine.encodings inside

    -- the first point of the body stands among its nodes
    first-place : IsPlace (point q Seq)
    first-place =
        let c = d.graph.nodes.whole (point q Seq) (record { entry = q; procedure = procedure; body = Body.first }) in
        let size = length-map g.nodes (λ (n : Node). n.point) in
        let k = c.0 in
        let lt = c.1 in
        let places : IsProcedureOf code (points_of g.nodes) proc = All-contains (IsProcedureOf code (points_of g.nodes)) g.procs proc d.graph.bodies there in
        let there' = places.exactly.whole k (record { point = point q Seq; within = c.1; is = c.2; body = Body.first }) in
        record {
          node = get_or g.nodes k no_node;
          among = to-mapped (λ j. get_or g.nodes j no_node) proc.body k there';
          stands = sym (get_or-map (λ (n : Node). n.point) g.nodes k no_node (point q Seq) (omega (arith, lt, size))) ∙ c.2;
        }

    begins : slice_get f.blocks 0 ≡ Some (block_c plan q (point q Seq))
    begins =
        let n = first-place in
        let E = row (entry_at plan q) body in
        let O = row (other_at plan q) body in
        let F = row (further_at plan q) body in
        ap (λ bs. slice_get bs 0) (split plan q body ∙ append_assoc E O F) ∙ first-block plan q body (O ++ F) n.node n.among n.stands

    are-blocks : AreBlocksOf plan q f.blocks
    are-blocks = record {
      begins = begins;
      points = blocks-of.blocks;
      further = λ b slot inside guard. blocks-of.further b (further_block plan q b slot) inside (further-made plan q b slot guard);
      none_else = each-block (IsBlockOf plan q) (λ b inside. record {
        block = IsBlockOf.at inside;
        further = λ more e. let made = is-guarded plan q b more e in subst (IsBlockOf plan q) made.is (IsBlockOf.further inside made.guard);
      });
      once = labels-once plan q body (body-apart code roots g d.graph proc there) (λ n c. waits-not n.point (of-body code roots g d.graph proc there n c));
      apart = λ pc inside. waits-not (further_label pc) inside refl;
    }

    its-function : IsProcedureFunction plan roots f
    its-function = record { procedure = procedure; params = refl; params_rise = rises-by sums others q (rise are) moving.rise; cells = refl; blocks = are-blocks }

  pub has-its-functions : HasItsFunctions plan roots program
  has-its-functions = record {
    entries = subst (IsExactly (Procedure code roots)) (sym (entries-are plan g.nodes g.procs)) d.graph.procs;
    entries_rise = subst (IsStrictlySortedBy nat_cmp) (sym (entries-are plan g.nodes g.procs)) d.graph.procs_rise;
    each = each-function (IsProcedureFunction plan roots) its-function;
  }

pub graph-has-its-functions : GraphHasItsFunctions
graph-has-its-functions = has-its-functions
