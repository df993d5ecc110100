-- The program of a graph has a C text.
use Rattle.std.proofs.Common.{◌≡◌, ℕ, zero, suc, ◌<◌, ◌≤◌, ◌^◌, ◌/◌, nat_lt, max, Bool, true, false, if◌then◌else◌, Option, Some, None, List, [], ◌∷◌, ◌++◌, length, map, take, drop, replicate, All, get_or, refl, sym, ap, ◌∙◌, subst, arith}
use Rattle.std.specs.Prelude.{slice_index, IfSome, is_some}
use Rattle.std.specs.List.{Contains}
use Rattle.std.proofs.Math.ListN.{length-set}
use Rattle.std.proofs.lemmas.List.{length-map, get_or-map, length-replicate}
use Rattle.std.proofs.lemmas.List.Elements.{All-nil, All-cons, All-head, All-tail, All-append, All-contains, All-get_or, All-map, All-replicate, All-set, All-weaker, All-from_recursion, recursion_from_All, Contains-get_or}
use Rattle.rtl_core.specs.declared.conv.Conv.{Conv}
use Rattle.rtl_core.specs.declared.conv.Numbers.{Numbers}
use Rattle.rtl_core.specs.declared.conv.ServiceShape.{ServiceShape}
use Rattle.rtl_core.specs.declared.expr.Order.{Order}
use Rattle.rtl_core.specs.declared.expr.Order.TheVariants.{Little, Big}
use Rattle.rtl_core.specs.declared.machine.Machine.{Machine}
use Rattle.rtl_core.specs.declared.point.Point.{Point}
use Rattle.rtl_core.specs.Arithmetic.{flag}
use Rattle.rtl_core.specs.FirstMemory.{Part, first_cells, first_stack}
use Rattle.rtl_core.specs.Services.{numbers_of}
use Rattle.rtl_core.specs.SoundConv.{IsSoundConv}
use Rattle.points.specs.declared.graph.Graph.{Graph}
use Rattle.points.specs.declared.graph.Node.{Node}
use Rattle.points.specs.declared.graph.Proc.{Proc}
use Rattle.points.specs.declared.graph.Summary.{Summary}
use Rattle.points.specs.Bodies.{Code, code_of, Body, Procedure, IsReached}
use Rattle.points.specs.Graphs.{IsPlaceOf, IsProcedureOf, points_of}
use Rattle.points.specs.Machine.{Setting}
use Rattle.c_lang.specs.declared.tree.CBlock.{CBlock}
use Rattle.c_lang.specs.declared.tree.Function.{Function}
use Rattle.c_lang.specs.declared.tree.Program.{Program}
use Rattle.c_lang.specs.Items.{order_number, header_numbers}
use Rattle.c_lang.specs.State.{has}
use Rattle.c_lang.specs.Spellable.{BlockHasForm, FunctionHasForm, SegmentsFit, HasSpelling}
use Rattle.c_lang.proofs.SpellingLaws.{parts_spelled}
use Rattle.c_lower.specs.Lowerable.{most_temporaries}
use Rattle.c_control.specs.Blocks.{block_c, further_c}
use Rattle.c_control.specs.Plans.{Plan}
use Rattle.c_control.specs.Programs.{IsPlanned, header_with, no_numbers, header_for, header_of, segment_of}
use Rattle.c_control.proofs.Frames.{Emission}
use Rattle.params.specs.ByEntry.{AreMoving}
use Rattle.params.proofs.PlanClosed.{to-has}
use Rattle.c_program.specs.Functions.{block_need, blocks_of, function_of, functions_of, most_need, no_node, nodes_at}
use Rattle.c_program.specs.Planning.{AreSummariesOf, IsDescribed, entries, graph_plan, graph_program}
use Rattle.c_program.specs.Trees.{most_levels, tree_by, tree_of}
use Rattle.c_program.proofs.AllBlocks.{HoldsAt, all-blocks}
use Rattle.c_program.proofs.Enough.{few-needed}
use Rattle.c_program.proofs.GraphFunctions.{graph-is-planned}
use Rattle.c_program.proofs.SmallPoints.{body-small, procedure-small}
use Rattle.c_forms.specs.Spelled.{GraphIsSpelled}
use Rattle.c_forms.proofs.Addresses.{body-fits, kind-fits, ra-small, second-small}
use Rattle.c_forms.proofs.BlocksFine.{block-form, further-form}
use Rattle.c_forms.proofs.CodeFine.{IsNarrow}
use Rattle.c_forms.proofs.PiecesFine.{TreeFits}

-- ---- the choice among procedures

abbrev Word : ℕ → Type 0
Word n = n < 2 ^ 32

All-take : (n : ℕ) (xs : List ℕ) → All Word xs → All Word (take n xs)
All-take zero xs h = All-nil Word
All-take (suc n) [] h = All-nil Word
All-take (suc n) (x ∷ xs) h = All-cons Word x (take n xs) (All-head Word x xs h) (All-take n xs (All-tail Word x xs h))

All-drop : (n : ℕ) (xs : List ℕ) → All Word xs → All Word (drop n xs)
All-drop zero xs h = h
All-drop (suc n) [] h = All-nil Word
All-drop (suc n) (x ∷ xs) h = All-drop n xs (All-tail Word x xs h)

at-small : (xs : List ℕ) (k : ℕ) → All Word xs → slice_index xs k < 2 ^ 32
at-small [] k h = omega arith
at-small (x ∷ xs) zero h = All-head Word x xs h
at-small (x ∷ xs) (suc k) h = at-small xs k (All-tail Word x xs h)

tree-fits : (n : ℕ) (xs : List ℕ) → All Word xs → TreeFits (tree_by n xs)
unfolding tree_by
tree-fits zero xs h = at-small xs 0 h
tree-fits (suc n) xs h = by (nat_lt 1 (length xs)) (tree-fits n (take half xs) (All-take half xs h)) (tree-fits n (drop half xs) (All-drop half xs h))
  where
    half : ℕ
    half = length xs / 2

    by : (b : Bool) → TreeFits (tree_by n (take half xs)) → TreeFits (tree_by n (drop half xs))
        → TreeFits (if b then Rattle.c_control.specs.Choice.Node (slice_index xs half) (tree_by n (take half xs)) (tree_by n (drop half xs)) else Rattle.c_control.specs.Choice.Leaf (slice_index xs 0))
    by true low high = (at-small xs half h, low, high)
    by false low high = at-small xs 0 h

-- ---- the header and the first values

flag-word : (b : Bool) → Word (flag b)
flag-word true = omega arith
flag-word false = omega arith

order-word : (o : Order) → Word (order_number o)
order-word Little = omega arith
order-word Big = omega arith

header-words : (m : Machine) (conv : Conv) → IsSoundConv conv → All Word (header_numbers (header_of m conv))
header-words m conv sound = by conv.service refl
  where
    words : (n : Numbers) (carry : Bool) → All Word (n.exit ∷ n.read ∷ n.write ∷ n.brk ∷ n.fault ∷ n.descriptor ∷ n.unknown ∷ []) → All Word (header_numbers (header_with m conv n carry))
    words n carry h =
        let numbers : List ℕ = n.exit ∷ n.read ∷ n.write ∷ n.brk ∷ n.fault ∷ n.descriptor ∷ n.unknown ∷ [] in
        let last = All-append Word numbers (flag carry ∷ []) h (All-cons Word (flag carry) [] (flag-word carry) (All-nil Word)) in
        All-from_recursion Word (header_numbers (header_with m conv n carry)) (
          order-word m.order,
          (
            flag-word m.align,
            (
              omega (arith, sound.heap.some, sound.heap.end),
              (
                omega (arith, sound.heap.few),
                (omega (arith, sound.stack.some, sound.stack.end), (omega (arith, sound.stack.few), recursion_from_All Word (numbers ++ flag carry ∷ []) last)),
              ),
            ),
          ),
        )

    by : (o : Option ServiceShape) → conv.service ≡ o → All Word (header_numbers (header_for m conv o))
    by None e = words (no_numbers conv) false (All-replicate Word 7 0 (omega arith))
    by (Some s) e =
        let are = sound.numbers s e in
        words (numbers_of conv s) (is_some s.error)
        (All-from_recursion Word (s.exit ∷ s.read ∷ s.write ∷ s.brk ∷ s.fault ∷ s.descriptor ∷ s.unknown ∷ [])
        (are.exit, (are.read, (are.write, (are.brk, (are.fault, (are.descriptor, (are.unknown, tt))))))))

abbrev Long : ℕ → Type 0
Long n = n < 2 ^ 64

first-cells : (m : Machine) (conv : Conv) → IsSoundConv conv → All Long (first_cells m conv)
first-cells m conv sound =
    All-set Long (replicate (length m.widths) 0) conv.stack_cell (first_stack conv) (omega (arith, sound.first)) (All-replicate Long (length m.widths) 0 (omega arith))

first-values : (m : Machine) (conv : Conv) (cells : List ℕ) → IsSoundConv conv → All (λ c. c < length m.widths) cells → All Long (map (λ c. slice_index (first_cells m conv) c) cells)
first-values m conv cells sound there =
    let long : length (first_cells m conv) ≡ length m.widths = length-set (replicate (length m.widths) 0) conv.stack_cell (first_stack conv) ∙ length-replicate (length m.widths) 0 in
    All-map Long (λ c. slice_index (first_cells m conv) c) cells
    (All-weaker (λ c. c < length m.widths) (λ c. Long (slice_index (first_cells m conv) c))
    (λ c lt. All-get_or Long (first_cells m conv) c 0 (omega (arith, lt, long)) (first-cells m conv sound)) cells there)

-- ---- functions

module _ (setting : Setting) (table : ℕ → List ℕ) (roots : List ℕ) (g : Graph) (sums : List Summary) (others : List ℕ) (parts : List Part) (entry : ℕ) (d : IsDescribed setting table roots g)
    (are : AreSummariesOf setting table roots g sums) (moving : AreMoving setting.machine others) (at_root : Contains roots entry) where
  abbrev plan : Plan
  plan = graph_plan setting table g.procs sums others

  abbrev program : Program
  program = graph_program setting table g sums others parts entry

  abbrev code : Code
  code = code_of setting table

  planned : IsPlanned plan roots parts entry program
  planned = graph-is-planned setting table roots g sums others parts entry d are moving at_root

  abbrev emission : Emission
  emission = record { plan = plan; roots = roots; parts = parts; entry = entry; program = program; planned = planned }

  abbrev There : ℕ → Type 0
  There c = c < length setting.machine.widths

  refs-there : (p : ℕ) → All There (plan.refs p)
  refs-there p k c within = (planned.closed.moving p (get_or (plan.refs p) k c) (to-has (plan.refs p) _ (Contains-get_or (plan.refs p) k c within))).0

  mods-there : (p : ℕ) → All There (plan.mods p)
  mods-there p k c within =
      let x = get_or (plan.mods p) k c in
      (planned.closed.moving p x (planned.closed.mods_in p x (to-has (plan.mods p) x (Contains-get_or (plan.mods p) k c within)))).0

  bytes : (cells : List ℕ) → All There cells → All (λ c. c < 2 ^ 8) cells
  bytes cells h = let count = d.sound.machine.machine.count in All-weaker There (λ c. c < 2 ^ 8) (λ c lt. omega (arith, lt, count)) cells h

  procs-small : All Word (entries g.procs)
  procs-small = All-weaker (Procedure code roots) Word (λ p h. procedure-small setting table d.sound d.tables_small roots d.roots_small p h) (entries g.procs) d.graph.procs.sound

  narrow : IsNarrow plan
  narrow = record {
    refs = λ p. bytes (plan.refs p) (refs-there p);
    mods = λ p. bytes (plan.mods p) (mods-there p);
    tree = tree-fits most_levels (entries g.procs) procs-small;
    few = planned.choice.few;
    tables = λ a k t within. d.tables_small a (get_or (table a) k t) (Contains-get_or (table a) k t within);
    seconds = second-small setting table d.sound d.tables_small;
    ra = ra-small setting table d.sound d.tables_small;
  }

  -- ---- blocks

  module _ (p : ℕ) (procedure : Procedure code roots p) where
    abbrev InBody : Node → Type 0
    InBody n = Body code p n.point

    p-small : p < 2 ^ 32
    p-small = procedure-small setting table d.sound d.tables_small roots d.roots_small p procedure

    point-form : (n : Node) → InBody n → BlockHasForm (block_c plan p n.point)
    point-form n h =
        block-form emission narrow (kind-fits setting table d.sound d.tables_small) p n.point h (body-small setting table d.sound d.tables_small p n.point p-small h) (body-fits setting table d.sound d.tables_small p n.point p-small h)

    further-of : (n : Node) → InBody n → IfSome (further_c plan p n.point) BlockHasForm
    further-of n h =
        further-form emission narrow (kind-fits setting table d.sound d.tables_small) p n.point h (body-small setting table d.sound d.tables_small p n.point p-small h) (body-fits setting table d.sound d.tables_small p n.point p-small h)

    blocks-forms : (ns : List Node) → All InBody ns → All BlockHasForm (blocks_of plan p ns)
    blocks-forms ns h =
        all-blocks plan p BlockHasForm ns (All-weaker InBody (HoldsAt plan p BlockHasForm) (λ n inside. record { block = point-form n inside; further = further-of n inside }) ns h)

  -- the node at a place of a body
  node-in : (proc : Proc) → IsProcedureOf code (points_of g.nodes) proc → (k : ℕ) → Contains proc.body k → Body code proc.entry (get_or g.nodes k no_node).point × (k < length g.nodes)
  node-in proc is k c =
      let place = All-contains (IsPlaceOf code proc.entry (points_of g.nodes)) proc.body k is.exactly.sound c in
      let size = length-map g.nodes (λ (n : Node). n.point) in
      let within : k < length g.nodes = omega (arith, place.within, size) in
      let at : (get_or g.nodes k no_node).point ≡ place.point = sym (get_or-map (λ (n : Node). n.point) g.nodes k no_node place.point within) ∙ place.is in
      (subst (Body code proc.entry) (sym at) place.body, within)

  most-few : (ns : List Node) → All (λ n. block_need n.block ≤ most_temporaries) ns → most_need ns ≤ 2 ^ 16
  most-few [] h = omega arith
  most-few (n ∷ ns) h = omega (arith, All-head (λ n. block_need n.block ≤ most_temporaries) n ns h, most-few ns (All-tail (λ n. block_need n.block ≤ most_temporaries) n ns h))

  function-form : (proc : Proc) → Procedure code roots proc.entry → IsProcedureOf code (points_of g.nodes) proc → FunctionHasForm (function_of plan g.nodes proc.entry proc.body)
  function-form proc procedure is =
      let at : (k : ℕ) → Contains proc.body k → Body code proc.entry (get_or g.nodes k no_node).point × (k < length g.nodes) = node-in proc is in
      let needs : ℕ → Type 0 = λ k. block_need (get_or g.nodes k no_node).block ≤ most_temporaries in
      let inside : ℕ → Type 0 = λ k. Body code proc.entry (get_or g.nodes k no_node).point in
      record {
        head = record { address = procedure-small setting table d.sound d.tables_small roots d.roots_small proc.entry procedure; cells = narrow.refs proc.entry };
        others = All-nil (λ c. c < 2 ^ 8);
        temporaries = most-few (nodes_at g.nodes proc.body)
            (All-map (λ (n : Node). block_need n.block ≤ most_temporaries) (λ k. get_or g.nodes k no_node) proc.body
            (λ k x within. few-needed setting table roots g sums others entry d are moving at_root (get_or proc.body k x) no_node (at (get_or proc.body k x) (Contains-get_or proc.body k x within)).1));
        each = blocks-forms proc.entry procedure (nodes_at g.nodes proc.body)
            (All-map (λ (n : Node). Body code proc.entry n.point) (λ k. get_or g.nodes k no_node) proc.body (λ k x within. (at (get_or proc.body k x) (Contains-get_or proc.body k x within)).0));
      }

  functions-forms : (procs : List Proc) → All (Procedure code roots) (entries procs) → All (IsProcedureOf code (points_of g.nodes)) procs → All FunctionHasForm (functions_of plan g.nodes procs)
  functions-forms [] h is = All-nil FunctionHasForm
  functions-forms (proc ∷ procs) h is =
      All-cons FunctionHasForm (function_of plan g.nodes proc.entry proc.body) (functions_of plan g.nodes procs)
      (function-form proc (All-head (Procedure code roots) proc.entry (entries procs) h) (All-head (IsProcedureOf code (points_of g.nodes)) proc procs is))
      (functions-forms procs (All-tail (Procedure code roots) proc.entry (entries procs) h) (All-tail (IsProcedureOf code (points_of g.nodes)) proc procs is))

  pub spelled : SegmentsFit (map segment_of parts) → HasSpelling program
  spelled fit =
      parts_spelled program (header-words setting.machine setting.conv d.sound.conv) fit (functions-forms g.procs d.graph.procs.sound d.graph.bodies) (d.roots_small entry at_root)
      (first-values setting.machine setting.conv (plan.refs entry) d.sound.conv (refs-there entry))

pub graph-is-spelled : GraphIsSpelled
graph-is-spelled setting table roots g sums others parts entry d are moving at_root fit = spelled setting table roots g sums others parts entry d are moving at_root fit
