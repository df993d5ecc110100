-- A graph with summaries is all that the program of its plan asks for.
use Rattle.std.proofs.Common.{◌≡◌, ◌≢◌, ℕ, ◌^◌, ◌<◌, ◌≤◌, List, [], length, map, All, get_or, sym, ap, ◌∙◌, subst, arith}
use Rattle.std.specs.List.{Contains}
use Rattle.std.proofs.lemmas.List.{length-map}
use Rattle.std.proofs.lemmas.List.Elements.{All-contains, Contains-get_or}
use Rattle.points.specs.declared.block.Block.{Block}
use Rattle.points.specs.declared.graph.Graph.{Graph}
use Rattle.points.specs.declared.graph.Node.{Node}
use Rattle.points.specs.declared.graph.Proc.{Proc}
use Rattle.points.specs.declared.graph.Summary.{Summary}
use Rattle.points.specs.Bodies.{Code, code_of, IsReached, Procedure}
use Rattle.points.specs.Graphs.{points_of}
use Rattle.points.specs.Kinds.{block_at}
use Rattle.points.specs.Machine.{Setting}
use Rattle.c_lower.specs.Lowerable.{most_temporaries}
use Rattle.params.specs.ByEntry.{AreMoving}
use Rattle.params.proofs.PlanClosed.{to-has}
use Rattle.c_program.specs.declared.sources.Sources.{Sources}
use Rattle.c_program.specs.Functions.{block_need}
use Rattle.c_program.specs.Planning.{AreSummariesOf, IsDescribed, entries, graph_plan}
use Rattle.c_program.specs.Ready.{IsReady}
use Rattle.c_program.specs.Shown.{Shows, entries_of}
use Rattle.c_program.proofs.Instructions.{few_temporaries}
use Rattle.c_program.proofs.Places.{no-key}
use Rattle.c_program.proofs.Planned.{closed}
use Rattle.c_program.proofs.Showing.{all-ready, shows, summaries}
use Rattle.c_program.proofs.SmallPoints.{body-small, procedure-small}
use Rattle.c_program.proofs.Sourcing.{AreParts, entries-same}

module _ (setting : Setting) (table : ℕ → List ℕ) (roots : List ℕ) (g : Graph) (sums : List Summary) (others : List ℕ) (entry : ℕ) (d : IsDescribed setting table roots g) (are : AreSummariesOf setting table roots g sums)
    (moving : AreMoving setting.machine others) (at_root : Contains roots entry) where
  abbrev code : Code
  code = code_of setting table

  -- the entry has a summary
  pub has-summary : All (λ s. s.entry ≢ entry) sums → ⊥
  has-summary none = no-key (λ s. s.entry) sums entry (subst (λ es. Contains es entry) (sym (entries-same setting table roots g sums are)) (d.graph.procs.whole entry (Procedure.root at_root))) none

  -- the temporaries of each node are few
  pub few-needed : All (λ n. block_need n.block ≤ most_temporaries) g.nodes
  few-needed k n within = by (get_or g.nodes k n) (d.graph.blocks k n within) (All-contains (IsReached code roots) (points_of g.nodes) (get_or g.nodes k n).point d.graph.nodes.sound (k, inside, Rattle.std.proofs.lemmas.List.get_or-map (λ (n : Node). n.point) g.nodes k n (get_or g.nodes k n).point within))
    where
      inside : k < length (points_of g.nodes)
      inside = omega (arith, length-map g.nodes (λ (n : Node). n.point), within)

      need : (pc : ℕ) (b : Block) → pc < 2 ^ 32 → block_at setting pc ≡ b → block_need b ≤ most_temporaries
      need pc Block.Outside lt e = omega arith
      need pc Block.Illegal lt e = omega arith
      need pc (Block.Inst inst kind) lt e = omega (arith, few_temporaries setting pc inst kind d.sound.machine.machine lt e)

      by : (n : Node) → n.block ≡ block_at setting n.point.pc → IsReached code roots n.point → block_need n.block ≤ most_temporaries
      by n e r =
          let lt = procedure-small setting table d.sound d.tables_small roots d.roots_small r.entry r.procedure in
          need n.point.pc n.block (body-small setting table d.sound d.tables_small r.entry n.point lt r.body).0 (sym e)

  -- bodies are places of nodes
  places-within : All (λ p. All (λ k. k < length g.nodes) p.body) g.procs
  places-within i p within j q inside =
      let proc = d.graph.bodies i p within in
      let place = proc.exactly.sound j q inside in
      let size = length-map g.nodes (λ (n : Node). n.point) in
      omega (arith, place.within, size)

  module _ (on : Sources) (parts : AreParts setting g sums on) (own : Contains sums on.own.now) (procs : List Proc) (nodes : List Node) (same-procs : procs ≡ g.procs) (same-nodes : nodes ≡ g.nodes) where
    -- the cells of the first procedure are cells of the machine
    cells-there : All (λ c. c < length on.machine.now.widths) on.own.now.refs
    cells-there k c within =
        let x = get_or on.own.now.refs k c in
        let is = summaries setting table roots g sums others entry d are at_root on parts own on.own.now own in
        let in-plan = subst (λ l. Contains l x) (sym is.refs) (Contains-get_or on.own.now.refs k c within) in
        let moves = (closed setting table roots g sums others [] entry d are moving at_root are).moving on.own.now.entry x (to-has _ x in-plan) in
        subst (λ m. x < length m.widths) (sym parts.machine) moves.0

    -- all of it
    pub enough : Shows (graph_plan setting table procs sums others) on
        × (All (IsReady (graph_plan setting table procs sums others) on) nodes × (All (λ n. block_need n.block ≤ most_temporaries) nodes × (All (λ p. All (λ k. k < length nodes) p.body) procs
        × ((entries_of on.sums.now ≡ map (λ p. p.entry) procs) × (All (λ c. c < length on.machine.now.widths) on.own.now.refs × (on.conv.now.room ≤ on.conv.now.stack_size))))))
    enough = (
      subst (λ ps. Shows (graph_plan setting table ps sums others) on) (sym same-procs) (shows setting table roots g sums others entry d are at_root on parts own),
      (
        subst (λ ps. All (IsReady (graph_plan setting table ps sums others) on) nodes) (sym same-procs)
            (subst (λ ns. All (IsReady (graph_plan setting table g.procs sums others) on) ns) (sym same-nodes) (all-ready setting table roots g sums others entry d are at_root on parts own)),
        (
          subst (λ ns. All (λ n. block_need n.block ≤ most_temporaries) ns) (sym same-nodes) few-needed,
          (
            subst (λ ps. All (λ p. All (λ k. k < length nodes) p.body) ps) (sym same-procs) (subst (λ ns. All (λ p. All (λ k. k < length ns) p.body) g.procs) (sym same-nodes) places-within),
            (ap entries_of parts.sums_are ∙ entries-same setting table roots g sums are ∙ ap entries (sym same-procs), (cells-there, subst (λ c. c.room ≤ c.stack_size) (sym parts.conv) d.sound.conv.room)),
          ),
        ),
      ),
    )
