-- Each block of the program of a graph performs a step at a point of its procedure.
use Rattle.std.proofs.Common.{ℕ, List, arith}
use Rattle.std.specs.Prelude.{All, IsTrue}
use Rattle.std.specs.List.{Contains}
use Rattle.rtl_core.specs.FirstMemory.{Part}
use Rattle.points.specs.declared.graph.Graph.{Graph}
use Rattle.points.specs.declared.graph.Summary.{Summary}
use Rattle.points.specs.Bodies.{Procedure}
use Rattle.points.specs.Machine.{Setting}
use Rattle.c_lang.specs.declared.tree.Function.{Function}
use Rattle.c_control.specs.Plans.{Plan}
use Rattle.c_lang.specs.State.{has}
use Rattle.params.specs.ByEntry.{AreMoving}
use Rattle.params.proofs.PlanClosed.{to-has}
use Rattle.c_program.specs.Planning.{AreSummariesOf, IsDescribed, entries, graph_plan, graph_program}
use Rattle.c_static.proofs.PieceSays.{AllLeaves}
use Rattle.c_static.proofs.TreeLeaves.{each-entry}
use Rattle.c_shape.specs.Laws.{GraphPerforms}
use Rattle.c_shape.specs.Performing.{IsPerforming}
use Rattle.c_shape.proofs.ItsFunctions.{emission, each-function, each-block, procedure}
use Rattle.c_shape.proofs.Blocks.{point-performs, further-performs}

module _ (setting : Setting) (table : ℕ → List ℕ) (roots : List ℕ) (g : Graph) (sums : List Summary) (others : List ℕ) (parts : List Part) (entry : ℕ) (d : IsDescribed setting table roots g) (are : AreSummariesOf setting table roots g sums)
    (moving : AreMoving setting.machine others) (at_root : Contains roots entry) where
  abbrev plan : Plan
  plan = graph_plan setting table g.procs sums others

  leaves : AllLeaves (λ x. IsTrue (plan.flow.is_procedure x)) plan.tree
  leaves =
      let i = d.graph.procs.whole entry (Procedure.root at_root) in
      each-entry (λ x. IsTrue (has (entries g.procs) x)) (entries g.procs) (omega (arith, i.1)) (λ x c. to-has (entries g.procs) x c)

  pub performs : All (λ (f : Function). All (IsPerforming plan roots f.entry) f.blocks) (graph_program setting table g sums others parts entry).functions
  performs =
      each-function setting table roots g sums others parts entry d are moving at_root (λ (f : Function). All (IsPerforming plan roots f.entry) f.blocks)
      (λ proc there.
      let is = procedure setting table roots g sums others parts entry d are moving at_root proc there in
      let e = emission setting table roots g sums others parts entry d are moving at_root in
      each-block setting table roots g sums others parts entry d are moving at_root proc there (IsPerforming plan roots proc.entry)
      (λ b inside. record { block = point-performs e leaves proc.entry is b inside; further = further-performs e leaves proc.entry is b inside }))

pub graph-performs : GraphPerforms
graph-performs = performs
