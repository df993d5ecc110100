-- The program of a graph is the text of its plan, and so the same as the machine.
use Rattle.std.proofs.Common.{ℕ, IsTrue, List, refl, arith}
use Rattle.std.specs.List.{Contains}
use Rattle.std.proofs.lemmas.List.Elements.{All-contains}
use Rattle.std.proofs.lemmas.List.{length-map}
use Rattle.rtl_core.specs.FirstMemory.{Part}
use Rattle.points.specs.declared.graph.Graph.{Graph}
use Rattle.points.specs.declared.graph.Summary.{Summary}
use Rattle.points.specs.Bodies.{code_of, Procedure}
use Rattle.points.specs.Machine.{Setting}
use Rattle.points.proofs.Behind.{second_is_behind}
use Rattle.c_lang.specs.State.{has}
use Rattle.c_lang.specs.declared.tree.Program.{Program}
use Rattle.c_control.specs.Choice.{leaf_of}
use Rattle.c_control.specs.Plans.{Plan}
use Rattle.c_control.specs.Programs.{AreClosed, HasFunction, IsChoice, IsPlanned}
use Rattle.params.specs.ByEntry.{AreMoving}
use Rattle.params.proofs.PlanClosed.{are-closed, from-has, to-has, whole-are-closed}
use Rattle.c_program.specs.Choosing.{ChoosesAmong}
use Rattle.c_program.specs.Planning.{AreSummariesOf, IsDescribed, entries, flow_of, graph_plan, graph_program}
use Rattle.c_program.specs.Trees.{tree_of}
use Rattle.c_program.proofs.SmallPoints.{body-small, procedure-small}
use Rattle.c_program.proofs.TreeLaws.{choosing}

module _ (setting : Setting) (table : ℕ → List ℕ) (roots : List ℕ) (g : Graph) (sums : List Summary) (others : List ℕ) (parts : List Part) (entry : ℕ) (d : IsDescribed setting table roots g)
    (are : AreSummariesOf setting table roots g sums) (moving : AreMoving setting.machine others) (at_root : Contains roots entry) where
  abbrev plan : Plan
  plan = graph_plan setting table g.procs sums others

  abbrev program : Program
  program = graph_program setting table g sums others parts entry

  -- a procedure of the program is one of the graph
  is-procedure : (p : ℕ) → IsTrue (has (entries g.procs) p) → Procedure (code_of setting table) roots p
  is-procedure p h = All-contains (Procedure (code_of setting table) roots) (entries g.procs) p d.graph.procs.sound (from-has (entries g.procs) p h)

  pub closed : AreSummariesOf setting table roots g sums → AreClosed plan roots
  closed (AreSummariesOf.least s) = are-closed (flow_of setting table g.procs) roots g sums others (tree_of (entries g.procs)) d.sound d.lie d.graph s moving
  closed (AreSummariesOf.whole s) = whole-are-closed (flow_of setting table g.procs) roots g sums others (tree_of (entries g.procs)) d.sound d.lie s moving

  chooses : ChoosesAmong (tree_of (entries g.procs)) (entries g.procs)
  chooses =
      let i = d.graph.procs.whole entry (Procedure.root at_root) in
      let size = length-map g.procs (λ (p : Rattle.points.specs.declared.graph.Proc.Proc). p.entry) in
      let few = d.few in
      choosing (entries g.procs) (omega (arith, i.1)) (omega (arith, size, few)) d.graph.procs_rise

  choice : IsChoice plan
  choice = record {
    leaves = λ x. (to-has (entries g.procs) (leaf_of (tree_of (entries g.procs)) x) (chooses.leaves x));
    chosen = λ x h. chooses.chosen x (from-has (entries g.procs) x h);
    few = chooses.few;
  }

  pub planned : ((p : ℕ) → Procedure (code_of setting table) roots p → HasFunction plan program p) → IsPlanned plan roots parts entry program
  planned functions = record {
    sound = d.sound;
    procedures = is-procedure;
    small = λ p b procedure inside. (body-small setting table d.sound d.tables_small p b (procedure-small setting table d.sound d.tables_small roots d.roots_small p procedure) inside).0;
    seconds = λ back s lt e. let apart = (second_is_behind setting back s d.sound.machine.encodings e).1 in (apart.1, apart.0);
    given = at_root;
    closed = closed are;
    choice = choice;
    functions = functions;
    header = refl;
    segments = refl;
    starts = refl;
    first = refl;
  }
