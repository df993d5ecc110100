use Rattle.std.proofs.Common.{subst, sym}
use Rattle.points.specs.declared.block.Block.{Block}
use Rattle.graph_control.specs.Ways.{AreWaysOf}
use Rattle.graph_control.proofs.ways.Places.ways_at.Goals as goal

pub returns-in-Inst : goal.returns-in-Inst
returns-in-Inst c = λ g p j. subst (λ (b : Block). AreWaysOf c.args.self.now.machine.now g c.args.node.now.point b c.ways_of.result) (sym c.in-Inst.is) (c.ways_of.ensures g p j)
