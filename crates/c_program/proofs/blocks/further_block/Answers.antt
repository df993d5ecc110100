use Rattle.std.proofs.Common.{subst}
use Rattle.points.specs.Courses.{point}
use Rattle.c_program.specs.Ready.{IsKnownInst}
use Rattle.c_program.proofs.blocks.further_block.Goals as goal

pub instruction_further-requires : goal.instruction_further-requires
instruction_further-requires g c =
    (c.requires.0, subst (λ s. IsKnownInst g.plan c.args.on.now (point c.args.node.now.point.pc s) c.in-Seq-Inst.inst c.in-Seq-Inst.kind) c.in-Seq-Inst.is-0 (c.requires.1.known c.in-Seq-Inst.inst c.in-Seq-Inst.kind c.in-Seq-Inst.is-1))
