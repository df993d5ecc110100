use Rattle.std.proofs.Common.{arith}
use Rattle.rtl_meaning.proofs.ActSteps.{value_within}
use Rattle.rtl_meaning.proofs.acts.word.Goals as goal

pub overflow_cast-result : goal.overflow_cast-result
overflow_cast-result g c =
    let a = c.args in
    omega (arith, value_within a.machine.now a.cells.now.values (g.M.Memory.contents a.mem.now) a.pc a.e.now 32 c.in_ok-v.v c.requires.widths c.requires.fit c.requires.sound c.in_ok-v.ensures)
