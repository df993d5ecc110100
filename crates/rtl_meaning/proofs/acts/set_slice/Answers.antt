use Rattle.std.proofs.Common.{◌+◌, ◌-◌}
use Rattle.rtl_meaning.proofs.ActSteps.{value_within}
use Rattle.rtl_meaning.proofs.acts.set_slice.Goals as goal

pub with_bits-requires-clause-value : goal.with_bits-requires-clause-value
with_bits-requires-clause-value g c =
    let a = c.args in
    value_within a.machine.now a.cells.now.values (g.M.Memory.contents a.mem.now) a.pc a.e.now (a.hi + 1 - a.lo) c.in_ok-v.v c.requires.widths c.requires.fit c.requires.sound.3 c.in_ok-v.ensures
