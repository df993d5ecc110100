use Rattle.std.proofs.Common.{◌^◌, ◌<◌, arith, subst}
use Rattle.rtl_core.specs.SoundTerms.{AreSoundTransfers}
use Rattle.c_program.proofs.Instructions.{few_temporaries, transfers_sound}
use Rattle.c_program.proofs.blocks.instruction_block.Goals as goal

pub lower-requires-clause-transfers : goal.lower-requires-clause-transfers
lower-requires-clause-transfers g c =
    let shows = c.requires.0 in
    let fits : c.args.point.pc < 2 ^ 32 = omega arith in
    subst (λ m. AreSoundTransfers m c.args.inst.now.transfers) shows.machine
    (transfers_sound g.plan.flow.setting c.args.point.pc c.args.inst.now c.args.kind shows.sound.machine.machine fits c.requires.1.1)

pub lower-requires-clause-temporaries : goal.lower-requires-clause-temporaries
lower-requires-clause-temporaries g c =
    let shows = c.requires.0 in
    let fits : c.args.point.pc < 2 ^ 32 = omega arith in
    omega (arith, few_temporaries g.plan.flow.setting c.args.point.pc c.args.inst.now c.args.kind shows.sound.machine.machine fits c.requires.1.1)
