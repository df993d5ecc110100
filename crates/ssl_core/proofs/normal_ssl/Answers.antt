use Rattle.ssl_core.proofs.SoundAnswers.{named_cells, sound_machine}
use Rattle.ssl_core.proofs.normal_ssl.Goals as goal

pub returns-clause-sound : goal.returns-clause-sound
returns-clause-sound c = sound_machine c.args.enc.now c.args.lines.now c.machine_or_fault.result c.requires.sound c.requires.values c.machine_or_fault.ensures.value

pub returns-clause-names : goal.returns-clause-names
returns-clause-names c = named_cells c.args.enc.now c.args.lines.now c.machine_or_fault.result c.requires.sound c.requires.values c.machine_or_fault.ensures.value
