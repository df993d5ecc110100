use Rattle.std.proofs.Common.{◌≡◌, ◌≢◌, Err}
use Rattle.sled_rules.specs.declared.fault.SledFault.TheVariants.{NoMemory}
use Rattle.sled_rules.specs.Normal.{normal}
use Rattle.sled_core.proofs.Steps.{sound_answer}
use Rattle.sled_core.proofs.normal_sled.Goals as goal

pub returns-clause-sound : goal.returns-clause-sound
returns-clause-sound c =
    sound_answer c.args.lines.now c.normal_form.result (λ f. f ≢ NoMemory → normal c.args.lines.now ≡ Err f) c.requires c.normal_form.ensures
