use Rattle.sample_gen.proofs.Placed.{calls_lead_to_procedures}
use Rattle.sample_gen.proofs.laws.calls_lead_to_procedures.Goals as goal

pub returns : goal.returns
returns c = calls_lead_to_procedures
