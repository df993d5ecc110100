use Rattle.rtl_core.proofs.Rows.{shifts, rounding, least}
use Rattle.rtl_core.proofs.examples.arithmetic_examples.Goals as goal

pub returns : goal.returns
returns c = record { shifts = shifts; rounding = rounding; least = least }
