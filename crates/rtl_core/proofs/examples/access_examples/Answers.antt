use Rattle.rtl_core.proofs.Rows.{orders, alignment, faults}
use Rattle.rtl_core.proofs.examples.access_examples.Goals as goal

pub returns : goal.returns
returns c = record { orders = orders; alignment = alignment; faults = faults }
