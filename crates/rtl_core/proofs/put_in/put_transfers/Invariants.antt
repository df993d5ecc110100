use Rattle.std.proofs.Common.{◌≡◌, map, take}
use Rattle.rtl_core.specs.Grounding.{ground_transfer}
use Rattle.rtl_core.specs.GroundData.{site_of}
use Rattle.rtl_core.proofs.put_in.put_transfers.Given as goal

abbrev pub invariant-loop-transfer : goal.invariant-loop-transfer
invariant-loop-transfer l = l.out ≡ map (ground_transfer l.machine (site_of l.site)) (take l.transfer-index l.transfers)
