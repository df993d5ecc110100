use Rattle.std.proofs.Common.{◌≡◌, take}
use Rattle.std.specs.List.{flat_map}
use Rattle.discover.specs.Parts.{pads_in}
use Rattle.discover.proofs.jumps.pads_of.Given as goal

abbrev pub invariant-loop-back : goal.invariant-loop-back
invariant-loop-back g l = l.pads.items ≡ flat_map (pads_in (g.P.Program.code l.program)) (take l.back-index l.backs)
