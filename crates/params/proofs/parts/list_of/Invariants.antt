use Rattle.std.proofs.Common.{◌≡◌, take}
use Rattle.std.specs.List.{flat_map}
use Rattle.params.specs.Parts.{place_part}
use Rattle.params.proofs.parts.list_of.Given as goal

abbrev pub invariant-loop-place : goal.invariant-loop-place
invariant-loop-place l = l.list ≡ flat_map (place_part l.machine l.conv l.part l.nodes) (take l.place-index l.proc.body)
