use Rattle.std.proofs.Common.{◌≡◌, take}
use Rattle.discover.specs.Parts.{bodies_of}
use Rattle.discover.proofs.bodies.group.Given as goal

abbrev pub invariant-loop-place : goal.invariant-loop-place
invariant-loop-place l = l.bodies.items ≡ bodies_of l.points.keys (take l.place-index l.places) l.entries.keys
