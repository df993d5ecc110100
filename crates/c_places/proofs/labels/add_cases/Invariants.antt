use Rattle.std.proofs.Common.{◌≡◌, ◌++◌, map, take}
use Rattle.c_places.specs.Labels.{ways_from}
use Rattle.c_places.proofs.labels.add_cases.Given as goal

-- the ways of the cases so far
abbrev pub invariant-loop-c : goal.invariant-loop-c
invariant-loop-c l = l.ways ≡ l.fn.ways ++ ways_from l.start l.blocks (map (λ c. c.to) (take l.c-index l.cases))
