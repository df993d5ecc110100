use Rattle.std.proofs.Common.{◌≡◌, [], map, take, ℕ}
use Rattle.discover.proofs.bodies.no_bodies.Given as goal

abbrev pub invariant-loop-entry : goal.invariant-loop-entry
invariant-loop-entry l = l.bodies.items ≡ map (λ (e : ℕ). []) (take l.entry-index l.entries)
