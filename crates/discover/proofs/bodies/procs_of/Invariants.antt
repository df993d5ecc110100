use Rattle.std.proofs.Common.{◌≡◌, ℕ, List, map, take}
use Rattle.std.specs.List.{All}
use Rattle.points.specs.declared.graph.Proc.{Proc}
use Rattle.discover.specs.Parts.{entries_of, IsAscendingOf}
use Rattle.discover.proofs.bodies.procs_of.Given as goal

abbrev pub invariant-loop-k : goal.invariant-loop-k
invariant-loop-k l = record {
  entries : entries_of l.procs.items ≡ take l.k l.entries;
  bodies : (f : ℕ → List ℕ) → l.bodies ≡ map f l.entries → All (λ (p : Proc). IsAscendingOf (f p.entry) p.body) l.procs.items;
}
