use Rattle.std.proofs.Common.{IfSome, length}
use Rattle.sled_match.specs.Pruned.{allowed_in}
use Rattle.sled_match.specs.Split.{IsSplit, IsSmallSplit}
use Rattle.sled_match.proofs.grow.best_split.Given as goal

abbrev pub invariant-loop-place : goal.invariant-loop-place
invariant-loop-place l =
    IfSome l.best (λ p. IsSplit (allowed_in l.table.rows) p.0 l.constructors p.1.lists p.1.index 257 × IsSmallSplit (length l.constructors) p.1.lists)
