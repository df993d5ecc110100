-- Two things, and what stands behind their spellings, are the same.
use Rattle.std.proofs.Common.{◌≡◌, List}

pub record Alike {X T : Type 0} (x y : X) (r s : List T) : Type 0 where
  pub same : x ≡ y
  pub rest : r ≡ s
