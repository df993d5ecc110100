-- How many types and constructors lines give.
use Rattle.std.specs.Prelude.{ℕ, ◌+◌, ◌≤◌, length}
use Rattle.sled_rules.specs.declared.known.Known.{Known}

-- a type more than constructors, and 4,096 constructors, at most
pub record IsCounted (k : Known) : Type 0 where
  pub types : length k.types ≤ length k.constructors + 1
  pub constructors : length k.constructors ≤ 4096
