-- What the ranges of a Space keep of the ranges that it was built from.
use Rattle.std.specs.Prelude.{◌≡◌, true, List}
use Rattle.space.specs.declared.range.Range.{Range}
use Rattle.space.specs.Ranges.{memory_of}
use Rattle.space.specs.Order.{ascends}

-- these ranges are in order and map what the given ones do
pub record IsPlaced (given kept : List Range) : Type 0 where
  pub ordered : ascends 0 kept ≡ true
  pub same : memory_of kept ≡ memory_of given
