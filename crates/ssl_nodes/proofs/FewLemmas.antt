-- Sums of numbers of which many count as 257.
use Rattle.std.proofs.Common.{◌≡◌, ℕ, ◌+◌, min, arith}
use Rattle.ssl_nodes.specs.Sums.{few}

pub few-1 : (x : ℕ) → few (1 + few x) ≡ few (1 + x)
few-1 x = omega arith

pub few-2 : (x y : ℕ) → few (1 + few x + few y) ≡ few (1 + x + y)
few-2 x y = omega arith

pub few-3 : (x y z : ℕ) → few (1 + few x + few y + few z) ≡ few (1 + x + y + z)
few-3 x y z = omega arith

pub few-few : (x : ℕ) → few (few x) ≡ few x
few-few x = omega arith
