-- Nodes, where more than 256 are told as 257.
use Rattle.std.proofs.Common.{◌≡◌, ℕ, true, arith}
use Rattle.std.specs.Prelude.{nat_le}
use Rattle.std.proofs.lemmas.Bool.Decides.{nat_tests}
use Rattle.ssl_nodes.specs.Sums.{few}

pub few_enough : (m n : ℕ) → m ≡ few n → nat_le m 256 ≡ nat_le n 256
few_enough m n h = grind (arith, nat_tests)

pub few_is : (m n : ℕ) → m ≡ few n → nat_le n 256 ≡ true → m ≡ n
few_is m n h s = grind (arith, nat_tests)
