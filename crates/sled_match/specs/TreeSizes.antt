-- How large a tree is, and how large it may be.
use Rattle.std.specs.Prelude.{◌≡◌, ℕ, zero, suc, ◌+◌, ◌*◌, ◌≤◌, Bool, true, false, List, [], ◌∷◌, ◌++◌, length, max, count_by, sum_by}
use Rattle.rtl_core.specs.declared.encodings.Encodings.{Encodings}
use Rattle.sled_match.specs.declared.tree.Node.{Node}
use Rattle.sled_match.specs.declared.tree.Node.TheVariants.{Leaf, Inner}
use Rattle.sled_match.specs.declared.size.TreeSize.{TreeSize}
use Rattle.sled_match.specs.Walks.{IsScan, instructions}

abbrev pub is_inner : Node → Bool
is_inner (Leaf cs) = false
is_inner (Inner place branches) = true

abbrev pub is_leaf : Node → Bool
is_leaf (Leaf cs) = true
is_leaf (Inner place branches) = false

-- how many constructors a node lists itself
abbrev pub held : Node → ℕ
held (Leaf cs) = length cs
held (Inner place branches) = 0

-- the most constructors of one leaf
abbrev pub longest : List Node → ℕ
longest [] = 0
longest (n ∷ ns) = max (held n) (longest ns)

-- how many nodes so many levels of inner nodes may add for n constructors: n, then twice as many on each level
abbrev pub room : ℕ → ℕ → ℕ
room zero n = 0
room (suc levels) n = n + 2 * room levels n

-- the nodes of so many trees were added, which stand for n constructors together and have so many levels of inner nodes
pub record AreAdded (levels trees n : ℕ) (old new : List Node) : Type 0 where
  pub more : List Node
  pub is : new ≡ old ++ more
  pub inner : 5 * count_by is_inner more ≤ room levels n
  pub few : length more ≤ trees + room levels n
  pub listed : sum_by held more ≤ n + room levels n

-- a tree of n constructors is small: each inner node stands for five of them at least, on three levels with n, 2 n and 4 n at most
pub record IsSmallTree (n : ℕ) (nodes : List Node) : Type 0 where
  pub inner : 5 * count_by is_inner nodes ≤ 7 * n
  pub few : length nodes ≤ 1 + 7 * n
  pub listed : sum_by held nodes ≤ 8 * n

-- a size is that of a tree whose leaves hold what a scan over the constructors of type instruction needs
pub record IsSizeOf (enc : Encodings) (size : TreeSize) : Type 0 where
  pub nodes : List Node
  pub root : ℕ
  pub scan : IsScan enc nodes root (instructions enc)
  pub inner : size.inner ≡ count_by is_inner nodes
  pub leaves : size.leaves ≡ count_by is_leaf nodes
  pub most : size.longest ≡ longest nodes
