-- What the keys at a place leave of some constructors, each list once.
use Rattle.std.specs.Prelude.{◌≡◌, ℕ, ◌*◌, ◌<◌, ◌≤◌, List, slice_get, length, sum_by, Some}
use Rattle.sled_match.specs.Pruned.{Pruning, kept}

-- one key's list stands among the lists where its index says
abbrev pub IsListOf : Pruning → ℕ → List ℕ → List (List ℕ) → List ℕ → ℕ → Type 0
IsListOf allows place cs lists index k = (at : ℕ) × (slice_get index k ≡ Some at) × (slice_get lists at ≡ Some (kept allows place k cs))

-- each of the first n keys has its list
pub record IsSplit (allows : Pruning) (place : ℕ) (cs : List ℕ) (lists : List (List ℕ)) (index : List ℕ) (n : ℕ) : Type 0 where
  pub count : length index ≡ n
  pub few : length lists ≤ n
  pub each : (k : ℕ) → k < n → IsListOf allows place cs lists index k

-- a split of n constructors is worth a node: no more lists than constructors, which hold at most twice as many
pub record IsSmallSplit (n : ℕ) (lists : List (List ℕ)) : Type 0 where
  pub fewer : length lists ≤ n
  pub held : sum_by length lists ≤ 2 * n
