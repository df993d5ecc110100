-- When a tree is that of some constructors: each branch keeps all that its key allows, in their order.
use Rattle.std.specs.Prelude.{◌≡◌, ◌≢◌, ℕ, zero, suc, ◌<◌, Bool, true, List, slice_get, Option, None, Some, All}
use Rattle.std.specs.List.{filter}
use Rattle.rtl_core.specs.Matching.{Taken}
use Rattle.sled_match.specs.declared.tree.Node.{Node}
use Rattle.sled_match.specs.declared.tree.Node.TheVariants.{Leaf, Inner}
use Rattle.sled_match.specs.Tree.{key}

-- whether a constructor allows a key at a place: `allows constructor place key`
abbrev pub Pruning : Type 0
Pruning = ℕ → ℕ → ℕ → Bool

-- an entry of a table of answers; what has none is allowed
abbrev pub answer : Option Bool → Bool
answer None = true
answer (Some b) = b

abbrev pub answer_at : ℕ → Option (List Bool) → Bool
answer_at k None = true
answer_at k (Some keys) = answer (slice_get keys k)

abbrev pub answer_in : ℕ → ℕ → Option (List (List Bool)) → Bool
answer_in place k None = true
answer_in place k (Some places) = answer_at k (slice_get places place)

-- what the rows of a table say, a row for each constructor
abbrev pub allowed_in : List (List (List Bool)) → Pruning
allowed_in rows constructor place k = answer_in place k (slice_get rows constructor)

-- those of some constructors that a key at a place leaves
abbrev pub kept : Pruning → ℕ → ℕ → List ℕ → List ℕ
kept allows place k cs = filter (λ c. allows c place k) cs

-- a leaf lists them all; an inner node has a branch for each key, to a tree of what the key leaves
abbrev pub IsNodeOf : (ℕ → List ℕ → Type 0) → Pruning → List ℕ → Node → Type 0
IsNodeOf below allows cs (Leaf ds) = ds ≡ cs
IsNodeOf below allows cs (Inner place branches) = (k : ℕ) → k < 257 → (next : ℕ) × (slice_get branches k ≡ Some next) × below next (kept allows place k cs)

-- at a place among the nodes stands a tree of some constructors, of at most so many levels
unfoldable pub IsTreeOf : ℕ → Pruning → List Node → ℕ → List ℕ → Type 0
IsTreeOf zero allows nodes at cs = ⊥
IsTreeOf (suc levels) allows nodes at cs = (n : Node) × (slice_get nodes at ≡ Some n) × IsNodeOf (IsTreeOf levels allows nodes) allows cs n

-- what a constructor takes from bytes is allowed by what stands at each place
abbrev pub IsSound : Pruning → (ℕ → List ℕ → Option Taken) → Type 0
IsSound allows taken = (c place : ℕ) (bytes : List ℕ) → All (λ b. b < 256) bytes → allows c place (key place bytes) ≢ true → taken c bytes ≡ None
