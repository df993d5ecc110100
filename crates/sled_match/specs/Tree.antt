-- What a tree of nodes in a list lists for some bytes.
use Rattle.std.specs.Prelude.{ℕ, zero, suc, List, [], get_or, slice_get, Option, None, Some}
use Rattle.sled_match.specs.declared.tree.Node.{Node}
use Rattle.sled_match.specs.declared.tree.Node.TheVariants.{Leaf, Inner}

-- what is read at a place: the byte there, or 256 where the bytes end before it
abbrev pub key : ℕ → List ℕ → ℕ
key place bytes = get_or bytes place 256

-- what stands along a branch, if it leads anywhere
abbrev pub along : (ℕ → List ℕ) → Option ℕ → List ℕ
along below None = []
along below (Some at) = below at

-- what a node lists, where `below` is what the nodes below it list
abbrev pub at_node : (ℕ → List ℕ) → List ℕ → Option Node → List ℕ
at_node below bytes None = []
at_node below bytes (Some (Leaf cs)) = cs
at_node below bytes (Some (Inner place branches)) = along below (slice_get branches (key place bytes))

-- the constructors that the tree at a place among the nodes, of at most so many levels, lists for some bytes
unfoldable pub listed : ℕ → List Node → ℕ → List ℕ → List ℕ
listed zero nodes at bytes = []
listed (suc levels) nodes at bytes = at_node (λ next. listed levels nodes next bytes) bytes (slice_get nodes at)
