-- What the tree of a matcher does: its leaves hold what a scan needs.
use Rattle.std.specs.Prelude.{◌≡◌, ℕ, ◌<◌, List, [], slice_get, All}
use Rattle.std.specs.Option.{unwrap_or}
use Rattle.rtl_core.specs.declared.encodings.Encodings.{Encodings}
use Rattle.rtl_core.specs.Matching.{type_taken, first_matching, constructor_taken}
use Rattle.sled_match.specs.declared.tree.Node.{Node}
use Rattle.sled_match.specs.declared.tree.TheConstants.{LEVELS}
use Rattle.sled_match.specs.Tree.{listed}

-- the first that matches among the constructors that the tree lists for some bytes is the first of all that match
abbrev pub IsScan : Encodings → List Node → ℕ → List ℕ → Type 0
IsScan enc nodes root cs = (deep : ℕ) (bytes : List ℕ) → All (λ b. b < 256) bytes
    → first_matching (constructor_taken (type_taken deep enc) enc bytes) (listed LEVELS nodes root bytes)
    ≡ first_matching (constructor_taken (type_taken deep enc) enc bytes) cs

-- the constructors of type instruction
abbrev pub instructions : Encodings → List ℕ
instructions enc = unwrap_or (slice_get enc.types 0) []
