use Rattle.std.proofs.Common.{◌≡◌, ℕ, ◌<◌, length, slice_get, get_or, Some, []}
use Rattle.rtl_core.specs.declared.encodings.Coded.{Coded}
use Rattle.sled_match.specs.Allows.{IsRow}
use Rattle.sled_match.proofs.pruning.table.Given as goal

abbrev pub invariant-loop-coded : goal.invariant-loop-coded
invariant-loop-coded l =
    (length l.rows ≡ l.coded-index)
    × ((j : ℕ) → j < l.coded-index → (k : Coded) → slice_get l.coded-items j ≡ Some k → IsRow l.enc.order k (get_or l.rows j []))
