-- Places in lists that ascend.
use Rattle.std.specs.Prelude.{◌≡◌, ℕ, List, Option, Some, None, slice_get}
use Rattle.std.specs.List.{Contains}
use Rattle.std.specs.List.Sorted.{IsStrictlySortedBy}
use Rattle.std.specs.declared.cmp.Ordering.{Ordering}

-- the place of an item is found, and where the list ascends exactly if it is there
pub record IsFound {T : Type 0} (cmp : T → T → Ordering) (xs : List T) (x : T) (r : Option ℕ) : Type 0 where
  pub found : (k : ℕ) → r ≡ Some k → slice_get xs k ≡ Some x
  pub missing : IsStrictlySortedBy cmp xs → r ≡ None → Contains xs x → ⊥

-- the place of an item, where the list ascends and has it
pub record IsPlace {T : Type 0} (cmp : T → T → Ordering) (xs : List T) (x : T) (k : ℕ) : Type 0 where
  pub at : IsStrictlySortedBy cmp xs → Contains xs x → slice_get xs k ≡ Some x
