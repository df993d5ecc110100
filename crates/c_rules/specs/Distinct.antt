-- The members of a list as a set.
use Rattle.std.specs.Prelude.{◌≡◌, Bool, true, false, List, Option, Some, None}
use Rattle.std.specs.List.{list_any}
use Rattle.std.specs.HashSet.{HashSet}
use Rattle.c_lang.specs.StaticRules.{no_two}

-- the set has the members of the list
pub record Holds {T S : Type 0} (eq : T → T → Bool) (set : HashSet T S) (xs : List T) : Type 0 where
  pub same : (x : T) → list_any (eq x) set.keys ≡ list_any (eq x) xs

-- the set of a list of which no two are alike, or none
abbrev pub Gathered : {T S : Type 0} → (T → T → Bool) → List T → Option (HashSet T S) → Type 0
Gathered eq xs None = no_two eq xs ≡ false
Gathered eq xs (Some set) = (no_two eq xs ≡ true) × Holds eq set xs
