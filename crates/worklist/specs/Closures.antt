-- What steps reach, and when that is much.
use Rattle.std.specs.Prelude.{◌≡◌, ℕ, ◌<◌, Bool, List, ◌++◌, length}
use Rattle.std.specs.List.{All, Contains, IsDistinct}

-- all that steps reach from the starts
pub data InClosure {T : Type 0} (next : T → List T) (starts : List T) : T → Type 0 where
  start : {x : T} → Contains starts x → InClosure next starts x
  step : {x y : T} → InClosure next starts x → Contains (next x) y → InClosure next starts y

-- more than so many different things have P
pub record AreMore {T : Type 0} (same : T → T → Bool) (limit : ℕ) (P : T → Type 0) : Type 0 where
  pub some : List T
  pub distinct : IsDistinct same some
  pub all : All P some
  pub more : limit < length some

-- the new list is the old one with some of xs behind it
pub record IsExtended {T : Type 0} (xs old new : List T) : Type 0 where
  pub added : List T
  pub is : new ≡ old ++ added
  pub among : All (Contains xs) added

-- the lists have the same members
pub record HaveSameMembers {T : Type 0} (xs ys : List T) : Type 0 where
  pub there : (x : T) → Contains xs x → Contains ys x
  pub back : (x : T) → Contains ys x → Contains xs x
