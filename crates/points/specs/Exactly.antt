-- Lists that hold exactly what has a property.
use Rattle.std.specs.Prelude.{List}
use Rattle.std.specs.List.{All, Contains}

-- a list holds exactly what has P
pub record IsExactly {A : Type 0} (P : A → Type 0) (xs : List A) : Type 0 where
  pub sound : All P xs
  pub whole : (x : A) → P x → Contains xs x
