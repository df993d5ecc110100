-- Fields that lie in their tokens.
use Rattle.std.specs.Prelude.{ℕ, ◌<◌, ◌≤◌}
use Rattle.sled_rules.specs.declared.meaning.Field.{Field}
use Rattle.sled_rules.specs.declared.meaning.Meaning.{Meaning}
use Rattle.sled_rules.specs.declared.meaning.Meaning.TheVariants as means

-- a field lies in its token, which has at most 32 bits
pub record IsField (f : Field) : Type 0 where
  pub order : f.lo ≤ f.hi
  pub within : f.hi < f.token.bits
  pub bits : f.token.bits ≤ 32

abbrev pub IsMeaning : Meaning → Type 0
IsMeaning (means.Field f) = IsField f
IsMeaning _ = Unit {0}
