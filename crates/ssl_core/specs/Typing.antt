-- A table with the type of each constructor.
use Rattle.std.specs.Prelude.{◌≡◌, ℕ, ◌<◌, ◌==◌, if◌then◌else◌, List, length, slice_get, unwrap_or}
use Rattle.std.specs.List.{list_any}
use Rattle.rtl_core.specs.declared.encodings.Encodings.{Encodings}
use Rattle.ssl_rules.specs.Given.{type_of}

-- by each constructor stands its type; that of one that is not there is 0
pub record AreTyped (enc : Encodings) (types : List ℕ) : Type 0 where
  pub found : (c : ℕ) → unwrap_or (slice_get types c) 0 ≡ type_of enc c

-- type t stands by these constructors, and by the others what stood there
pub record IsTypePut (old new cs : List ℕ) (t : ℕ) : Type 0 where
  pub count : length new ≡ length old
  pub found : (c : ℕ) → c < length old → unwrap_or (slice_get new c) 0 ≡ (if list_any (λ d. d == c) cs then t else unwrap_or (slice_get old c) 0)
