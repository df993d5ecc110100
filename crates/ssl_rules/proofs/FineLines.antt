-- A line without a fault passes each of its checks.
use Rattle.std.proofs.Common.{◌≡◌, ℕ, Bool, true, false, List, [], ◌∷◌, Option, Some, None, refl}
use Rattle.std.specs.Prelude.{option_map}
use Rattle.std.specs.Option.{option_or}
use Rattle.ssl_syntax.specs.declared.line.SslBody.{SslBody}
use Rattle.rtl_core.specs.declared.encodings.Encodings.{Encodings}
use Rattle.ssl_rules.specs.declared.fault.SslFault.{SslFault}
use Rattle.ssl_rules.specs.declared.fault.SslFault.TheVariants.{Unknown, Twice, TooMany, OperandCount, IndexRange, NotPlace, WidthDiffers, TwoJumps, TooWide}
use Rattle.ssl_rules.specs.Given.{Given}
use Rattle.ssl_rules.specs.Checks.{is_known, is_once, is_few, is_counted, is_in_range, assigns_places, differing, is_single, is_small}
use Rattle.ssl_rules.specs.Faults.{unless, first_of, body_faults, body_fault, IsFine}

none_of : (first second : Option SslFault) → option_or first second ≡ None → (first ≡ None) × (second ≡ None)
none_of None second h = (refl, h)
none_of (Some fault) second h = cc

abbrev AllNone : List (Option SslFault) → Type 0
AllNone [] = Unit {0}
AllNone (x ∷ xs) = (x ≡ None) × AllNone xs

all_none : (xs : List (Option SslFault)) → first_of xs ≡ None → AllNone xs
all_none [] h = tt
all_none (x ∷ xs) h = let both = none_of x (first_of xs) h in (both.0, all_none xs both.1)

holds : (b : Bool) (fault : SslFault) → unless b fault ≡ None → b ≡ true
holds true fault h = refl
holds false fault h = cc

pub map-none : {A B : Type 0} (f : A → B) (o : Option A) → option_map f o ≡ None → o ≡ None
map-none f None h = refl
map-none f (Some x) h = cc

pub fine_line : (enc : Encodings) (g : Given) (line : ℕ) (b : SslBody) → body_fault enc g line b ≡ None → IsFine enc g b
fine_line enc g line b h =
    let all : AllNone (body_faults enc g line b) = all_none (body_faults enc g line b) h in
    record {
      known = holds (is_known enc g b) (Unknown line) all.0;
      once = holds (is_once enc g b) (Twice line) all.1.0;
      few = holds (is_few enc g b) (TooMany line) all.1.1.0;
      counted = holds (is_counted enc g b) (OperandCount line) all.1.1.1.0;
      ranged = holds (is_in_range enc g b) (IndexRange line) all.1.1.1.1.0;
      places = holds (assigns_places enc g b) (NotPlace line) all.1.1.1.1.1.0;
      same = map-none (λ m. WidthDiffers line m.left m.right) (differing enc g b) all.1.1.1.1.1.1.0;
      single = holds (is_single enc g b) (TwoJumps line) all.1.1.1.1.1.1.1.0;
      small = holds (is_small enc g b) (TooWide line) all.1.1.1.1.1.1.1.1.0;
    }
