-- The first fault of lines: that of the least line, and on one line that of the least check.
use Rattle.std.specs.Prelude.{◌≡◌, ℕ, ◌+◌, Bool, true, false, if◌then◌else◌, List, [], ◌∷◌, Option, Some, None, option_map}
use Rattle.std.specs.Option.{option_or}
use Rattle.ssl_syntax.specs.declared.line.SslBody.{SslBody}
use Rattle.ssl_syntax.specs.declared.line.SslLine.{SslLine}
use Rattle.rtl_core.specs.declared.encodings.Encodings.{Encodings}
use Rattle.rtl_core.specs.declared.encodings.Coded.{Coded}
use Rattle.ssl_rules.specs.declared.fault.SslFault.{SslFault}
use Rattle.ssl_rules.specs.declared.fault.SslFault.TheVariants.{Unknown, Twice, TooMany, OperandCount, IndexRange, NotPlace, WidthDiffers, TwoJumps, TooWide, Missing}
use Rattle.ssl_rules.specs.Given.{Given, nothing_given, given_by, with_body, has_template}
use Rattle.ssl_rules.specs.Checks.{is_known, is_once, is_few, is_counted, is_in_range, assigns_places, differing, is_single, is_small}

-- a fault where a test fails
abbrev pub unless : Bool → SslFault → Option SslFault
unless true fault = None
unless false fault = Some fault

-- the first that is there
abbrev pub first_of : List (Option SslFault) → Option SslFault
first_of [] = None
first_of (x ∷ xs) = option_or x (first_of xs)

-- the checks of a line whose names are known, and which gives nothing that is given
abbrev pub late_faults : Encodings → Given → ℕ → SslBody → List (Option SslFault)
late_faults enc g line b =
    unless (is_few enc g b) (TooMany line) ∷
    unless (is_counted enc g b) (OperandCount line) ∷
    unless (is_in_range enc g b) (IndexRange line) ∷
    unless (assigns_places enc g b) (NotPlace line) ∷
    option_map (λ m. WidthDiffers line m.left m.right) (differing enc g b) ∷
    unless (is_single enc g b) (TwoJumps line) ∷
    unless (is_small enc g b) (TooWide line) ∷ []

-- all checks of a line, in their order
abbrev pub body_faults : Encodings → Given → ℕ → SslBody → List (Option SslFault)
body_faults enc g line b = unless (is_known enc g b) (Unknown line) ∷ unless (is_once enc g b) (Twice line) ∷ late_faults enc g line b

-- the fault of a line
abbrev pub body_fault : Encodings → Given → ℕ → SslBody → Option SslFault
body_fault enc g line b = first_of (body_faults enc g line b)

-- each check of a line holds
pub record IsFine (enc : Encodings) (g : Given) (b : SslBody) : Type 0 where
  pub known : is_known enc g b ≡ true
  pub once : is_once enc g b ≡ true
  pub few : is_few enc g b ≡ true
  pub counted : is_counted enc g b ≡ true
  pub ranged : is_in_range enc g b ≡ true
  pub places : assigns_places enc g b ≡ true
  pub same : differing enc g b ≡ None
  pub single : is_single enc g b ≡ true
  pub small : is_small enc g b ≡ true

-- the first fault of lines behind those that gave this much
abbrev pub first_fault : Encodings → Given → List SslLine → Option SslFault
first_fault enc g [] = None
first_fault enc g (line ∷ lines) = option_or (body_fault enc g line.number line.body) (first_fault enc (with_body enc g line.body) lines)

-- the first of these constructors, counted from c on, that has no template
abbrev pub missing_from : Given → ℕ → List Coded → Option SslFault
missing_from g c [] = None
missing_from g c (k ∷ ks) = if has_template g c then missing_from g (c + 1) ks else Some (Missing c)

-- what is wrong with lines: the first fault of one, or at the end a constructor without a template
abbrev pub fault_of : Encodings → List SslLine → Option SslFault
fault_of enc lines = option_or (first_fault enc nothing_given lines) (missing_from (given_by enc lines) 0 enc.constructors)
