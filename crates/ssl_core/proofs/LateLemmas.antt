-- The checks of a line from the third on, in their order.
use Rattle.std.proofs.Common.{◌≡◌, ℕ, Bool, true, false, [], ◌∷◌, Option, Some, None, sym, ap, ◌∙◌}
use Rattle.std.specs.Prelude.{option_map}
use Rattle.ssl_syntax.specs.declared.line.SslBody.{SslBody}
use Rattle.rtl_core.specs.declared.encodings.Encodings.{Encodings}
use Rattle.ssl_rules.specs.declared.fault.SslFault.{SslFault}
use Rattle.ssl_rules.specs.declared.fault.SslFault.TheVariants.{TooMany, OperandCount, IndexRange, NotPlace, WidthDiffers, TwoJumps, TooWide}
use Rattle.ssl_rules.specs.declared.widths.Mismatch.{Mismatch}
use Rattle.ssl_rules.specs.Given.{Given}
use Rattle.ssl_rules.specs.Checks.{is_few, is_counted, is_in_range, assigns_places, differing, is_single, is_small}
use Rattle.ssl_rules.specs.Faults.{unless, first_of, late_faults}

abbrev late : ℕ → Bool → Bool → Bool → Bool → Option Mismatch → Bool → Bool → Option SslFault
late line few counted ranged places differs single small = first_of (
    unless few (TooMany line) ∷
    unless counted (OperandCount line) ∷
    unless ranged (IndexRange line) ∷
    unless places (NotPlace line) ∷
    option_map (λ m. WidthDiffers line m.left m.right) differs ∷
    unless single (TwoJumps line) ∷
    unless small (TooWide line) ∷ [])

module _ (enc : Encodings) (g : Given) (line : ℕ) (b : SslBody) where
  abbrev rest_few : Bool → Option SslFault
  rest_few x = late line x (is_counted enc g b) (is_in_range enc g b) (assigns_places enc g b) (differing enc g b) (is_single enc g b) (is_small enc g b)

  abbrev rest_counted : Bool → Option SslFault
  rest_counted x = late line true x (is_in_range enc g b) (assigns_places enc g b) (differing enc g b) (is_single enc g b) (is_small enc g b)

  abbrev rest_ranged : Bool → Option SslFault
  rest_ranged x = late line true true x (assigns_places enc g b) (differing enc g b) (is_single enc g b) (is_small enc g b)

  abbrev rest_places : Bool → Option SslFault
  rest_places x = late line true true true x (differing enc g b) (is_single enc g b) (is_small enc g b)

  abbrev rest_differs : Option Mismatch → Option SslFault
  rest_differs x = late line true true true true x (is_single enc g b) (is_small enc g b)

  abbrev rest_single : Bool → Option SslFault
  rest_single x = late line true true true true None x (is_small enc g b)

  abbrev rest_small : Bool → Option SslFault
  rest_small x = late line true true true true None true x

  pub late_few : is_few enc g b ≡ false → Some (TooMany line) ≡ first_of (late_faults enc g line b)
  late_few h = ap rest_few (sym h)

  pub late_counted : is_few enc g b ≡ true → is_counted enc g b ≡ false → Some (OperandCount line) ≡ first_of (late_faults enc g line b)
  late_counted f h = ap rest_counted (sym h) ∙ ap rest_few (sym f)

  pub late_ranged : is_few enc g b ≡ true → is_counted enc g b ≡ true → is_in_range enc g b ≡ false → Some (IndexRange line) ≡ first_of (late_faults enc g line b)
  late_ranged f c h = ap rest_ranged (sym h) ∙ ap rest_counted (sym c) ∙ ap rest_few (sym f)

  pub late_places : is_few enc g b ≡ true → is_counted enc g b ≡ true → is_in_range enc g b ≡ true → assigns_places enc g b ≡ false → Some (NotPlace line) ≡ first_of (late_faults enc g line b)
  late_places f c r h = ap rest_places (sym h) ∙ ap rest_ranged (sym r) ∙ ap rest_counted (sym c) ∙ ap rest_few (sym f)

  -- what the first four checks say
  pub record AreRanged : Type 0 where
    pub few : is_few enc g b ≡ true
    pub counted : is_counted enc g b ≡ true
    pub ranged : is_in_range enc g b ≡ true
    pub places : assigns_places enc g b ≡ true

  ranged_first : AreRanged → (x : Option Mismatch) → differing enc g b ≡ x → rest_differs x ≡ first_of (late_faults enc g line b)
  ranged_first a x h = ap rest_differs (sym h) ∙ ap rest_places (sym a.places) ∙ ap rest_ranged (sym a.ranged) ∙ ap rest_counted (sym a.counted) ∙ ap rest_few (sym a.few)

  pub late_differs : AreRanged → (m : Mismatch) → differing enc g b ≡ Some m → Some (WidthDiffers line m.left m.right) ≡ first_of (late_faults enc g line b)
  late_differs a m h = ranged_first a (Some m) h

  pub late_single : AreRanged → differing enc g b ≡ None → is_single enc g b ≡ false → Some (TwoJumps line) ≡ first_of (late_faults enc g line b)
  late_single a d h = ap rest_single (sym h) ∙ ranged_first a None d

  pub late_small : AreRanged → differing enc g b ≡ None → is_single enc g b ≡ true → is_small enc g b ≡ false → Some (TooWide line) ≡ first_of (late_faults enc g line b)
  late_small a d s h = ap rest_small (sym h) ∙ ap rest_single (sym s) ∙ ranged_first a None d

  pub late_none : AreRanged → differing enc g b ≡ None → is_single enc g b ≡ true → is_small enc g b ≡ true → None ≡ first_of (late_faults enc g line b)
  late_none a d s h = ap rest_small (sym h) ∙ ap rest_single (sym s) ∙ ranged_first a None d
