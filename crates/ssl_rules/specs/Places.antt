-- Whether what is assigned is a place.
use Rattle.std.specs.Prelude.{Bool, true, false, Option, Some, None}
use Rattle.ssl_syntax.specs.declared.line.SslPlace.{SslPlace}
use Rattle.ssl_syntax.specs.declared.line.SslPlace.TheVariants as place
use Rattle.ssl_syntax.specs.declared.line.SslAct.{SslAct}
use Rattle.ssl_syntax.specs.declared.line.SslAct.TheVariants as act
use Rattle.ssl_rules.specs.declared.tables.Own.TheVariants.{Field, Typed, Param}
use Rattle.ssl_rules.specs.declared.tables.Lone.{Lone}
use Rattle.ssl_rules.specs.declared.tables.Lone.TheVariants as lone
use Rattle.ssl_rules.specs.Names.{Scope, lone_named}

-- an operand that is assigned is a place for every constructor of its type
abbrev pub is_assignable : Lone → Bool
is_assignable (lone.Cell c) = true
is_assignable (lone.Own (Field k w)) = false
is_assignable (lone.Own (Typed k stands)) = stands.place
is_assignable (lone.Own (Param k w)) = false

abbrev pub assigns_place : Scope → SslPlace → Bool
assigns_place s (place.Named name) = tested (lone_named s name)
  where
    tested : Option Lone → Bool
    tested None = false
    tested (Some l) = is_assignable l
assigns_place s _ = true

abbrev pub act_assigns_place : Scope → SslAct → Bool
act_assigns_place s (act.Assign width to e) = assigns_place s to
act_assigns_place s _ = true
