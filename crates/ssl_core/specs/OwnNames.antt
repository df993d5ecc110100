-- The own names of a line.
use Rattle.std.specs.Prelude.{◌≡◌, ℕ, List, [], Option, None}
use Rattle.ssl_syntax.specs.declared.line.SslBody.{SslBody}
use Rattle.ssl_syntax.specs.declared.line.SslBody.TheVariants as body
use Rattle.rtl_core.specs.declared.encodings.Encodings.{Encodings}
use Rattle.ssl_rules.specs.declared.tables.Own.{Own}
use Rattle.ssl_rules.specs.Lookup.{named}
use Rattle.ssl_rules.specs.Given.{Given, constructor_named, kinds_of, named_constructor, own_operands, own_params}

-- the constructor that a line names
abbrev pub constructor_of : Encodings → SslBody → Option ℕ
constructor_of enc (body.Operand name ops e) = constructor_named enc name
constructor_of enc (body.Instruction name ops ts) = constructor_named enc name
constructor_of enc _ = None

-- operands by position, or parameters
abbrev pub own_of : Encodings → Given → SslBody → List (List ℕ × Own)
own_of enc g (body.Function name ps e) = own_params 0 ps
own_of enc g (body.Operand name ops e) = own_operands g enc 0 ops (kinds_of enc (named_constructor enc name))
own_of enc g (body.Instruction name ops ts) = own_operands g enc 0 ops (kinds_of enc (named_constructor enc name))
own_of enc g _ = []

-- two tables in which each name stands for the same
pub record FindSame (own other : List (List ℕ × Own)) : Type 0 where
  pub found : (name : List ℕ) → named own name ≡ named other name
