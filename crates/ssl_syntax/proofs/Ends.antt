-- What may stand behind an expression or a cell.
use Rattle.std.proofs.Common.{◌≡◌, false, List, [], ◌∷◌, refl}
use Rattle.text_lex.specs.declared.token.Token.{Token}
use Rattle.text_lex.specs.declared.token.Token.TheVariants.{Sign}
use Rattle.line_reading.specs.Signs.{becomes, guards, open_paren, close_paren, open_bracket, close_bracket, comma, semicolon}
use Rattle.line_reading.specs.Readings.{begins}

-- no bracket that would go on with a name
pub record Ends (r : List Token) : Type 0 where
  pub no_bracket : begins open_bracket r ≡ false
  pub no_paren : begins open_paren r ≡ false

pub at_end : Ends []
at_end = record { no_bracket = refl; no_paren = refl }

pub closes_paren : (r : List Token) → Ends (Sign close_paren ∷ r)
closes_paren r = record { no_bracket = refl; no_paren = refl }

pub closes_bracket : (r : List Token) → Ends (Sign close_bracket ∷ r)
closes_bracket r = record { no_bracket = refl; no_paren = refl }

pub closes_comma : (r : List Token) → Ends (Sign comma ∷ r)
closes_comma r = record { no_bracket = refl; no_paren = refl }

pub closes_semicolon : (r : List Token) → Ends (Sign semicolon ∷ r)
closes_semicolon r = record { no_bracket = refl; no_paren = refl }

pub closes_becomes : (r : List Token) → Ends (Sign becomes ∷ r)
closes_becomes r = record { no_bracket = refl; no_paren = refl }

pub closes_guards : (r : List Token) → Ends (Sign guards ∷ r)
closes_guards r = record { no_bracket = refl; no_paren = refl }
