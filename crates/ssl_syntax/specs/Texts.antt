-- What a text of these lines denotes: how its line values are spelled, and which are such.
use Rattle.std.specs.Prelude.{◌≡◌, Bool}
use Rattle.text_lex.specs.declared.token.LogicalLine.{LogicalLine}
use Rattle.line_reading.specs.Texts.{IsLineValue}
use Rattle.ssl_syntax.specs.declared.line.SslLine.{SslLine}
use Rattle.ssl_syntax.specs.Lines.{body_toks, is_body}

-- the logical line that spells a value
abbrev pub spelled_line : SslLine → LogicalLine
spelled_line value = record { number = value.number; tokens = body_toks value.body }

-- what the line says can be said
abbrev pub is_line : SslLine → Bool
is_line value = is_body value.body

-- no two line values have one spelling
abbrev pub LinesDiffer : Type 0
LinesDiffer =
    (a b : SslLine) → IsLineValue spelled_line is_line a → IsLineValue spelled_line is_line b → body_toks a.body ≡ body_toks b.body → a.body ≡ b.body
