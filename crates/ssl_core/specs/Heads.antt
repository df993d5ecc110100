-- The constructor that a template's line names, where it is known.
use Rattle.std.specs.Prelude.{ℕ, ◌==◌, ◌&&◌, not, Bool, false, if◌then◌else◌, List, [], length, take, drop, unwrap_or, Option, Some, None}
use Rattle.std.specs.List.{list_all}
use Rattle.ssl_syntax.specs.declared.line.SslBody.{SslBody}
use Rattle.ssl_syntax.specs.declared.line.SslBody.TheVariants as body
use Rattle.rtl_core.specs.declared.encodings.Encodings.{Encodings}
use Rattle.ssl_rules.specs.Given.{Given, kinds_of, type_of}
use Rattle.ssl_rules.specs.Checks.{is_known_kind}

-- a constructor is there, of an operand or of an instruction
abbrev pub is_constructor_at : Encodings → Bool → Option ℕ → Bool
is_constructor_at enc instruction None = false
is_constructor_at enc instruction (Some c) = if instruction then type_of enc c == 0 else not (type_of enc c == 0)

-- and the operands that are listed
abbrev pub is_head : Encodings → Given → Bool → Option ℕ → ℕ → Bool
is_head enc g instruction c count = is_constructor_at enc instruction c && list_all (is_known_kind enc g) (take count (kinds_of enc (unwrap_or c 0)))

-- the operands that a template's line lists behind the last of this constructor
abbrev pub surplus_at : Encodings → Option ℕ → SslBody → List (List ℕ)
surplus_at enc c (body.Operand name ops e) = drop (length (kinds_of enc (unwrap_or c 0))) ops
surplus_at enc c (body.Instruction name ops ts) = drop (length (kinds_of enc (unwrap_or c 0))) ops
surplus_at enc c _ = []
