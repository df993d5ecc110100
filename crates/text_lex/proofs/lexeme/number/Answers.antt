use Rattle.std.proofs.Common.{◌≡◌, ◌-◌, ℕ, Some, take, arith, sym, ap, ◌∙◌}
use Rattle.std.specs.Prelude.{slice_get}
use Rattle.std.specs.Str.Parse.{digits_value}
use Rattle.text_lex.specs.Tokens.{number_token}
use Rattle.text_lex.proofs.Fronts.{decimal_front, hexadecimal_front}
use Rattle.text_lex.proofs.lexeme.number.Goals as goal

pub returns-then-begins_hexadecimal : goal.returns-then-begins_hexadecimal
returns-then-begins_hexadecimal c =
    let n : ℕ = c.numeral.result.len in
    hexadecimal_front c.args.text.now n (sym c.begins_hexadecimal.ensures ∙ c.if-begins_hexadecimal.true) c.numeral.ensures.len ∙ ap (λ t. Some (n, t)) (sym (c.numeral.ensures.kind (take n c.args.text.now)))

pub returns-else-begins_hexadecimal : goal.returns-else-begins_hexadecimal
returns-else-begins_hexadecimal c =
    let n : ℕ = c.numeral-else-begins_hexadecimal.result.len in
    let size : n - 0 ≡ n = omega arith in
    let digits = ap (λ k. number_token (digits_value 10 (take k c.args.text.now)) (slice_get c.args.text.now n)) size in
    decimal_front c.args.text.now n c.requires.some c.requires.letter c.requires.digit (sym c.begins_hexadecimal.ensures ∙ c.if-begins_hexadecimal.false) (omega (arith, c.numeral-else-begins_hexadecimal.ensures.len)) ∙ ap (λ t. Some (n, t)) (sym (c.numeral-else-begins_hexadecimal.ensures.kind (take n c.args.text.now) ∙ digits))
