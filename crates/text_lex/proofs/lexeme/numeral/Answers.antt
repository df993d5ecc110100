use Rattle.std.proofs.Common.{◌≡◌, ◌+◌, ◌-◌, ℕ, length, take, drop, arith, ap, ◌∙◌}
use Rattle.std.specs.Char.{is_digit}
use Rattle.std.proofs.lemmas.List.Sums.{prefix_len-le-length}
use Rattle.scan.proofs.Words.{run_passes}
use Rattle.std.specs.Str.Parse.{digits_value}
use Rattle.text_lex.specs.Tokens.{number_token}
use Rattle.text_lex.proofs.lexeme.numeral.Goals as goal

pub split_at-requires-2 : goal.split_at-requires-2
split_at-requires-2 c = omega (arith, c.digits_len.ensures, prefix_len-le-length (λ b. is_digit b c.args.radix) c.split_at.result.1.now)

pub value_of-requires-clause-digits : goal.value_of-requires-clause-digits
value_of-requires-clause-digits c = rw c.split_at-2.ensures.front (run_passes _ c.split_at.result.1.now c.digits_len.result (omega (arith, c.digits_len.ensures)))

pub returns-clause-kind : goal.returns-clause-kind
returns-clause-kind c word =
    let skip : ℕ = c.args.skip in
    let size : c.digits_len.result ≡ skip + length c.split_at-2.result.0.now - skip = omega (arith, c.split_at-2.ensures.front_len) in
    let digits = c.split_at-2.ensures.front ∙ ap (take c.digits_len.result) c.split_at.ensures.back ∙ ap (λ n. take n (drop skip c.args.text.now)) size in
    c.number_kind.ensures _ word c.value_of.ensures ∙ (λ i. number_token (digits_value c.args.radix (digits i)) (c.byte_at.ensures i))
