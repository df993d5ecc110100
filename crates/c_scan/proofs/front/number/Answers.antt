use Rattle.std.proofs.Common.{◌≡◌, ◌+◌, ◌∙◌, List, ℕ, Some, true, arith, ap, subst, sym}
use Rattle.std.specs.Char.{is_ascii_digit}
use Rattle.std.specs.Str.{all_ascii_digits}
use Rattle.std.specs.Str.Parse.{digits_value}
use Rattle.std.proofs.lemmas.List.Sums.{prefix_len-le-length}
use Rattle.c_text.specs.Tokens.{plain, long}
use Rattle.c_scan.proofs.Longest.{front_is_digits, long_in_front, no_suffix, plain_in_front, suffix_stands}
use Rattle.c_scan.proofs.front.number.Goals as goal

pub split_at-requires : goal.split_at-requires
split_at-requires c = omega (arith, c.digit_len-len.ensures, prefix_len-le-length is_ascii_digit c.args.bytes.now)

pub returns-then-starts_with-clause-longest : goal.returns-then-starts_with-clause-longest
returns-then-starts_with-clause-longest c =
    let n = c.digit_len-len.result in
    let suffix = suffix_stands c.args.bytes.now c.split_at.result.1.now n c.starts_with.result c.split_at.ensures.back c.starts_with.ensures.value c.if-starts_with.true in
    ap (λ (ds : List ℕ). Some (n + 3, long (digits_value 10 ds))) c.split_at.ensures.front ∙ sym (long_in_front c.args.bytes.now n c.requires.letter c.requires.first c.digit_len-len.ensures suffix)

pub returns-then-starts_with-clause-digits : goal.returns-then-starts_with-clause-digits
returns-then-starts_with-clause-digits c =
    subst (λ ds. all_ascii_digits ds ≡ true) (sym c.split_at.ensures.front) (front_is_digits c.args.bytes.now c.digit_len-len.result c.digit_len-len.ensures)

pub returns-clause-longest : goal.returns-clause-longest
returns-clause-longest c =
    let n = c.digit_len-len.result in
    let other = no_suffix c.args.bytes.now c.split_at.result.1.now n c.starts_with.result c.split_at.ensures.back c.starts_with.ensures.value c.if-starts_with.false in
    ap (λ (ds : List ℕ). Some (n, plain (digits_value 10 ds))) c.split_at.ensures.front ∙ sym (plain_in_front c.args.bytes.now n c.requires.letter c.requires.first c.digit_len-len.ensures other)

pub returns-clause-digits : goal.returns-clause-digits
returns-clause-digits c =
    subst (λ ds. all_ascii_digits ds ≡ true) (sym c.split_at.ensures.front) (front_is_digits c.args.bytes.now c.digit_len-len.result c.digit_len-len.ensures)
