use Rattle.std.proofs.Common.{◌<◌, ◌++◌, ◌∷◌, length, arith, false-eqb, sym, ap, ◌∙◌}
use Rattle.std.proofs.lemmas.Bool.{eqb-true}
use Rattle.std.proofs.lemmas.List.{append-nil}
use Rattle.scan.proofs.Longest.{longest_bounds}
use Rattle.text_lex.specs.Lexemes.{token_as}
use Rattle.text_lex.specs.Tokens.{token_of, tokens_of}
use Rattle.text_lex.proofs.TokenLaws.{tokens_blank, tokens_front, tokens_end, pushed}
use Rattle.text_lex.proofs.line_tokens.push_tokens.Goals as goal

pub loop-rest-preserved-then-is_blank : goal.loop-rest-preserved-then-is_blank
loop-rest-preserved-then-is_blank c =
    let some : 0 < length c.loop-rest.rest.now = omega (arith, false-eqb _ 0 c.loop-rest-test.ensures) in
    c.loop-rest.invariant ∙ ap (λ ts. c.loop-rest.out ++ ts) (tokens_blank c.loop-rest.rest.now some (sym c.is_blank.ensures ∙ c.if-is_blank.true) ∙ ap tokens_of (sym c.split_at.ensures.back))

pub loop-rest-preserved : goal.loop-rest-preserved
loop-rest-preserved c =
    let some : 0 < length c.loop-rest.rest.now = omega (arith, false-eqb _ 0 c.loop-rest-test.ensures) in
    let bounds = longest_bounds token_of (length c.loop-rest.rest.now) c.loop-rest.rest.now c.front-lexeme.result.len _ c.front-lexeme.ensures in
    let tokens = tokens_front c.loop-rest.rest.now c.front-lexeme.result.len _ some bounds.0 (sym c.is_blank.ensures ∙ c.if-is_blank.false) c.front-lexeme.ensures in
    let token = c.in_ok-token.ensures.ok ∙ ap (token_as c.front-lexeme.result.kind) c.split_at-in-loop-rest.ensures.front in
    pushed _ c.loop-rest.out c.push.new.self c.loop-rest.rest.now c.split_at-in-loop-rest.result.1.now c.in_ok-token.token c.loop-rest.invariant
    (tokens ∙ (λ i. sym token i ∷ tokens_of (sym c.split_at-in-loop-rest.ensures.back i)))
    c.in_ok-push.ensures.ok

pub returns-clause-ok : goal.returns-clause-ok
returns-clause-ok c = sym (c.loop-rest.invariant ∙ ap (λ ts. c.loop-rest.out ++ ts) (tokens_end c.loop-rest.rest.now (eqb-true _ 0 (sym c.loop-rest-test.ensures))) ∙ append-nil c.loop-rest.out)

pub split_at-requires-in-loop-rest : goal.split_at-requires-in-loop-rest
split_at-requires-in-loop-rest c = (longest_bounds token_of (length c.loop-rest.rest.now) c.loop-rest.rest.now c.front-lexeme.result.len _ c.front-lexeme.ensures).1

pub loop-rest-smaller : goal.loop-rest-smaller
loop-rest-smaller c =
    let bounds = longest_bounds token_of (length c.loop-rest.rest.now) c.loop-rest.rest.now c.front-lexeme.result.len _ c.front-lexeme.ensures in
    omega (arith, bounds.0, c.split_at-in-loop-rest.ensures.back_len)
