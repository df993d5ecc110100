use Rattle.std.proofs.Common.{◌≡◌, arith, sym, ap, ◌∙◌}
use Rattle.scan.specs.Scan.{longest}
use Rattle.text_lex.specs.Tokens.{token_of, sign_at}
use Rattle.text_lex.proofs.Fronts.{sign_starts, sign_found, sign_shorter, sign_bad}
use Rattle.text_lex.proofs.lexeme.sign.Goals as goal

pub loop-len-init : goal.loop-len-init
loop-len-init c = record {
  some = omega (arith, c.min-len.ensures);
  within = omega (arith, c.min-len.ensures);
  shorter = sign_starts c.args.text.now c.min-len.result c.requires.some c.requires.letter c.requires.digit c.min-len.ensures;
}

pub returns-in-Some : goal.returns-in-Some
returns-in-Some c = c.loop-len.invariant.shorter ∙ sign_found c.args.text.now c.loop-len.len c.in-Some.index c.requires.some c.requires.letter c.requires.digit c.loop-len.invariant.some c.in-Some.ensures

pub loop-len-preserved : goal.loop-len-preserved
loop-len-preserved c = record {
  some = omega arith;
  within = omega arith;
  shorter = c.loop-len.invariant.shorter ∙ sign_shorter c.args.text.now c.loop-len.len c.requires.letter c.requires.digit (omega arith) c.loop-len.invariant.within (ap sign_at (sym c.in_default.is) ∙ c.sign_at.ensures);
}

pub returns-in-Some-sign_at : goal.returns-in-Some-sign_at
returns-in-Some-sign_at c =
    let one : c.loop-len.len ≡ 1 = omega arith in
    c.loop-len.invariant.shorter ∙ ap (λ n. longest token_of n c.args.text.now) one ∙ sign_found c.args.text.now 1 c.in-Some-sign_at.index c.requires.some c.requires.letter c.requires.digit (omega arith) c.in-Some-sign_at.ensures

pub returns-in-None : goal.returns-in-None
returns-in-None c =
    let one : c.loop-len.len ≡ 1 = omega arith in
    c.loop-len.invariant.shorter ∙ ap (λ n. longest token_of n c.args.text.now) one ∙ sign_bad c.args.text.now c.requires.some c.requires.letter c.requires.digit c.requires.blank c.in-None.ensures
