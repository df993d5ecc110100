use Rattle.std.proofs.Common.{◌++◌, ap, ◌∙◌}
use Rattle.text_lex.specs.Tokens.{tokens_of}
use Rattle.text_lex.proofs.ReadingLaws.{begun}
use Rattle.text_lex.proofs.reading.Reading.begin.Goals as goal

pub returns-clause-ok : goal.returns-clause-ok
returns-clause-ok c lines shows =
    let tokens = c.in_ok-push_tokens.ensures.ok ∙ ap (λ ts. ts ++ tokens_of c.args.bytes.now) c.new-tokens.ensures in
    begun lines c.args.number c.args.bytes.now c.args.self.now c.measure.new.self _ shows
    (ap (λ v. v.items) c.measure.ensures.lines ∙ c.in_ok-push.ensures.items)
    (λ i. record { number = c.args.number; tokens = tokens i })
    c.measure.ensures.last_len c.measure.ensures.long
