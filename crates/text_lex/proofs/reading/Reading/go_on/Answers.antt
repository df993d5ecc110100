use Rattle.std.proofs.Common.{arith, ap}
use Rattle.text_lex.proofs.ReadingLaws.{went_on}
use Rattle.text_lex.proofs.reading.Reading.go_on.Goals as goal

pub returns-clause-ok : goal.returns-clause-ok
returns-clause-ok c n lines shows =
    went_on lines n c.args.bytes.now c.args.self.now c.measure.new.self _ c.index_mut-last.result.now c.push_tokens.new.out shows
    (omega (arith, c.len-at.ensures)) c.index_mut-last.ensures.value c.in_ok-push_tokens.ensures.ok
    (ap (λ v. v.items) c.measure.ensures.lines)
    c.measure.ensures.last_len c.measure.ensures.long
