use Rattle.std.proofs.Common.{subst}
use Rattle.std.specs.Prelude.{MatchResult}
use Rattle.line_reading.specs.LineLists.{AreFaulty, AreRead}
use Rattle.line_reading.proofs.TextLaws.{told_of, passes}
use Rattle.line_reading.proofs.text.read_text.Goals as goal

pub returns-in-Ok : goal.returns-in-Ok
returns-in-Ok g c =
    let m = subst (λ ls. MatchResult c.read_values.result (λ values. AreRead g.L.LineValue.spelled g.L.LineValue.formed values ls) (λ fault. AreFaulty g.L.LineValue.spelled g.L.LineValue.formed fault ls)) c.as_slice.ensures c.read_values.ensures in
    told_of g.L.LineValue.spelled g.L.LineValue.formed c.args.text.now c.in-Ok.found c.read_values.result c.in-Ok.ensures m

pub returns-in-Err : goal.returns-in-Err
returns-in-Err g c = passes g.L.LineValue.spelled g.L.LineValue.formed c.args.text.now c.in-Err.fault c.passed.result c.in-Err.ensures c.passed.ensures
