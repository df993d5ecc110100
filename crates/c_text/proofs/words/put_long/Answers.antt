use Rattle.std.proofs.Common.{arith, ◌++◌}
use Rattle.std.specs.Fmt.{decimal}
use Rattle.std.specs.Prelude.{codes}
use Rattle.std.proofs.lemmas.Result.{on_ok_weaker, on_err_weaker}
use Rattle.c_text.proofs.Written.{took_both, part_here, part_then, wrote_word, broke_word, any_err}
use Rattle.c_text.proofs.WordTokens.{long_token}
use Rattle.c_text.proofs.words.put_long.Goals as goal

pub returns-in_err-put_decimal-clause-broke : goal.returns-in_err-put_decimal-clause-broke
returns-in_err-put_decimal-clause-broke g c =
    let n = c.args.number in
    any_err _ (broke_word (decimal n ++ codes "ull") c.args.gap.now c.requires (long_token n (omega arith)) (part_here c.args.gap.now c.in_err-put_decimal.ensures.part))

pub returns-clause-wrote : goal.returns-clause-wrote
returns-clause-wrote g c =
    let n = c.args.number in
    on_ok_weaker c.put_bytes.result (λ f. wrote_word (decimal n ++ codes "ull") c.args.gap.now c.requires (long_token n (omega arith)) (took_both c.in_ok-put_decimal.ensures.took f)) c.put_bytes.ensures.took

pub returns-clause-broke : goal.returns-clause-broke
returns-clause-broke g c =
    let n = c.args.number in
    on_err_weaker c.put_bytes.result (λ f. broke_word (decimal n ++ codes "ull") c.args.gap.now c.requires (long_token n (omega arith)) (part_then c.in_ok-put_decimal.ensures.took f)) c.put_bytes.ensures.part
