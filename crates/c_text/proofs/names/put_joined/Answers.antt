use Rattle.std.proofs.Common.{◌++◌}
use Rattle.std.proofs.lemmas.Result.{on_ok_weaker, on_err_weaker}
use Rattle.c_text.proofs.Written.{took_both, part_here, part_then, wrote_word, broke_word, any_err}
use Rattle.c_text.proofs.WordTokens.{joined_token}
use Rattle.c_text.proofs.names.put_joined.Goals as goal

pub returns-in_err-put_both-clause-broke : goal.returns-in_err-put_both-clause-broke
returns-in_err-put_both-clause-broke g c =
    let v = c.args.front.now in
    let w = c.args.back.now in
    any_err _ (broke_word (v ++ w) c.args.gap.now c.requires.gap (joined_token v w c.requires.front c.requires.back) (part_here c.args.gap.now c.in_err-put_both.ensures.part))

pub returns-clause-wrote : goal.returns-clause-wrote
returns-clause-wrote g c =
    let v = c.args.front.now in
    let w = c.args.back.now in
    on_ok_weaker c.put_bytes.result (λ f. wrote_word (v ++ w) c.args.gap.now c.requires.gap (joined_token v w c.requires.front c.requires.back) (took_both c.in_ok-put_both.ensures.took f)) c.put_bytes.ensures.took

pub returns-clause-broke : goal.returns-clause-broke
returns-clause-broke g c =
    let v = c.args.front.now in
    let w = c.args.back.now in
    on_err_weaker c.put_bytes.result (λ f. broke_word (v ++ w) c.args.gap.now c.requires.gap (joined_token v w c.requires.front c.requires.back) (part_then c.in_ok-put_both.ensures.took f)) c.put_bytes.ensures.part
