use Rattle.std.proofs.Common.{◌++◌, ap, subst}
use Rattle.std.specs.Prelude.{codes}
use Rattle.std.proofs.lemmas.Result.{on_ok_weaker, on_err_weaker}
use Rattle.edge_io.specs.Output.{TookPart}
use Rattle.c_text.specs.Output.{Took}
use Rattle.c_text.specs.Words.{slot_word, label_word}
use Rattle.c_text.proofs.Written.{took_both, part_here, part_then, wrote_word, broke_word, any_err}
use Rattle.c_text.proofs.WordTokens.{label_token}
use Rattle.c_text.proofs.names.put_label.Goals as goal

pub returns-in_err-put_both-clause-broke : goal.returns-in_err-put_both-clause-broke
returns-in_err-put_both-clause-broke g c =
    let p = c.args.point in
    let part = subst (TookPart _ _) (ap (λ h. codes "L_" ++ h) c.hex_of.ensures) c.in_err-put_both.ensures.part in
    any_err _ (broke_word (label_word p) c.args.gap.now c.requires (label_token p) (part_here c.args.gap.now (part_here (slot_word p.slot) part)))

pub returns-in_err-put_slot-clause-broke : goal.returns-in_err-put_slot-clause-broke
returns-in_err-put_slot-clause-broke g c =
    let p = c.args.point in
    let took = subst (Took _ _) (ap (λ h. codes "L_" ++ h) c.hex_of.ensures) c.in_ok-put_both.ensures.took in
    any_err _ (broke_word (label_word p) c.args.gap.now c.requires (label_token p) (part_here c.args.gap.now (part_then took c.in_err-put_slot.ensures.part)))

pub returns-clause-wrote : goal.returns-clause-wrote
returns-clause-wrote g c =
    let p = c.args.point in
    let took = subst (Took _ _) (ap (λ h. codes "L_" ++ h) c.hex_of.ensures) c.in_ok-put_both.ensures.took in
    on_ok_weaker c.put_bytes.result (λ f. wrote_word (label_word p) c.args.gap.now c.requires (label_token p) (took_both (took_both took c.in_ok-put_slot.ensures.took) f)) c.put_bytes.ensures.took

pub returns-clause-broke : goal.returns-clause-broke
returns-clause-broke g c =
    let p = c.args.point in
    let took = subst (Took _ _) (ap (λ h. codes "L_" ++ h) c.hex_of.ensures) c.in_ok-put_both.ensures.took in
    on_err_weaker c.put_bytes.result (λ f. broke_word (label_word p) c.args.gap.now c.requires (label_token p) (part_then (took_both took c.in_ok-put_slot.ensures.took) f)) c.put_bytes.ensures.part
