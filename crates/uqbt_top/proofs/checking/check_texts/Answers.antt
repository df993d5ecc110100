use Rattle.std.proofs.Common.{refl, ◌∙◌}
use Rattle.std.proofs.lemmas.Result.{err_from_is_err_and}
use Rattle.uqbt_top.proofs.BuiltLaws.{three_texts, check_refused}
use Rattle.uqbt_top.proofs.checking.check_texts.Goals as goal

pub returns-in_err-described : goal.returns-in_err-described
returns-in_err-described c =
    let p = err_from_is_err_and c.from_residual.result c.from_residual.ensures.1 in
    let is = three_texts c.args.texts.now c.bytes.result.now c.bytes-2.result.now c.bytes-3.result.now _ _ _ c.requires.three (c.bytes.ensures ∙ c.sled-item.is) (c.bytes-2.ensures ∙ c.ssl-item.is) (c.bytes-3.ensures ∙ c.conv-item.is) in
    record { caused = rw (p.1, p.2) (check_refused c.args.texts.now (record { sled = c.bytes.result.now; ssl = c.bytes-2.result.now; conv = c.bytes-3.result.now }) c.in_err-described.field-0.0 is c.in_err-described.ensures.refused) }

pub returns : goal.returns
returns c =
    let is = three_texts c.args.texts.now c.bytes.result.now c.bytes-2.result.now c.bytes-3.result.now _ _ _ c.requires.three (c.bytes.ensures ∙ c.sled-item.is) (c.bytes-2.ensures ∙ c.ssl-item.is) (c.bytes-3.ensures ∙ c.conv-item.is) in
    record {
      caused = λ out. record {
        texts = record { sled = c.bytes.result.now; ssl = c.bytes-2.result.now; conv = c.bytes-3.result.now };
        whole = is;
        did = record { described = c.in_ok-described.field-0; of = c.in_ok-described.ensures.described };
        kept = refl;
      };
    }
