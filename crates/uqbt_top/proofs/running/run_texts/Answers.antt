use Rattle.std.proofs.Common.{◌∙◌}
use Rattle.std.proofs.lemmas.Result.{err_from_is_err_and}
use Rattle.uqbt_top.specs.Built.{Descriptions}
use Rattle.uqbt_top.specs.Running.{outcome_of_run}
use Rattle.uqbt_top.proofs.BuiltLaws.{four_texts}
use Rattle.uqbt_top.proofs.RunLaws.{run_refused, exe_refused, loaded_ran}
use Rattle.uqbt_top.proofs.running.run_texts.Goals as goal

pub returns-in_err-on-clause-caused : goal.returns-in_err-on-clause-caused
returns-in_err-on-clause-caused g c =
    let p = err_from_is_err_and c.from_residual.result c.from_residual.ensures.1 in
    let t : Descriptions = record { sled = c.bytes.result.now; ssl = c.bytes-2.result.now; conv = c.bytes-3.result.now } in
    rw (p.1, p.2) (record {
      texts = t;
      exe = c.exe-item.result;
      whole = four_texts c.args.texts.now c.bytes.result.now c.bytes-2.result.now c.bytes-3.result.now c.exe-item.result _ _ _ _ c.requires.four (c.bytes.ensures ∙ c.sled-item.is) (c.bytes-2.ensures ∙ c.ssl-item.is) (c.bytes-3.ensures ∙ c.conv-item.is) c.exe-item.is;
      did = run_refused t c.exe-item.result c.args.steps (g.S.Source.input c.args.input.now) (g.K.Sink.output c.args.out.now) c.in_err-on.field-0.0 c.in_err-on.ensures.refused;
    })

pub returns-in_err-image-clause-caused : goal.returns-in_err-image-clause-caused
returns-in_err-image-clause-caused g c =
    let p = err_from_is_err_and c.from_residual-in_err-image.result c.from_residual-in_err-image.ensures.1 in
    let t : Descriptions = record { sled = c.bytes.result.now; ssl = c.bytes-2.result.now; conv = c.bytes-3.result.now } in
    rw (p.1, p.2) (record {
      texts = t;
      exe = c.bytes-4.result.now;
      whole = four_texts c.args.texts.now c.bytes.result.now c.bytes-2.result.now c.bytes-3.result.now c.bytes-4.result.now _ _ _ _ c.requires.four (c.bytes.ensures ∙ c.sled-item.is) (c.bytes-2.ensures ∙ c.ssl-item.is) (c.bytes-3.ensures ∙ c.conv-item.is) (c.bytes-4.ensures ∙ c.exe-item.is);
      did = exe_refused t c.bytes-4.result.now c.in_ok-on.on c.args.steps (g.S.Source.input c.args.input.now) (g.K.Sink.output c.args.out.now) c.in_err-image.field-0.0 c.in_ok-on.ensures.described c.in_err-image.ensures.refused;
    })

pub returns-clause-caused : goal.returns-clause-caused
returns-clause-caused g c =
    let t : Descriptions = record { sled = c.bytes.result.now; ssl = c.bytes-2.result.now; conv = c.bytes-3.result.now } in
    record {
      texts = t;
      exe = c.bytes-4.result.now;
      whole = four_texts c.args.texts.now c.bytes.result.now c.bytes-2.result.now c.bytes-3.result.now c.bytes-4.result.now _ _ _ _ c.requires.four (c.bytes.ensures ∙ c.sled-item.is) (c.bytes-2.ensures ∙ c.ssl-item.is) (c.bytes-3.ensures ∙ c.conv-item.is) (c.bytes-4.ensures ∙ c.exe-item.is);
      did = loaded_ran t c.bytes-4.result.now c.in_ok-on.on c.in_ok-image.image c.args.steps (g.S.Source.input c.args.input.now) (g.S.Source.input c.run_image.new.input) (g.K.Sink.output c.args.out.now) (g.K.Sink.output c.run_image.new.out)
          c.in_ok-on.ensures.described c.in_ok-image.ensures.image (outcome_of_run c.run_image.result) c.run_image.ensures.did;
    }
