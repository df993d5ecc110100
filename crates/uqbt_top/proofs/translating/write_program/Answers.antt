use Rattle.std.proofs.Common.{◌∙◌}
use Rattle.std.proofs.lemmas.Result.{err_from_is_err_and}
use Rattle.uqbt_top.proofs.BuiltLaws.{four_texts, translate_refused}
use Rattle.uqbt_top.proofs.translating.write_program.Goals as goal

pub returns-in_err-program-clause-caused : goal.returns-in_err-program-clause-caused
returns-in_err-program-clause-caused g c =
    let p = err_from_is_err_and c.from_residual.result c.from_residual.ensures.1 in
    let is = four_texts c.args.texts.now c.bytes.result.now c.bytes-2.result.now c.bytes-3.result.now c.bytes-4.result.now _ _ _ _ c.requires.four (c.bytes.ensures ∙ c.sled-item.is) (c.bytes-2.ensures ∙ c.ssl-item.is) (c.bytes-3.ensures ∙ c.conv-item.is) (c.bytes-4.ensures ∙ c.exe-item.is) in
    rw (p.1, p.2) (translate_refused c.args.texts.now (record { sled = c.bytes.result.now; ssl = c.bytes-2.result.now; conv = c.bytes-3.result.now }) c.bytes-4.result.now c.in_err-program.field-0.0 (g.K.Sink.output c.args.out.now) is c.in_err-program.ensures.refused)

pub returns-in_err-text-clause-caused : goal.returns-in_err-text-clause-caused
returns-in_err-text-clause-caused g c =
    let p = err_from_is_err_and c.from_residual-in_err-text.result c.from_residual-in_err-text.ensures.1 in
    let is = four_texts c.args.texts.now c.bytes.result.now c.bytes-2.result.now c.bytes-3.result.now c.bytes-4.result.now _ _ _ _ c.requires.four (c.bytes.ensures ∙ c.sled-item.is) (c.bytes-2.ensures ∙ c.ssl-item.is) (c.bytes-3.ensures ∙ c.conv-item.is) (c.bytes-4.ensures ∙ c.exe-item.is) in
    rw (p.1, p.2, c.in_err-text.ensures.no_memory) (record {
      texts = record { sled = c.bytes.result.now; ssl = c.bytes-2.result.now; conv = c.bytes-3.result.now };
      exe = c.bytes-4.result.now;
      whole = is;
      did = tt;
    })

pub returns-in-Ok-clause-caused : goal.returns-in-Ok-clause-caused
returns-in-Ok-clause-caused g c =
    let is = four_texts c.args.texts.now c.bytes.result.now c.bytes-2.result.now c.bytes-3.result.now c.bytes-4.result.now _ _ _ _ c.requires.four (c.bytes.ensures ∙ c.sled-item.is) (c.bytes-2.ensures ∙ c.ssl-item.is) (c.bytes-3.ensures ∙ c.conv-item.is) (c.bytes-4.ensures ∙ c.exe-item.is) in
    record {
      texts = record { sled = c.bytes.result.now; ssl = c.bytes-2.result.now; conv = c.bytes-3.result.now };
      exe = c.bytes-4.result.now;
      whole = is;
      did = record {
        program = c.in_ok-program.program;
        of = c.in_ok-program.ensures.program;
        took = record {
          text = c.in_ok-text.text.bytes;
          spells = c.in_ok-text.ensures.text;
          took = record { later = c.in-Ok.ensures.front.later; taken = c.in-Ok.ensures.whole };
        };
      };
    }

pub returns-clause-caused : goal.returns-clause-caused
returns-clause-caused g c =
    let is = four_texts c.args.texts.now c.bytes.result.now c.bytes-2.result.now c.bytes-3.result.now c.bytes-4.result.now _ _ _ _ c.requires.four (c.bytes.ensures ∙ c.sled-item.is) (c.bytes-2.ensures ∙ c.ssl-item.is) (c.bytes-3.ensures ∙ c.conv-item.is) (c.bytes-4.ensures ∙ c.exe-item.is) in
    record {
      texts = record { sled = c.bytes.result.now; ssl = c.bytes-2.result.now; conv = c.bytes-3.result.now };
      exe = c.bytes-4.result.now;
      whole = is;
      did = record {
        program = c.in_ok-program.program;
        of = c.in_ok-program.ensures.program;
        took = record {
          text = c.in_ok-text.text.bytes;
          spells = c.in_ok-text.ensures.text;
          part = c.in-Err.ensures.part;
        };
      };
    }
