use Rattle.std.proofs.Common.{◌≡◌, refl}
use Rattle.command_words.specs.Forms.{Check, Translate, file_names, text_names}
use Rattle.command_words.specs.declared.asked.Command.TheVariants as asked
use Rattle.uqbt_top.specs.Causes.{Around, outcome_of}
use Rattle.uqbt_top.proofs.Answered.{caused_by, form_is}
use Rattle.uqbt_top.proofs.ShippingLaws.{text_caused, text_input, text_refusal}
use Rattle.uqbt_top.proofs.top.act.Goals as goal

pub returns-in-Some-Translate-clause-caused : goal.returns-in-Some-Translate-clause-caused
returns-in-Some-Translate-clause-caused g c =
    let names = c.in-Some-Translate.names in
    caused_by c.args.words.now (Translate (file_names names)) c.answered.result (outcome_of c.translate_files.result)
    (form_is c.args.words.now c.form_of.result _ (asked.Translate names) c.form_of.ensures c.in-Some-Translate.is c.in-Some-Translate.field-0-is) refl c.answered.ensures _ (c.translate_files.ensures.caused _)

pub returns-in-Some-Check-clause-caused : goal.returns-in-Some-Check-clause-caused
returns-in-Some-Check-clause-caused g c =
    let names = c.in-Some-Check.names in
    caused_by c.args.words.now (Check (text_names names)) c.answered-in-Some-Check.result (outcome_of c.check_files.result)
    (form_is c.args.words.now c.form_of.result _ (asked.Check names) c.form_of.ensures c.in-Some-Check.is c.in-Some-Check.field-0-is) refl c.answered-in-Some-Check.ensures _ (c.check_files.ensures.caused _ _)

pub returns-in-Some-Text-clause-caused : goal.returns-in-Some-Text-clause-caused
returns-in-Some-Text-clause-caused g c =
    let around : Around = record { told = g.F.Store.files c.args.files.now; names = g.F.Store.names c.args.files.now; names' = g.F.Store.names c.args.files.now; input = g.S.Source.input c.args.input.now; input' = g.S.Source.input c.args.input.now; out = g.K.Sink.output c.args.out.now; out' = g.K.Sink.output c.put_text.new.out } in
    let form = form_is c.args.words.now c.form_of.result _ (asked.Text c.in-Some-Text.name) c.form_of.ensures c.in-Some-Text.is c.in-Some-Text.field-0-is in
    text_caused c.args.words.now c.in-Some-Text.name.now around c.put_text.result form c.put_text.ensures.put refl refl

pub returns-in-Some-Text-clause-refusal : goal.returns-in-Some-Text-clause-refusal
returns-in-Some-Text-clause-refusal g c =
    let around : Around = record { told = g.F.Store.files c.args.files.now; names = g.F.Store.names c.args.files.now; names' = g.F.Store.names c.args.files.now; input = g.S.Source.input c.args.input.now; input' = g.S.Source.input c.args.input.now; out = g.K.Sink.output c.args.out.now; out' = g.K.Sink.output c.put_text.new.out } in
    let form = form_is c.args.words.now c.form_of.result _ (asked.Text c.in-Some-Text.name) c.form_of.ensures c.in-Some-Text.is c.in-Some-Text.field-0-is in
    text_refusal c.args.words.now c.in-Some-Text.name.now around c.put_text.result form (c.put_text.new.out ≡ c.args.out.now) c.put_text.ensures.put c.put_text.ensures.refusal

pub returns-in-Some-Text-clause-input : goal.returns-in-Some-Text-clause-input
returns-in-Some-Text-clause-input g c =
    let around : Around = record { told = g.F.Store.files c.args.files.now; names = g.F.Store.names c.args.files.now; names' = g.F.Store.names c.args.files.now; input = g.S.Source.input c.args.input.now; input' = g.S.Source.input c.args.input.now; out = g.K.Sink.output c.args.out.now; out' = g.K.Sink.output c.put_text.new.out } in
    let form = form_is c.args.words.now c.form_of.result _ (asked.Text c.in-Some-Text.name) c.form_of.ensures c.in-Some-Text.is c.in-Some-Text.field-0-is in
    text_input c.args.words.now c.in-Some-Text.name.now around c.put_text.result form (c.args.input.now ≡ c.args.input.now) refl
