use Rattle.std.proofs.Common.{refl, subst}
use Rattle.command_words.specs.Forms.{text_names}
use Rattle.uqbt_top.specs.Causes.{Around, outcome_of}
use Rattle.uqbt_top.specs.Checking.{CheckRead}
use Rattle.uqbt_top.proofs.Answered.{checked}
use Rattle.uqbt_top.proofs.checking.check_files.Goals as goal

pub returns-clause-caused : goal.returns-clause-caused
returns-clause-caused g c = λ input out.
    let around : Around = record { told = g.F.Store.files c.args.files.now; names = g.F.Store.names c.args.files.now; names' = g.F.Store.names c.read_three.new.files; input = input; input' = input; out = out; out' = out } in
    checked (text_names c.args.names.now) around c.in_ok-texts.texts.items (outcome_of c.check_texts.result) c.in_ok-texts.ensures.small c.in_ok-texts.ensures.read c.in_ok-texts.ensures.kept refl
    (subst (λ ts. CheckRead ts out out (outcome_of c.check_texts.result)) c.as_slice.ensures.value (c.check_texts.ensures.caused out))
