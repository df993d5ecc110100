use Rattle.std.proofs.Common.{ap, ◌∙◌}
use Rattle.sled_rules.specs.declared.meaning.Token.{Token}
use Rattle.sled_rules.specs.Meanings.{is_given}
use Rattle.sled_rules.proofs.GiveLaws.{giving_fine}
use Rattle.sled_rules.proofs.known.give_fields.Goals as goal

pub give-requires-in-loop-field-clause-fresh : goal.give-requires-in-loop-field-clause-fresh
give-requires-in-loop-field-clause-fresh c =
    let token : Token = record { place = c.len.result; bits = c.args.width } in
    ap (is_given c.loop-field.names) c.as_slice.ensures
    ∙ (giving_fine c.args.names.now c.loop-field.names c.args.token_name.now token c.args.fields.now c.loop-field.field-index c.field-item.result c.loop-field-test.true
    c.field-item.is
    (record {
      given = c.loop-field.invariant.given;
      fresh = c.loop-field.invariant.fresh;
      inside = c.loop-field.invariant.inside;
    })).fresh
