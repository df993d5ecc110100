use Rattle.std.proofs.Common.{sym, ◌∙◌}
use Rattle.std.proofs.lemmas.Result.{err_from_is_err_and}
use Rattle.sled_syntax.proofs.FieldLoops.{fields_stop, fields_end, field_falls}
use Rattle.sled_syntax.proofs.lines.read_fields.Goals as goal

pub returns-in_err-field : goal.returns-in_err-field
returns-in_err-field c =
    let p = err_from_is_err_and c.from_residual.result c.from_residual.ensures.1 in
    rw (p.1, p.2) (fields_stop c.args.cursor.now.rest.now c.more.fields c.more.cursor.rest.now c.in_err-field.field-0.0 c.read_field.new.cursor.rest.now c.read_field.new.cursor.rest.now c.more.invariant (sym c.is_empty.ensures ∙ c.more-test.true) c.in_err-field.ensures)

pub more-smaller : goal.more-smaller
more-smaller c = field_falls c.more.cursor.rest.now c.read_field.new.cursor.rest.now c.in_ok-field.field c.in_ok-field.ensures

pub returns : goal.returns
returns c = fields_end c.args.cursor.now.rest.now c.more.fields c.more.cursor.rest.now c.more.invariant (sym c.is_empty.ensures ∙ c.more-test.false)
