use Rattle.std.proofs.Common.{◌<◌, length, arith}
use Rattle.sled_syntax.proofs.FieldLoops.{put_more_fields}
use Rattle.sled_syntax.proofs.spelling.put_fields.Goals as goal

pub loop-field-preserved : goal.loop-field-preserved
loop-field-preserved c =
    let within : c.loop-field.field-index < length c.args.fields.now = omega arith in
    put_more_fields c.args.out.now c.loop-field.out c.put_field.new.out c.args.fields.now c.loop-field.field-index c.field-item.result within c.field-item.is c.loop-field.invariant c.in_ok-put_field.ensures
