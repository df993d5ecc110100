use Rattle.std.proofs.Common.{refl}
use Rattle.sled_syntax.proofs.Values.{value_read}
use Rattle.sled_syntax.proofs.reading.read_value.Goals as goal

pub returns-in-Ok : goal.returns-in-Ok
returns-in-Ok c =
    value_read c.args.line.now c.as_slice.result.now c.in-Ok.body c.read_line.new.cursor.rest.now (record { number = c.args.line.now.number; body = c.in-Ok.body }) c.as_slice.ensures c.in-Ok.ensures refl
