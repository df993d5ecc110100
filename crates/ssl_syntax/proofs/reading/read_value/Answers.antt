use Rattle.std.proofs.Common.{refl}
use Rattle.ssl_syntax.proofs.LineLaws.{value_read}
use Rattle.ssl_syntax.proofs.reading.read_value.Goals as goal

pub returns-in-Ok : goal.returns-in-Ok
returns-in-Ok c =
    value_read c.args.line.now c.as_slice.result.now c.in-Ok.body c.read_line_only.new.cursor.rest.now (record { number = c.args.line.now.number; body = c.in-Ok.body }) c.as_slice.ensures c.in-Ok.ensures refl
