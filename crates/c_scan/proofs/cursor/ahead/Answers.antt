use Rattle.c_scan.proofs.Steps.{ahead_found, ahead_none}
use Rattle.c_scan.proofs.cursor.ahead.Goals as goal

pub returns-in-Ok : goal.returns-in-Ok
returns-in-Ok c = ahead_found c.args.text.now c.args.from c.in-Ok.end c.in-Ok.found c.requires.lexed c.in-Ok.ensures

pub returns-in-Err : goal.returns-in-Err
returns-in-Err c = ahead_none c.args.text.now c.args.from c.in-Err.field-0 c.requires.lexed c.in-Err.ensures
