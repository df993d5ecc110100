use Rattle.c_program.proofs.Owns.{shows-here, all-ready}
use Rattle.c_program.proofs.program.push_function.Goals as goal

pub function-requires : goal.function-requires
function-requires g c =
    let on = c.args.on.now in
    let h = c.requires in
    (shows-here g.plan on c.args.own h.0 h.1.0, (all-ready g.plan on c.args.own c.args.nodes.now h.1.1.0, (h.1.1.1.0, h.1.1.1.1)))
