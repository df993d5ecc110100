use Rattle.std.proofs.Common.{ap, ◌∙◌}
use Rattle.std.specs.Prelude.{Err}
use Rattle.space.specs.Ranges.{memory_of}
use Rattle.space.specs.Accesses.{load_answer}
use Rattle.space.proofs.Traps.{answered, load_plain}
use Rattle.space.proofs.space.Space.load.Goals as goal

pub returns-in-Ok : goal.returns-in-Ok
returns-in-Ok c =
    ap answered c.in-Ok.ensures
    ∙ load_plain c.args.order (memory_of c.args.self.now) c.args.bytes c.from.result
    ∙ ap (load_answer (memory_of c.args.self.now) c.args.order c.args.bytes) c.from.ensures

pub returns-in-Err : goal.returns-in-Err
returns-in-Err c =
    ap Err c.fault_of.ensures
    ∙ ap answered c.in-Err.ensures
    ∙ load_plain c.args.order (memory_of c.args.self.now) c.args.bytes c.from.result
    ∙ ap (load_answer (memory_of c.args.self.now) c.args.order c.args.bytes) c.from.ensures
