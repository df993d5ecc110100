use Rattle.std.proofs.Common.{sym, ap, ◌∙◌}
use Rattle.std.specs.Prelude.{Err}
use Rattle.space.specs.Ranges.{memory_of}
use Rattle.space.specs.Accesses.{store_answer}
use Rattle.space.proofs.Traps.{answered, store_plain}
use Rattle.space.proofs.space.Space.store.Goals as goal

pub returns-in-Ok : goal.returns-in-Ok
returns-in-Ok c =
    let m = memory_of c.args.self.now in
    ap (λ a. store_answer m c.args.order c.args.bytes a c.args.v) (sym c.from.ensures)
    ∙ sym (store_plain c.args.order m c.args.bytes c.from.result c.args.v)
    ∙ ap answered c.in-Ok.ensures.done

pub returns-in-Err : goal.returns-in-Err
returns-in-Err c =
    let m = memory_of c.args.self.now in (
      ap (λ a. store_answer m c.args.order c.args.bytes a c.args.v) (sym c.from.ensures)
          ∙ sym (store_plain c.args.order m c.args.bytes c.from.result c.args.v)
          ∙ ap answered c.in-Err.ensures.done.0
          ∙ sym (ap Err c.fault_of.ensures),
      c.in-Err.ensures.done.1,
    )
