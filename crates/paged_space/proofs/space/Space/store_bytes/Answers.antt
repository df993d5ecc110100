use Rattle.std.proofs.Common.{◌≡◌, sym, ap, ◌∙◌, rules}
use Rattle.std.specs.Prelude.{Ok, Err}
use Rattle.paged_space.specs.PageTable.{contents_of}
use Rattle.paged_space.specs.Accesses.{store_answer}
use Rattle.paged_space.proofs.Traps.{answered, store_plain}
use Rattle.paged_space.proofs.space.Space.store_bytes.Goals as goal

pub returns-in-Ok-clause-done : goal.returns-in-Ok-clause-done
returns-in-Ok-clause-done c =
    let m = contents_of c.args.self.now c.args.pool.now in
    let e : store_answer m c.args.order c.args.bytes c.args.a c.args.v ≡ Ok (contents_of c.store.new.mem.space.now c.store.new.mem.pool.now) =
    ap (λ a. store_answer m c.args.order c.args.bytes a c.args.v) (sym c.from.ensures)
    ∙ sym (store_plain c.args.order m c.args.bytes c.from.result c.args.v)
    ∙ ap answered c.in-Ok.ensures.done in
    search rules

pub returns-in-Err-clause-done : goal.returns-in-Err-clause-done
returns-in-Err-clause-done c =
    let m = contents_of c.args.self.now c.args.pool.now in
    let e : store_answer m c.args.order c.args.bytes c.args.a c.args.v ≡ Err c.fault_of.result =
    ap (λ a. store_answer m c.args.order c.args.bytes a c.args.v) (sym c.from.ensures)
    ∙ sym (store_plain c.args.order m c.args.bytes c.from.result c.args.v)
    ∙ ap answered c.in-Err.ensures.done.0
    ∙ sym (ap Err c.fault_of.ensures) in
    let k : contents_of c.store.new.mem.space.now c.store.new.mem.pool.now ≡ m = c.in-Err.ensures.done.1 in
    search rules
