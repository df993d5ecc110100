use Rattle.std.proofs.Common.{◌≡◌, ◌∙◌, ◌<◌, ◌++◌, ◌∷◌, [], ap, subst, length, get_or}
use Rattle.params.proofs.Choosing.{listed-next}
use Rattle.params.proofs.listing.listed.Goals as goal

pub loop-place-preserved : goal.loop-place-preserved
loop-place-preserved c =
    let ps = c.args.graph.now.procs in
    let at = c.loop-place.place in
    let p = c.proc-item.result in
    let e = c.as_slice-proc-items.ensures in
    c.in_ok-push.ensures.ok
    ∙ ap (λ l. l ++ (record { entry = p.entry; refs = c.in_ok-marked_cells.field-0; mods = c.in_ok-marked_cells-2.field-0 }) ∷ []) c.loop-place.invariant
    ∙ listed-next c.args.reads.now c.args.writes.now c.args.machine.now.zero ps at p c.in_ok-marked_cells.field-0 c.in_ok-marked_cells-2.field-0
    (subst (λ l. at < length l) e c.loop-place-test.true) (subst (λ l. p ≡ get_or l at p) e c.proc-item.is) c.in_ok-marked_cells.ensures c.in_ok-marked_cells-2.ensures
