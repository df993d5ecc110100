use Rattle.std.proofs.Common.{subst, sym, ◌+◌, take}
use Rattle.params.specs.Leading.{AreColumns, AreUsers}
use Rattle.params.proofs.Choosing.{columns-next}
use Rattle.params.proofs.columns.columns.Goals as goal

pub loop-places-preserved : goal.loop-places-preserved
loop-places-preserved c =
    let rows = c.args.rows.now in
    let openers = c.args.openers.now in
    let given = c.args.given.now in
    let at = c.loop-places.places-index in
    let column = c.in_ok-users.field-0 in
    subst (AreColumns rows openers (take (at + 1) given)) (sym c.in_ok-push.ensures.items)
    (columns-next rows openers given at c.loop-places.columns.items c.places-item.result column c.loop-places-test.true c.places-item.is c.loop-places.invariant (subst (λ l. AreUsers rows openers l column) c.as_slice.ensures c.in_ok-users.ensures.users))
