use Rattle.std.proofs.Common.{◌++◌}
use Rattle.params.proofs.Searching.{begun, users-are}
use Rattle.params.proofs.search.users.Goals as goal

pub returns-clause-count : goal.returns-clause-count
returns-clause-count c =
    let s = begun c.args.rows.now c.args.openers.now c.args.given.now _ _ _ _ _ _ c.in_ok-no_marks.ensures c.new.ensures c.in_ok-put_all.ensures c.in_ok-put_all-2.ensures in
    (c.in_ok-go_on.ensures (c.args.given.now ++ c.args.openers.now) s).count

pub returns-clause-users : goal.returns-clause-users
returns-clause-users c =
    let s = begun c.args.rows.now c.args.openers.now c.args.given.now _ _ _ _ _ _ c.in_ok-no_marks.ensures c.new.ensures c.in_ok-put_all.ensures c.in_ok-put_all-2.ensures in
    let o = c.in_ok-go_on.ensures (c.args.given.now ++ c.args.openers.now) s in
    users-are c.args.rows.now c.args.openers.now c.args.given.now c.go_on.new.self.marks c.if-is_empty.ensures o
