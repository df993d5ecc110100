use Rattle.std.proofs.Common.{◌+◌, ◌<◌, ◌^◌, arith, rules}
use Rattle.page_pool.proofs.Counts.{changed_kept, given_kept, given_room}
use Rattle.page_pool.proofs.free_list.leave.Goals as goal

pub returns-then-holders-n-gt1-clause-listed : goal.returns-then-holders-n-gt1-clause-listed
returns-then-holders-n-gt1-clause-listed c =
    let h = c.requires.held in
    let t = c.if-holders-n-gt1.true in
    changed_kept _ _ _ _ _ c.requires.listed c.requires.within (λ e. absurd (omega (arith, e, h))) (λ e. absurd (omega (arith, e, t)))

pub bounds-free-spare : goal.bounds-free-spare
bounds-free-spare c = let h = c.requires.held in given_room _ _ _ _ c.requires.listed c.requires.within (λ e. absurd (omega (arith, e, h)))

pub overflow_add-result : goal.overflow_add-result
overflow_add-result c =
    let h = c.requires.held in
    let k = given_room _ _ _ _ c.requires.listed c.requires.within (λ e. absurd (omega (arith, e, h))) in
    let r = c.requires.listed.room in
    let f = c.requires.few in
    let fits : c.args.spare + 1 < 2 ^ 32 = omega (arith, k, r, f) in
    search rules

pub returns-clause-listed : goal.returns-clause-listed
returns-clause-listed c = let h = c.requires.held in given_kept _ _ _ _ c.requires.listed c.requires.within (λ e. absurd (omega (arith, e, h)))
