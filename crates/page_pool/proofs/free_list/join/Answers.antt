use Rattle.std.proofs.Common.{arith}
use Rattle.page_pool.proofs.Counts.{changed_kept}
use Rattle.page_pool.proofs.free_list.join.Goals as goal

pub returns-clause-listed : goal.returns-clause-listed
returns-clause-listed c =
    let h = c.requires.held in
    changed_kept _ _ _ _ _ c.requires.listed c.requires.within (λ e. absurd (omega (arith, e, h))) (λ e. absurd (omega (arith, e)))
