use Rattle.std.proofs.Common.{arith}
use Rattle.page_pool.proofs.Counts.{changed_kept}
use Rattle.page_pool.proofs.free_list.part.Goals as goal

pub lend-requires-clause-listed : goal.lend-requires-clause-listed
lend-requires-clause-listed c =
    let h = c.requires.shared in
    changed_kept _ _ _ _ _ c.requires.listed c.requires.within (λ e. absurd (omega (arith, e, h))) (λ e. absurd (omega (arith, e, h)))
