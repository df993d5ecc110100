use Rattle.std.proofs.Common.{subst}
use Rattle.paged_space.specs.PageTable.{PageTable}
use Rattle.paged_space.specs.Twinned.{IsGivenBack}
use Rattle.paged_space.proofs.Answered.{given_back}
use Rattle.paged_space.proofs.space.Space.give_back.Goals as goal

pub returns : goal.returns
returns c = subst (λ (t : PageTable). IsGivenBack t c.args.pool.now c.give_frames.new.pool) c.self.view_is (given_back _ _ _ c.give_frames.ensures)
