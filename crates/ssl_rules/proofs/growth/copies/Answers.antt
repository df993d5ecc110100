use Rattle.std.proofs.Common.{[], ◌∷◌, ◌++◌, ap, ◌∙◌}
use Rattle.ssl_rules.proofs.GrowthLemmas.{replicate-more}
use Rattle.ssl_rules.proofs.growth.copies.Goals as goal

pub loop-k-preserved : goal.loop-k-preserved
loop-k-preserved c = c.in_ok-push.ensures.ok ∙ ap (λ l. l ++ c.args.width ∷ []) c.loop-k.invariant ∙ replicate-more c.loop-k._k c.args.width
