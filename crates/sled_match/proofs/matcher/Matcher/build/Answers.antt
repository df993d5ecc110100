use Rattle.std.proofs.Common.{sym, subst, length, ◌≤◌}
use Rattle.sled_match.specs.Ready.{AreReady}
use Rattle.sled_match.specs.Walks.{instructions}
use Rattle.sled_match.proofs.Readiness.{AreReady-sound}
use Rattle.sled_match.proofs.TreeBounds.{instructions-few}
use Rattle.sled_match.proofs.matcher.Matcher.build.Goals as goal

pub tree_of-requires-clause-ready : goal.tree_of-requires-clause-ready
tree_of-requires-clause-ready c = subst AreReady (sym c.in_ok-enc.ensures) (AreReady-sound c.args.enc.now c.requires)

pub tree_of-requires-clause-few : goal.tree_of-requires-clause-few
tree_of-requires-clause-few c = subst (λ enc. length (instructions enc) ≤ 4096) (sym c.in_ok-enc.ensures) (instructions-few c.args.enc.now c.requires)

pub invariant_of-result : goal.invariant_of-result
invariant_of-result c = (
  subst AreReady (sym c.in_ok-enc.ensures) (AreReady-sound c.args.enc.now c.requires),
  (
    c.in_ok-tree.ensures.scan,
    (
      c.in_ok-tree.ensures.small,
      subst (λ enc. length (instructions enc) ≤ 4096) (sym c.in_ok-enc.ensures) (instructions-few c.args.enc.now c.requires),
    ),
  ),
)
