use Rattle.std.proofs.Common.{◌+◌, ◌*◌, ◌≤◌, length, subst, arith}
use Rattle.std.proofs.lemmas.List.Sums.{count_by-le-length}
use Rattle.sled_match.specs.TreeSizes.{is_leaf, IsSizeOf}
use Rattle.sled_match.specs.Walks.{instructions}
use Rattle.sled_match.proofs.matcher.Matcher.tree_size.Goals as goal

pub measured-requires-clause-few : goal.measured-requires-clause-few
measured-requires-clause-few c = omega (arith, c.self.invariant.1.1.0.few, c.self.invariant.1.1.1)

pub measured-requires-clause-short : goal.measured-requires-clause-short
measured-requires-clause-short c = omega (arith, c.self.invariant.1.1.0.listed, c.self.invariant.1.1.1)

pub returns-clause-exact : goal.returns-clause-exact
returns-clause-exact c = subst (λ enc. IsSizeOf enc c.measured.result) c.self.view_is
    (record {
      nodes = c.self.inside.tree.nodes;
      root = c.self.inside.tree.root;
      scan = c.self.invariant.1.0;
      inner = c.measured.ensures.inner;
      leaves = c.measured.ensures.leaves;
      most = c.measured.ensures.longest;
    })

pub returns-clause-inner : goal.returns-clause-inner
returns-clause-inner c = subst (λ enc. 5 * c.measured.result.inner ≤ 7 * length (instructions enc)) c.self.view_is
    (omega (arith, c.measured.ensures.inner, c.self.invariant.1.1.0.inner))

pub returns-clause-leaves : goal.returns-clause-leaves
returns-clause-leaves c = subst (λ enc. c.measured.result.leaves ≤ 1 + 7 * length (instructions enc)) c.self.view_is
    (omega (arith, c.measured.ensures.leaves, count_by-le-length is_leaf c.self.inside.tree.nodes, c.self.invariant.1.1.0.few))
