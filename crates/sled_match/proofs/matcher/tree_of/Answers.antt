use Rattle.std.proofs.Common.{sym, subst, length, ◌≤◌, IfOk}
use Rattle.sled_match.specs.Pruned.{IsTreeOf, allowed_in}
use Rattle.sled_match.specs.declared.tree.TheConstants.{LEVELS}
use Rattle.sled_match.specs.TreeSizes.{IsSmallTree}
use Rattle.sled_match.specs.Walks.{instructions}
use Rattle.sled_match.proofs.AllowsLaws.{build_scans}
use Rattle.sled_match.proofs.matcher.tree_of.Goals as goal

pub build-requires : goal.build-requires
build-requires c = subst (λ cs. length cs ≤ 4096) (sym c.instructions_of.ensures) c.requires.few

pub returns-clause-scan : goal.returns-clause-scan
returns-clause-scan c =
    build_scans c.args.enc.now c.in_ok-table.table.rows (instructions c.args.enc.now) c.build.result c.requires.ready c.in_ok-table.ensures
    (subst (λ cs. IfOk c.build.result (λ tree. IsTreeOf LEVELS (allowed_in c.in_ok-table.table.rows) tree.nodes tree.root cs)) c.instructions_of.ensures c.build.ensures.tree)

pub returns-clause-small : goal.returns-clause-small
returns-clause-small c = subst (λ cs. IfOk c.build.result (λ tree. IsSmallTree (length cs) tree.nodes)) c.instructions_of.ensures c.build.ensures.small
