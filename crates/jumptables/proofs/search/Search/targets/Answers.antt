use Rattle.std.proofs.Common.{◌∙◌}
use Rattle.jumptables.specs.Search.{sought, runs}
use Rattle.jumptables.proofs.Targets.{targets-are}
use Rattle.jumptables.proofs.search.Search.targets.Goals as goal

pub returns-clause-targets : goal.returns-clause-targets
returns-clause-targets c =
    let a = c.args in
    targets-are (runs (sought a.self.now) a.start a.cell) a.end c.deref.result.now c.in_ok-targets.targets.items (c.deref.ensures.value ∙ c.in_ok-known.ensures.known) c.in_ok-targets.ensures.only c.in_ok-targets.ensures.whole c.in_ok-targets.ensures.ascend
