use Rattle.std.proofs.Common.{◌-◌, List, sym, ◌∙◌, ap}
use Rattle.rtl_core.specs.declared.inst.GroundInst.{GroundInst}
use Rattle.points.specs.Bundles.{setting_of}
use Rattle.points.specs.PartialRuns.{all_partly_done}
use Rattle.points.specs.Tables.{most_before}
use Rattle.jumptables.specs.Runs.{state}
use Rattle.jumptables.proofs.Ways.{walked-none}
use Rattle.jumptables.proofs.search.Search.lead_up.Goals as goal

pub returns-in_default-clause-leads : goal.returns-in_default-clause-leads
returns-in_default-clause-leads c =
    let s = c.args.self.now in
    let none = walked-none s.links s.at (most_before - c.loop-k.k) c.loop-k.pc c.in_default.ensures.none in
    sym (ap (λ (is : List GroundInst). all_partly_done (setting_of s.on) is (state c.loop-k.run)) none) ∙ c.loop-k.invariant.left
