use Rattle.std.proofs.Common.{◌≡◌, ◌<◌, ◌^◌, ℕ, Bool, arith, ap, sym, ◌∙◌}
use Rattle.points.specs.Bundles.{setting_of}
use Rattle.points.specs.Flows.{is_computed}
use Rattle.program_graph.proofs.Carried.{no-table, table-is}
use Rattle.program_graph.proofs.described.DescribedProgram.table.Goals as goal

pub returns-then-not-jumps_computed : goal.returns-then-not-jumps_computed
returns-then-not-jumps_computed c =
    c.new.ensures
    ∙ sym (no-table (setting_of c.args.self.now.on) c.args.at (ap is_computed (sym c.in_ok-block.ensures) ∙ sym c.jumps_computed.ensures ∙ c.if-not-jumps_computed.true))

pub returns : goal.returns
returns c =
    let lt : c.args.at < 2 ^ 32 = omega (arith, c.ranges.at.fits) in
    c.from_vec.ensures
    ∙ table-is (setting_of c.args.self.now.on) c.args.at c.in_ok-targets.targets.items lt (ap is_computed (sym c.in_ok-block.ensures) ∙ sym c.jumps_computed.ensures ∙ c.if-not-jumps_computed.false) c.in_ok-targets.ensures
