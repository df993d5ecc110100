use Rattle.std.proofs.Common.{sym, ◌∙◌, ap}
use Rattle.points.specs.declared.block.Standing.TheVariants.{Stands}
use Rattle.points.specs.Bundles.{setting_of}
use Rattle.jumptables.proofs.FirstTrial.{found-is-table}
use Rattle.jumptables.proofs.Ready.{searchable}
use Rattle.jumptables.proofs.table_of.Goals as goal

pub table-requires : goal.table-requires
table-requires c =
    let a = c.args in
    let link = c.in_ok-link in
    record { searchable = searchable (setting_of a.on.now) c.requires.sound a.at a.jump c.requires.stands c.ranges.at.fits link.link link.ensures.inst link.ensures.mentioned c.in_ok-links.links c.in_ok-links.ensures }

pub returns : goal.returns
returns c =
    let a = c.args in
    let s = setting_of a.on.now in
    let link = c.in_ok-link in
    let links = c.in_ok-links.links in
    let search = searchable s c.requires.sound a.at a.jump c.requires.stands c.ranges.at.fits link.link link.ensures.inst link.ensures.mentioned links c.in_ok-links.ensures in
    record {
      jump = link.link.inst;
      stands = c.requires.stands ∙ ap Stands (sym link.ensures.inst);
      table = found-is-table (record { setting = s; at = a.at; jump = link.link; links = links }) search c.in_ok-targets.targets.items c.in_ok-targets.ensures;
    }
