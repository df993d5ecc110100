use Rattle.std.proofs.Common.{sym, ◌∙◌, ap}
use Rattle.std.specs.List.{list_any}
use Rattle.rtl_core.specs.SoundTerms.{is_jump}
use Rattle.points.specs.Bundles.{setting_of}
use Rattle.points.specs.Courses.{does_always}
use Rattle.jumptables.proofs.Ready.{found-stands, may-stand}
use Rattle.jumptables.proofs.links.find_link.Goals as goal

pub returns : goal.returns
returns c =
    let a = c.args in
    let s = setting_of a.on.now in
    let inst = c.in-Some.inst in
    let stands = found-stands s a.pc inst (sym c.in_ok-inst.ensures ∙ c.in-Some.is) in
    let stays = sym (c.jumps_always.ensures ∙ ap (list_any (does_always is_jump)) c.as_slice.ensures) ∙ c.if-jumps_always.false in
    may-stand s c.requires a.pc inst stands c.ranges.pc.fits c.in_ok-link.link c.in_ok-link.ensures.inst c.in_ok-link.ensures.mentioned a.at c.if-pc-at.false c.if-inst-pc.false stays
