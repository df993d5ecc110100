use Rattle.std.proofs.Common.{sym, subst}
use Rattle.rtl_core.specs.SoundTerms.{Fit}
use Rattle.worked_files.proofs.ServiceLaws.{first_fits}
use Rattle.worked_files.proofs.sysemu_tests.perform.Goals as goal

pub serve-requires-clause-conv : goal.serve-requires-clause-conv
serve-requires-clause-conv c =
    let m = c.in_ok-machine.ensures in
    c.in_ok-conv.ensures.fits c.in_ok-machine.machine m.0 m.1 m.2

pub serve-requires-clause-fit : goal.serve-requires-clause-fit
serve-requires-clause-fit c =
    let m = c.in_ok-machine.ensures in
    let a = c.args in
    let r = c.ranges in
    subst (Fit c.in_ok-machine.machine) (sym c.in_ok-cells.ensures)
    (first_fits c.in_ok-machine.machine m.0 m.1 a.number a.x a.y a.z r.number.fits r.x.fits r.y.fits r.z.fits)
