use Rattle.std.proofs.Common.{◌^◌, ◌<◌, ◌∙◌, ap, sym, subst}
use Rattle.std.specs.Option.{IfSome}
use Rattle.rtl_core.specs.Terms.{term_of, width_of}
use Rattle.points.specs.PartialRuns.{known_value}
use Rattle.jumptables.proofs.KnownFits.{known-fits}
use Rattle.jumptables.proofs.partial_run.PartialRun.value.Goals as goal

pub returns-clause-fits : goal.returns-clause-fits
returns-clause-fits c =
    let m = c.args.on.now.machine.now in
    let f = c.args.on.now.frozen.now in
    let run = c.args.self.now in
    let t = term_of c.args.e.now in
    subst (λ o. IfSome o (λ v. v < 2 ^ width_of m.widths t)) (sym (c.known_value.ensures ∙ ap (λ ks. known_value m f run.cells.values ks t) c.as_slice.ensures))
    (known-fits m f run.cells.values run.known t c.requires.ready.widths c.requires.whole.fit c.requires.sound)
