use Rattle.std.proofs.Common.{◌+◌, ◌-◌, subst}
use Rattle.std.specs.Prelude.{slice_index}
use Rattle.rtl_core.specs.SoundTerms.{IsSoundAct}
use Rattle.rtl_core.specs.Terms.{term_of, width_of}
use Rattle.jumptables.proofs.KnownFits.{fits-at}
use Rattle.jumptables.proofs.partial_run.PartialRun.act_done.Goals as goal

pub put-requires-clause-small : goal.put-requires-clause-small
put-requires-clause-small c =
    let m = c.args.on.now.machine.now in
    let sound = subst (IsSoundAct m) c.in-SetCell.is c.requires.sound in
    fits-at (slice_index m.widths c.in-SetCell.cell) (width_of m.widths (term_of c.in-SetCell.e)) c.value-value.result sound.1.1 c.value-value.ensures.fits

pub put_bits-requires-clause-small : goal.put_bits-requires-clause-small
put_bits-requires-clause-small c =
    let m = c.args.on.now.machine.now in
    let sound = subst (IsSoundAct m) c.in-SetSlice.is c.requires.sound in
    fits-at (c.in-SetSlice.hi + 1 - c.in-SetSlice.lo) (width_of m.widths (term_of c.in-SetSlice.e)) c.value-value-in-SetSlice.result sound.3.1 c.value-value-in-SetSlice.ensures.fits
