use Rattle.std.proofs.Common.{sym, subst, ◌∙◌}
use Rattle.rtl_core.specs.SoundTerms.{IsSoundTransfer}
use Rattle.rtl_meaning.specs.Effects.{doing}
use Rattle.rtl_meaning.proofs.ActFits.{more_done, fits_behind, fits_at_stop}
use Rattle.rtl_meaning.proofs.acts.run_all.Goals as goal

pub loop-transfer-preserved : goal.loop-transfer-preserved
loop-transfer-preserved g c =
    let l = c.loop-transfer in
    let m = c.args.machine.now in
    let t = c.transfer-item.result in
    let d = doing l.cells.values (g.M.Memory.contents l.mem) l.windows l.effect in
    let new = doing c.run_one.new.cells.values (g.M.Memory.contents c.run_one.new.mem) c.run_one.new.windows c.run_one.new.effect in
    let sound = subst (IsSoundTransfer m) (sym c.transfer-item.is) (c.requires.sound l.transfer-index t c.loop-transfer-test.true) in
    record {
      exact =
          more_done m c.args.pc c.args.transfers.now l.transfer-index t d new c.loop-transfer-test.true c.transfer-item.is c.in_ok-run_one.ensures.exact
          ∙ l.invariant.exact;
      fits = fits_behind m c.args.pc t d new sound l.invariant.fits c.in_ok-run_one.ensures.exact;
      whole = c.run_one.ensures.whole;
      ready = c.run_one.ensures.ready;
      follows = g.met.M.Memory.follows_on _ _ _ l.invariant.follows c.run_one.ensures.follows;
    }

pub returns-in_err-run_one-clause-fits : goal.returns-in_err-run_one-clause-fits
returns-in_err-run_one-clause-fits g c =
    let l = c.loop-transfer in
    let m = c.args.machine.now in
    let t = c.transfer-item.result in
    let d = doing l.cells.values (g.M.Memory.contents l.mem) l.windows l.effect in
    let new = doing c.run_one.new.cells.values (g.M.Memory.contents c.run_one.new.mem) c.run_one.new.windows c.run_one.new.effect in
    let sound = subst (IsSoundTransfer m) (sym c.transfer-item.is) (c.requires.sound l.transfer-index t c.loop-transfer-test.true) in
    fits_at_stop m c.args.pc t d new sound l.invariant.fits _ c.in_err-run_one.ensures.exact
