use Rattle.std.proofs.Common.{◌≡◌, drop}
use Rattle.rtl_core.specs.Transfers.{all_transferred}
use Rattle.rtl_meaning.specs.Effects.{doing}
use Rattle.rtl_meaning.specs.Saved.{Fits}
use Rattle.rtl_meaning.proofs.acts.run_all.Given as goal

abbrev pub invariant-loop-transfer : goal.invariant-loop-transfer
invariant-loop-transfer g l = record {
  exact : all_transferred l.machine l.pc (drop l.transfer-index l.transfers) (doing l.cells.values (g.M.Memory.contents l.mem) l.windows l.effect)
      ≡ all_transferred l.machine l.pc l.transfers (doing l.fn.cells.values (g.M.Memory.contents l.fn.mem) l.fn.windows l.fn.effect);
  fits : Fits l.machine l.cells.values l.windows;
  whole : g.M.Memory.whole l.mem;
  ready : g.M.Memory.ready l.mem;
  follows : g.M.Memory.follows l.fn.mem l.mem;
}
