use Rattle.std.proofs.Common.{◌≡◌, drop}
use Rattle.rtl_core.specs.Code.{part_of}
use Rattle.rtl_core.proofs.frozen.Frozen.part.Given as goal

abbrev pub invariant-loop-part : goal.invariant-loop-part
invariant-loop-part l = part_of (drop l.part-index l.part-items) l.a ≡ part_of l.self.parts l.a
