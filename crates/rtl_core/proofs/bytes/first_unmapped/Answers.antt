use Rattle.std.proofs.Common.{◌≡◌, ◌+◌, true, sym, ap, ◌∙◌, refl, arith}
use Rattle.std.specs.Prelude.{Some}
use Rattle.rtl_core.specs.Contents.{is_mapped, held_at}
use Rattle.rtl_core.proofs.ByteLaws.{fault_here, fault_next, fault_end, passes_below, mapped_some}
use Rattle.rtl_core.proofs.bytes.first_unmapped.Goals as goal

pub returns-then-is_none : goal.returns-then-is_none
returns-then-is_none g c = ap Some c.told.ensures ∙ sym (fault_here is_mapped _ _ _ _ _ c.loop-i-test.true (mapped_some _ _ _ c.byte_at.ensures c.if-is_none.ensures) c.loop-i.invariant.same)

pub loop-i-preserved : goal.loop-i-preserved
loop-i-preserved g c =
    let passes : is_mapped (held_at (g.M.Memory.contents c.args.mem.now) (c.args.a + c.loop-i.i)) ≡ true = mapped_some _ _ _ c.byte_at.ensures c.if-is_none.ensures in
    let below = passes_below is_mapped _ _ refl passes in
    record {
      same = fault_next is_mapped _ _ _ _ _ c.loop-i-test.true passes c.loop-i.invariant.same;
      below = λ h. omega (arith, below);
    }

pub returns : goal.returns
returns g c = sym (fault_end is_mapped _ _ _ _ _ c.loop-i-test.false c.loop-i.invariant.same)
