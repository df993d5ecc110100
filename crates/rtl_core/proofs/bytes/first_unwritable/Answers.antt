use Rattle.std.proofs.Common.{◌≡◌, ◌+◌, true, sym, ap, ◌∙◌, refl, arith}
use Rattle.std.specs.Prelude.{Some}
use Rattle.rtl_core.specs.Contents.{is_writable, held_at}
use Rattle.rtl_core.proofs.ByteLaws.{fault_here, fault_next, fault_end, passes_below}
use Rattle.rtl_core.proofs.bytes.first_unwritable.Goals as goal

pub returns-then-not-writable_at : goal.returns-then-not-writable_at
returns-then-not-writable_at g c = ap Some c.told.ensures ∙ sym (fault_here is_writable _ _ _ _ _ c.loop-i-test.true (sym c.writable_at.ensures ∙ c.if-not-writable_at.true) c.loop-i.invariant.same)

pub loop-i-preserved : goal.loop-i-preserved
loop-i-preserved g c =
    let passes : is_writable (held_at (g.M.Memory.contents c.args.mem.now) (c.args.a + c.loop-i.i)) ≡ true = sym c.writable_at.ensures ∙ c.if-not-writable_at.false in
    let below = passes_below is_writable _ _ refl passes in
    record {
      same = fault_next is_writable _ _ _ _ _ c.loop-i-test.true passes c.loop-i.invariant.same;
      below = λ h. omega (arith, below);
    }

pub returns : goal.returns
returns g c = sym (fault_end is_writable _ _ _ _ _ c.loop-i-test.false c.loop-i.invariant.same)
