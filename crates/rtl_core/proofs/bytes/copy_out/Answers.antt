use Rattle.std.proofs.Common.{ap, ◌∙◌}
use Rattle.std.specs.Prelude.{unwrap_or}
use Rattle.rtl_core.proofs.ByteLaws.{read_next, read_end}
use Rattle.rtl_core.proofs.bytes.copy_out.Goals as goal

pub loop-i-preserved : goal.loop-i-preserved
loop-i-preserved g c =
    read_next _ _ _ _ _ _ _ c.loop-i.auto.into c.loop-i-test.true c.unwrap_or.type_inv (c.unwrap_or.ensures ∙ ap (λ o. unwrap_or o 0) c.byte_at.ensures) c.loop-i.invariant

pub returns : goal.returns
returns g c = read_end _ _ _ _ _ _ c.loop-i.auto.into c.loop-i-test.false c.loop-i.invariant
