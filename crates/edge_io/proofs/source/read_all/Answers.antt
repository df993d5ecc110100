use Rattle.std.proofs.Common.{rules, arith, refl}
use Rattle.edge_io.proofs.Pieces.{came_on}
use Rattle.edge_io.proofs.source.read_all.Goals as goal

pub returns-then-count_wide-room-clause-came : goal.returns-then-count_wide-room-clause-came
returns-then-count_wide-room-clause-came g c =
    came_on _ _ _ _ _ _ c.take.new.buf c.in-Ok.count c.loop-count.invariant.gave (search rules) c.in-Ok.ensures.bytes c.in-Ok.ensures.given
    (λ _. omega arith, λ _. refl)

pub returns-in_err-extend_from_slice-clause-came :
    goal.returns-in_err-extend_from_slice-clause-came
returns-in_err-extend_from_slice-clause-came g c =
    came_on _ _ _ _ _ _ c.take.new.buf c.in-Ok.count c.loop-count.invariant.gave (search rules) c.in-Ok.ensures.bytes c.in-Ok.ensures.given
    (λ is. absurd (search rules), λ more. absurd (omega arith))
