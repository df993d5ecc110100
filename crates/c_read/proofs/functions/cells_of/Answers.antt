use Rattle.std.proofs.Common.{ap, subst, sym, ◌∙◌}
use Rattle.std.specs.Prelude.{slice_get}
use Rattle.c_scan.specs.Names.{cell_in}
use Rattle.c_read.proofs.DeclaredLaws.{InCells, in_end, in_more, in_none, less_behind}
use Rattle.c_read.proofs.functions.cells_of.Goals as goal

pub more-init : goal.more-init
more-init c = subst (InCells c.args.variables.now) (sym c.new-cells.ensures) (in_none c.args.variables.now)

pub more-preserved : goal.more-preserved
more-preserved c =
    in_more c.args.variables.now c.more.cells c.push.new.self c.in-Some.cell c.more.invariant (ap (λ k. cell_in (slice_get c.args.variables.now k)) (sym c.len.ensures) ∙ sym c.in-Some.ensures) c.in_ok-push-in-Some.ensures.ok

pub more-smaller : goal.more-smaller
more-smaller c =
    less_behind c.args.variables.now c.more.cells c.push.new.self c.in-Some.cell (ap (λ k. cell_in (slice_get c.args.variables.now k)) (sym c.len.ensures) ∙ sym c.in-Some.ensures) c.in_ok-push-in-Some.ensures.ok

pub returns-in-None : goal.returns-in-None
returns-in-None c = in_end c.args.variables.now c.more.cells c.more.invariant (ap (λ k. cell_in (slice_get c.args.variables.now k)) (sym c.len.ensures) ∙ sym c.in-None.ensures)
