use Rattle.std.proofs.Common.{sym, ◌∙◌, ap}
use Rattle.std.proofs.lemmas.Result.{err_from_is_err_and}
use Rattle.space.specs.Faults.{range_fault}
use Rattle.space.proofs.Steps.{none_taken, one_taken, refused, all_taken}
use Rattle.space.proofs.space.Space.build.Goals as goal

pub loop-index-init : goal.loop-index-init
loop-index-init c = none_taken _ _ c.new-kept.ensures.items

pub loop-index-preserved : goal.loop-index-preserved
loop-index-preserved c =
    one_taken c.args.ranges.now c.loop-index.kept.items c.keep.new.kept.items c.loop-index.index c.index-ranges-index.result _ c.loop-index.invariant c.loop-index-test.true c.index-ranges-index.is
    (sym (ap (λ k. range_fault c.loop-index.kept.items k c.index-ranges-index.result) c.told.ensures) ∙ c.in_ok-keep.ensures.0) c.in_ok-keep.ensures.1

pub returns-in_err-keep : goal.returns-in_err-keep
returns-in_err-keep c =
    let p = err_from_is_err_and c.from_residual.result c.from_residual.ensures.1 in
    rw (p.1, p.2) (refused c.args.ranges.now c.loop-index.kept.items c.loop-index.index c.told.result c.index-ranges-index.result _ c.in_err-keep.field-0.0 c.loop-index.invariant c.loop-index-test.true c.index-ranges-index.is c.told.ensures c.in_err-keep.ensures)

pub returns : goal.returns
returns c = all_taken c.args.ranges.now c.loop-index.kept.items c.loop-index.index c.loop-index.invariant c.loop-index-test.false
