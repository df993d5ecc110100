use Rattle.std.proofs.Common.{ap, ◌∙◌}
use Rattle.sled_rules.specs.Faults.{lacks, repeats}
use Rattle.sled_rules.proofs.RestLaws.{any_step}
use Rattle.sled_rules.proofs.unknown.binding_of.Goals as goal

pub loop-items-preserved : goal.loop-items-preserved
loop-items-preserved c = record {
  unbound =
      any_step (lacks c.args.names.now c.args.ops.now) c.as_slice-items-items.result.now c.loop-items.items-index c.items-item.result c.loop-items.unbound
      c.in_ok-found.found.unbound c.either-unbound.result c.loop-items-test.true c.items-item.is c.loop-items.invariant.unbound
      (c.in_ok-found.ensures.0 ∙ ap (lacks c.args.names.now c.args.ops.now) c.as_slice.ensures) c.either-unbound.ensures;
  twice =
      any_step (repeats c.args.names.now c.args.ops.now) c.as_slice-items-items.result.now c.loop-items.items-index c.items-item.result c.loop-items.twice
      c.in_ok-found.found.twice c.either-twice.result c.loop-items-test.true c.items-item.is c.loop-items.invariant.twice
      (c.in_ok-found.ensures.1 ∙ ap (repeats c.args.names.now c.args.ops.now) c.as_slice.ensures) c.either-twice.ensures;
}
