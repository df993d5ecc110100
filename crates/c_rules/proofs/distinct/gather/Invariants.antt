use Rattle.std.proofs.Common.{◌≡◌, true, take}
use Rattle.c_lang.specs.StaticRules.{no_two}
use Rattle.c_rules.specs.Distinct.{Holds}
use Rattle.c_rules.proofs.distinct.gather.Given as goal

abbrev pub invariant-loop-value : goal.invariant-loop-value
invariant-loop-value g l = (no_two g.T.PartialEq.eq (take l.value-index l.values) ≡ true) × Holds g.T.PartialEq.eq l.set (take l.value-index l.values)
