use Rattle.std.proofs.Common.{◌≡◌, take, fold}
use Rattle.sled_rules.specs.Known.{mark}
use Rattle.sled_rules.proofs.known.mark_all.Given as goal

abbrev pub invariant-loop-kind : goal.invariant-loop-kind
invariant-loop-kind l = l.facts ≡ fold mark l.initial.facts (take l.kind-index l.kinds)
