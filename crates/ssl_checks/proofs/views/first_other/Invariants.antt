use Rattle.ssl_rules.specs.Widths.{asked}
use Rattle.ssl_rules.specs.Views.{part_bits}
use Rattle.ssl_checks.proofs.FirstLemmas.{IsFirst}
use Rattle.ssl_checks.proofs.views.first_other.Given as goal

abbrev pub invariant-loop-part : goal.invariant-loop-part
invariant-loop-part l = IsFirst (λ p. asked l.width (part_bits l.tables p)) l.parts l.part-index l.differs
