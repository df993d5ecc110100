use Rattle.std.proofs.Common.{◌≡◌, true, take}
use Rattle.std.specs.List.{list_all}
use Rattle.ssl_rules.specs.Widths.{is_width}
use Rattle.ssl_core.proofs.ranges.are_widths.Given as goal

abbrev pub invariant-loop-param : goal.invariant-loop-param
invariant-loop-param l = list_all (λ p. is_width p.width) (take l.param-index l.params) ≡ true
