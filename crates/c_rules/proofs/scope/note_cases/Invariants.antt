use Rattle.std.proofs.Common.{◌≡◌, map, take}
use Rattle.c_lang.specs.Items.{Label}
use Rattle.c_rules.specs.Scopes.{noted}
use Rattle.c_rules.proofs.scope.note_cases.Given as goal

abbrev pub invariant-loop-case : goal.invariant-loop-case
invariant-loop-case l = l.kept ≡ noted l.scope l.fn.kept (map (λ c. Label c.to) (take l.case-index l.cases))
