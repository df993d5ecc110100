use Rattle.std.proofs.Common.{◌≡◌, ◌+◌, drop}
use Rattle.c_lang.specs.Items.{Defined}
use Rattle.c_rules.specs.Scopes.{Lists}
use Rattle.c_rules.specs.Texts.{text}
use Rattle.c_rules.proofs.RuleLaws.{faults}
use Rattle.c_rules.proofs.rules.broken_function.Given as goal

abbrev pub invariant-loop-index : goal.invariant-loop-index
invariant-loop-index l =
    Lists l.calls l.parts.prototypes → faults (text l.parts) Defined l.first 0 l.parts.functions ≡ faults (text l.parts) Defined (l.first + l.index) l.index (drop l.index l.parts.functions)
