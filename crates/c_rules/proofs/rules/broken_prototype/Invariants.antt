use Rattle.std.proofs.Common.{◌≡◌, ◌+◌, [], drop, take}
use Rattle.c_lang.specs.Items.{Declared}
use Rattle.c_rules.specs.Scopes.{Lists}
use Rattle.c_rules.specs.Texts.{text}
use Rattle.c_rules.proofs.RuleLaws.{faults}
use Rattle.c_rules.proofs.rules.broken_prototype.Given as goal

abbrev pub invariant-loop-index : goal.invariant-loop-index
invariant-loop-index l =
    Lists l.fn.calls []
    → (faults (text l.parts) Declared l.first 0 l.parts.prototypes ≡ faults (text l.parts) Declared (l.first + l.index) l.index (drop l.index l.parts.prototypes)) × Lists l.calls (take l.index l.parts.prototypes)
