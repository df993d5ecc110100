use Rattle.std.proofs.Common.{◌≡◌, [], ◌++◌, drop}
use Rattle.ssl_core.specs.Forms.{made_forms}
use Rattle.ssl_core.proofs.machine.bare_forms.Given as goal

abbrev pub invariant-loop-coded : goal.invariant-loop-coded
invariant-loop-coded l = l.forms.items ++ made_forms [] l.coded-index (drop l.coded-index l.constructors) ≡ made_forms [] 0 l.constructors
