use Rattle.std.proofs.Common.{length}
use Rattle.ssl_core.specs.Shown.{made_list}
use Rattle.ssl_core.proofs.FormLemmas.{HaveForms}
use Rattle.ssl_core.proofs.machine.forms_of.Given as goal

abbrev pub invariant-loop-constructor : goal.invariant-loop-constructor
invariant-loop-constructor l = HaveForms (made_list l.fn.templates) l.constructors (made_list l.rest) l.forms.items

abbrev pub decreases-loop-constructor : goal.decreases-loop-constructor
decreases-loop-constructor l = length (made_list l.rest)
