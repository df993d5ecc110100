use Rattle.std.proofs.Common.{subst, ◌∙◌, nat_cmp}
use Rattle.graph_control.specs.Finding.{IsFound}
use Rattle.graph_control.proofs.Looking.{member_at, second_there, second_missing}
use Rattle.graph_control.proofs.lookup.Lookup.second.Goals as goal

pub returns-in-Some-clause-there : goal.returns-in-Some-clause-there
returns-in-Some-clause-there c = λ p is sorted m e.
    let found = subst (λ l. IsFound nat_cmp l c.args.back c.find.result) c.deref.ensures.value c.find.ensures in
    c.second_at.ensures ∙ second_there c.args.pads.now c.args.self.now.returns.items c.args.back is c.in-Some.at p (found.found c.in-Some.at c.in-Some.is) sorted m e

pub returns-in-Some-clause-none : goal.returns-in-Some-clause-none
returns-in-Some-clause-none c = λ is none.
    let found = subst (λ l. IsFound nat_cmp l c.args.back c.find.result) c.deref.ensures.value c.find.ensures in
    absurd (none (member_at c.args.self.now.returns.items c.in-Some.at c.args.back (found.found c.in-Some.at c.in-Some.is)))

pub returns-in-None-clause-there : goal.returns-in-None-clause-there
returns-in-None-clause-there c = λ p is sorted m e.
    let found = subst (λ l. IsFound nat_cmp l c.args.back c.find.result) c.deref.ensures.value c.find.ensures in
    absurd (second_missing c.args.pads.now c.args.self.now.returns.items c.args.back is p (found.missing sorted c.in-None.is) m e)
