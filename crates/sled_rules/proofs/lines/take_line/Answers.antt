use Rattle.std.proofs.Common.{◌≡◌, ◌≢◌, Option, None, Some, MatchResult, sym, ap, subst, ◌∙◌}
use Rattle.sled_rules.specs.declared.fault.SledFault.{SledFault}
use Rattle.sled_rules.specs.declared.fault.SledFault.TheVariants as faults
use Rattle.sled_rules.specs.Faults.{constructor_fault, line_fault}
use Rattle.sled_rules.proofs.lines.take_line.Goals as goal

pub returns-in-Constructor-clause-taken : goal.returns-in-Constructor-clause-taken
returns-in-Constructor-clause-taken c =
    let k = c.args.known.now in
    let n = c.args.line.now.number in
    let p = c.in-Constructor.pattern in
    let Taken : Option SledFault → Type 0 = λ o. MatchResult c.constructor_line.result (λ _. o ≡ None) (λ f. f ≢ faults.NoMemory → o ≡ Some f) in
    subst Taken
    (ap (λ name. constructor_fault k n name c.as_slice-in-Constructor-2.result.now c.type_name.result.now p) c.as_slice-in-Constructor.ensures
    ∙ ap (λ ops. constructor_fault k n c.in-Constructor.name ops c.type_name.result.now p) c.as_slice-in-Constructor-2.ensures
    ∙ ap (λ type. constructor_fault k n c.in-Constructor.name c.in-Constructor.ops type p) c.type_name.ensures ∙ ap (line_fault k n) (sym c.in-Constructor.is))
    c.constructor_line.ensures.taken
