use Rattle.std.proofs.Common.{◌≡◌, ◌-◌, Some, sym, ap, ◌∙◌, arith, option_map}
use Rattle.rtl_core.specs.Grounding.{operands_read, chosen_read}
use Rattle.rtl_core.specs.GroundData.{argument_of, some_read}
use Rattle.rtl_core.proofs.ReadSteps.{chosen_step}
use Rattle.rtl_core.proofs.grounding.+reading.Goals as goal

pub read_chosen-returns-clause-exact : goal.read_chosen-returns-clause-exact
read_chosen-returns-clause-exact t c =
    let m = c.args.machine.now in
    let leaves = c.args.leaves.now in
    let read : c.in_ok-read_operands.field-0 ≡ Some (c.in-Some-2.arguments, c.in-Some-2.used) = cc in
    let put : c.in_ok-argument_from-in-Some-2.field-0 ≡ Some c.in-Some-3.argument = cc in
    chosen_step c.args.deep m c.args.pc c.args.next c.args.c leaves c.in-Some.form.now c.in-Some-2.arguments c.in-Some-2.used c.in-Some-3.argument
    (omega arith) (sym c.in-Some.ensures.value)
    (ap (some_read leaves) (sym read) ∙ c.in_ok-read_operands.ensures.exact
    ∙ ap (λ kinds. operands_read (chosen_read (c.args.deep - 1) m c.args.pc c.args.next) m kinds leaves) c.as_slice-kinds.ensures)
    (ap (option_map argument_of) (sym put) ∙ c.in_ok-argument_from-in-Some-2.ensures)
