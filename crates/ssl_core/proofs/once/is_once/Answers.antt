use Rattle.std.proofs.Common.{◌≡◌, ◌&&◌, Bool, [], ◌∷◌, map, not, unwrap_or, ap, subst, ◌∙◌}
use Rattle.std.specs.Prelude.{IfOk}
use Rattle.ssl_rules.specs.Given.{has_template}
use Rattle.ssl_core.specs.State.{shown}
use Rattle.ssl_core.specs.Fresh.{are_fresh}
use Rattle.ssl_core.proofs.LineLemmas.{function_once, operand_once, instruction_once}
use Rattle.ssl_core.proofs.once.is_once.Goals as goal

pub returns-in-Function : goal.returns-in-Function
returns-in-Function c = λ enc h.
    let names = c.args.given.now.tables.names in
    let Is : Bool → Type 0 = λ v. IfOk c.are_new_params.result (λ x. x ≡ v) in
    subst Is
    (ap (λ n. are_fresh names [] (n ∷ map (λ p. p.name) c.as_slice-in-Function-2.result.now)) c.as_slice-in-Function.ensures
    ∙ ap (λ ps. are_fresh names [] (c.in-Function.name ∷ map (λ p. p.name) ps)) c.as_slice-in-Function-2.ensures
    ∙ function_once enc (shown c.args.given.now) c.args.body.now c.in-Function.name c.in-Function.params c.in-Function.body c.in-Function.is) c.are_new_params.ensures

pub returns-in-Operand : goal.returns-in-Operand
returns-in-Operand c = λ enc h.
    let names = c.args.given.now.tables.names in
    let Is : Bool → Type 0 = λ v. IfOk c.is_first.result (λ x. x ≡ v) in
    subst Is
    (ap (λ ops. not (has_template (shown c.args.given.now) (unwrap_or c.args.constructor 0)) && are_fresh names [] ops) c.as_slice-in-Operand.ensures
    ∙ operand_once enc (shown c.args.given.now) c.args.body.now c.in-Operand.name c.in-Operand.ops c.in-Operand.body c.args.constructor c.in-Operand.is h) c.is_first.ensures

pub returns-in-Instruction : goal.returns-in-Instruction
returns-in-Instruction c = λ enc h.
    let names = c.args.given.now.tables.names in
    let Is : Bool → Type 0 = λ v. IfOk c.is_first-in-Instruction.result (λ x. x ≡ v) in
    subst Is
    (ap (λ ops. not (has_template (shown c.args.given.now) (unwrap_or c.args.constructor 0)) && are_fresh names [] ops) c.as_slice-in-Instruction.ensures
    ∙ instruction_once enc (shown c.args.given.now) c.args.body.now c.in-Instruction.name c.in-Instruction.ops c.in-Instruction.transfers c.args.constructor c.in-Instruction.is h) c.is_first-in-Instruction.ensures
