use Rattle.std.proofs.Common.{◌≡◌, ◌&&◌, Bool, true, false, length, is_some, sym, ap, ◌∙◌}
use Rattle.std.specs.List.{list_all}
use Rattle.ssl_rules.specs.Known.{is_known_expr, is_known_transfer}
use Rattle.ssl_core.specs.State.{shown}
use Rattle.ssl_core.specs.Heads.{is_head}
use Rattle.ssl_core.specs.MoreTemplates.{scope_with}
use Rattle.ssl_core.proofs.LineLemmas.{function_known, operand_known, instruction_known}
use Rattle.ssl_core.proofs.known.is_known.Goals as goal

pub returns-in-Function : goal.returns-in-Function
returns-in-Function c =
    c.is_known_expr.ensures
    ∙ function_known c.args.enc.now (shown c.args.given.now) c.args.body.now c.in-Function.name c.in-Function.params c.in-Function.body c.args.constructor c.args.own.now c.surplus_of-surplus.result.now c.in-Function.is
    c.surplus_of-surplus.ensures c.requires.own

pub returns-then-is_head : goal.returns-then-is_head
returns-then-is_head c =
    let g = shown c.args.given.now in
    let head : true ≡ is_head c.args.enc.now g false c.args.constructor (length c.in-Operand.ops) =
    sym c.if-is_head.true ∙ c.is_head.ensures ∙ ap (is_head c.args.enc.now g false c.args.constructor) c.len.ensures in
    c.is_known_expr-then-is_head.ensures ∙ ap (λ k. k && is_known_expr c.surplus_of-surplus.result.now (scope_with c.args.given.now.tables c.args.own.now) c.in-Operand.body) head
    ∙ operand_known c.args.enc.now g c.args.body.now c.in-Operand.name c.in-Operand.ops c.in-Operand.body c.args.constructor c.args.own.now c.surplus_of-surplus.result.now c.in-Operand.is c.requires.constructor
    c.surplus_of-surplus.ensures c.requires.own

pub returns-then-is_head-2 : goal.returns-then-is_head-2
returns-then-is_head-2 c =
    let g = shown c.args.given.now in
    let s = scope_with c.args.given.now.tables c.args.own.now in
    let surplus = c.surplus_of-surplus.result.now in
    let head : true ≡ is_head c.args.enc.now g true c.args.constructor (length c.in-Instruction.ops) =
    sym c.if-is_head-2.true ∙ c.is_head-in-Instruction.ensures ∙ ap (is_head c.args.enc.now g true c.args.constructor) c.len-in-Instruction.ensures in
    let known : Bool = list_all (is_known_transfer surplus s (is_some c.args.given.now.windows)) c.in-Instruction.transfers in
    c.are_known_transfers.ensures ∙ ap (λ w. list_all (is_known_transfer surplus s w) c.as_slice-then-is_head-2.result.now) c.is_some.ensures
    ∙ ap (list_all (is_known_transfer surplus s (is_some c.args.given.now.windows))) c.as_slice-then-is_head-2.ensures ∙ ap (λ k. k && known) head
    ∙ instruction_known c.args.enc.now g c.args.body.now c.in-Instruction.name c.in-Instruction.ops c.in-Instruction.transfers c.args.constructor c.args.own.now surplus c.in-Instruction.is c.requires.constructor
    c.surplus_of-surplus.ensures c.requires.own
