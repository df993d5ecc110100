use Rattle.std.proofs.Common.{refl, sym, ap, subst, map, ◌∙◌, unwrap_or}
use Rattle.std.proofs.lemmas.Result.{on_ok_weaker}
use Rattle.ssl_rules.specs.Given.{part_of}
use Rattle.ssl_core.specs.State.{AreCellsNamed, shown}
use Rattle.ssl_rules.specs.Faults.{IsFine}
use Rattle.ssl_core.specs.Fine.{IsFineInstruction}
use Rattle.ssl_core.specs.Functions.{function_in}
use Rattle.ssl_core.specs.MoreTemplates.{scope_with}
use Rattle.ssl_core.specs.OwnNames.{constructor_of, own_of}
use Rattle.ssl_core.proofs.FineLemmas.{fine_instruction}
use Rattle.ssl_core.proofs.GrowthLemmas.{cell_named, cells_named, function_named, view_named}
use Rattle.ssl_core.proofs.StateLemmas.{state_holds, tables_hold}
use Rattle.ssl_core.proofs.lines.give.Goals as goal

pub give_instruction-requires-clause-fine : goal.give_instruction-requires-clause-fine
give_instruction-requires-clause-fine c =
    let enc = c.args.enc.now in
    let g = c.args.given.now in
    let is = c.in-Instruction.is in
    subst (λ ts. IsFineInstruction enc g c.unwrap_or-in-Instruction.result c.args.own.now ts) (sym c.as_slice-in-Instruction.ensures)
    (fine_instruction enc g c.unwrap_or-in-Instruction.result c.args.own.now c.in-Instruction.name c.in-Instruction.ops c.in-Instruction.transfers
    (c.unwrap_or-in-Instruction.ensures ∙ ap (λ o. unwrap_or o 0) (c.requires.constructor ∙ ap (constructor_of enc) is)) (c.requires.own ∙ ap (own_of enc (shown g)) is)
    (subst (IsFine enc (shown g)) is c.requires.fine))

pub returns-in-Cell-clause-holds : goal.returns-in-Cell-clause-holds
returns-in-Cell-clause-holds c =
    let old = c.args.given.now.tables in
    on_ok_weaker c.give_cell.result
    (λ e. tables_hold c.args.enc.now c.args.given.now c.give_cell.new.tables c.requires.holds
    (subst AreCellsNamed (sym e) (cell_named old c.as_slice.result.now c.in-Cell.width c.requires.holds.cells))) c.give_cell.ensures

pub returns-in-Cells-clause-holds : goal.returns-in-Cells-clause-holds
returns-in-Cells-clause-holds c =
    let old = c.args.given.now.tables in
    on_ok_weaker c.give_cells.result
    (λ e. tables_hold c.args.enc.now c.args.given.now c.give_cells.new.tables c.requires.holds
    (subst AreCellsNamed (sym e) (cells_named old c.as_slice-in-Cells.result.now c.in-Cells.count c.in-Cells.width c.requires.holds.cells))) c.give_cells.ensures

pub returns-in-View-clause-holds : goal.returns-in-View-clause-holds
returns-in-View-clause-holds c =
    let old = c.args.given.now.tables in
    on_ok_weaker c.give_view.result
    (λ e. tables_hold c.args.enc.now c.args.given.now c.give_view.new.tables c.requires.holds
    (subst AreCellsNamed (sym e) (view_named old c.as_slice-in-View.result.now (map (part_of old) c.as_slice-in-View-2.result.now) c.requires.holds.cells))) c.give_view.ensures

pub returns-in-Function-clause-holds : goal.returns-in-Function-clause-holds
returns-in-Function-clause-holds c =
    let old = c.args.given.now.tables in
    on_ok_weaker c.give_function_line.result
    (λ e. tables_hold c.args.enc.now c.args.given.now c.give_function_line.new.tables c.requires.holds
    (subst AreCellsNamed (sym e)
    (function_named old c.as_slice-in-Function.result.now (function_in (scope_with old c.args.own.now) c.as_slice-in-Function-2.result.now c.in-Function.body) c.requires.holds.cells)))
    c.give_function_line.ensures

pub returns-in-Align-clause-holds : goal.returns-in-Align-clause-holds
returns-in-Align-clause-holds c = state_holds c.args.enc.now c.args.given.now _ c.requires.holds c.requires.holds.cells refl refl refl refl

pub returns-in-Delay-clause-holds : goal.returns-in-Delay-clause-holds
returns-in-Delay-clause-holds c = state_holds c.args.enc.now c.args.given.now _ c.requires.holds c.requires.holds.cells refl refl refl refl

pub returns-in-Zero-clause-holds : goal.returns-in-Zero-clause-holds
returns-in-Zero-clause-holds c = state_holds c.args.enc.now c.args.given.now _ c.requires.holds c.requires.holds.cells refl refl refl refl

pub returns-in-Windows-clause-holds : goal.returns-in-Windows-clause-holds
returns-in-Windows-clause-holds c = state_holds c.args.enc.now c.args.given.now _ c.requires.holds c.requires.holds.cells refl refl refl refl
