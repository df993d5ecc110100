use Rattle.std.proofs.Common.{◌∙◌, None, Some, sym, ap, arith}
use Rattle.std.specs.Prelude.{if◌then◌else◌}
use Rattle.rtl_core.specs.Terms.{term_of}
use Rattle.points.specs.Kinds.{constant_value}
use Rattle.points.proofs.ConstantTerms.{constant-ok, constant-err, constant-small}
use Rattle.points.proofs.constants.constant_target.Goals as goal

pub overflow_cast-result : goal.overflow_cast-result
overflow_cast-result c =
    let t = term_of c.args.target.now in
    let h = sym c.is_constant.ensures ∙ c.if-not-is_constant.false in
    let is = constant-ok c.args.machine.now c.in_ok-cells.cells.values (λ a. None) t c.eval.result c.in-Ok.value h c.eval.ensures c.in-Ok.is in
    let small = constant-small c.args.machine.now t c.requires.machine.widths c.requires.width.0 c.requires.width.1 h in
    omega arith

pub unreachable-requires : goal.unreachable-requires
unreachable-requires c =
    let t = term_of c.args.target.now in
    let h = sym c.is_constant.ensures ∙ c.if-not-is_constant.false in
    constant-err c.args.machine.now c.in_ok-cells.cells.values (λ a. None) t c.eval.result c.in-Err.field-0 h c.eval.ensures c.in-Err.is

pub returns : goal.returns
returns c =
    let m = c.args.machine.now in
    let t = term_of c.args.target.now in
    let h = sym c.is_constant.ensures ∙ c.if-not-is_constant.false in
    ap Some (constant-ok m c.in_ok-cells.cells.values (λ a. None) t c.eval.result c.in-Ok.value h c.eval.ensures c.in-Ok.is)
    ∙ sym (ap (λ b. if b then Some (constant_value m t) else None) h)
