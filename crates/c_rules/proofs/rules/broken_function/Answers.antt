use Rattle.std.proofs.Common.{◌+◌, sym, arith}
use Rattle.c_lang.specs.Items.{Defined}
use Rattle.c_rules.specs.Texts.{text}
use Rattle.c_rules.proofs.RuleLaws.{breaks_in, faults, passes_in}
use Rattle.c_rules.proofs.rules.broken_function.Goals as goal

pub returns-in-Some : goal.returns-in-Some
returns-in-Some c = λ l.
    let t = text c.args.parts.now in
    let i = c.loop-index.index in
    breaks_in t Defined t.functions c.as_slice-function-items.result.now c.as_slice-function-items.ensures i (c.args.first + i) c.function-item.result c.in_ok-rule.field-0 (faults t Defined c.args.first 0 t.functions) (c.loop-index.invariant l)
    c.loop-index-test.true c.function-item.is (c.in_ok-rule.ensures t l (sym c.as_slice-prototypes.ensures)) c.in-Some.rule c.in-Some.is

pub loop-index-preserved : goal.loop-index-preserved
loop-index-preserved c = λ l.
    let t = text c.args.parts.now in
    let i = c.loop-index.index in
    passes_in t Defined t.functions c.as_slice-function-items.result.now c.as_slice-function-items.ensures i (c.args.first + i) c.function-item.result c.in_ok-rule.field-0 (faults t Defined c.args.first 0 t.functions) (c.loop-index.invariant l)
    c.loop-index-test.true c.function-item.is (c.in_ok-rule.ensures t l (sym c.as_slice-prototypes.ensures)) (c.args.first + (i + 1)) (omega arith) c.in_default.is
