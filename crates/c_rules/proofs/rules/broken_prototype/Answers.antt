use Rattle.std.proofs.Common.{◌+◌, sym, take, arith}
use Rattle.c_lang.specs.Items.{Declared}
use Rattle.c_rules.specs.Texts.{text}
use Rattle.c_rules.proofs.CodeLaws.{listed_more}
use Rattle.c_rules.proofs.RuleLaws.{breaks_in, faults, passes_in}
use Rattle.c_rules.proofs.rules.broken_prototype.Goals as goal

pub returns-in-Some-clause-found : goal.returns-in-Some-clause-found
returns-in-Some-clause-found c = λ l.
    let t = text c.args.parts.now in
    let i = c.loop-index.index in
    let so_far = c.loop-index.invariant l in
    breaks_in t Declared t.prototypes c.as_slice-prototype-items.result.now c.as_slice-prototype-items.ensures i (c.args.first + i) c.prototype-item.result c.in_ok-rule.field-0 (faults t Declared c.args.first 0 t.prototypes) so_far.0
    c.loop-index-test.true c.prototype-item.is (c.in_ok-rule.ensures.rule t so_far.1 (sym c.as_slice-functions.ensures)) c.in-Some.rule c.in-Some.is

pub loop-index-preserved : goal.loop-index-preserved
loop-index-preserved c = λ l.
    let t = text c.args.parts.now in
    let i = c.loop-index.index in
    let so_far = c.loop-index.invariant l in (
      passes_in t Declared t.prototypes c.as_slice-prototype-items.result.now c.as_slice-prototype-items.ensures i (c.args.first + i) c.prototype-item.result c.in_ok-rule.field-0 (faults t Declared c.args.first 0 t.prototypes) so_far.0
          c.loop-index-test.true c.prototype-item.is (c.in_ok-rule.ensures.rule t so_far.1 (sym c.as_slice-functions.ensures)) (c.args.first + (i + 1)) (omega arith) c.in_default.is,
      listed_more c.prototype_rule.new.calls t.prototypes c.as_slice-prototype-items.result.now c.as_slice-prototype-items.ensures i c.prototype-item.result c.loop-index-test.true c.prototype-item.is
          (c.in_ok-rule.ensures.listed c.in_default.is (take i t.prototypes) so_far.1),
    )
