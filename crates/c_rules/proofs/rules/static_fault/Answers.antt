use Rattle.std.proofs.Common.{◌≡◌, ◌+◌, length, Option, refl, sym, ap, ◌∙◌}
use Rattle.std.proofs.lemmas.Result.{IfOk-weaker}
use Rattle.c_lang.specs.Items.{Segment}
use Rattle.c_lang.specs.StaticRules.{first_broken, static_fault}
use Rattle.c_rules.specs.declared.rules.Broken.{Broken}
use Rattle.c_rules.specs.Texts.{code_items, text, told}
use Rattle.c_rules.proofs.MachineLaws.{areas}
use Rattle.c_rules.proofs.RuleLaws.{fault_of_code, fault_of_machine, fault_of_segment, fault_of_table, faults}
use Rattle.c_rules.proofs.rules.static_fault.Goals as goal

pub returns-in-Some : goal.returns-in-Some
returns-in-Some c = let t = text c.args.parts.now in fault_of_machine t c.machine_rule.result (c.machine_rule.ensures t) c.in-Some.rule c.in-Some.is

pub returns-in-Some-broken_segment : goal.returns-in-Some-broken_segment
returns-in-Some-broken_segment c =
    let t = text c.args.parts.now in
    let found = ap (faults t Segment 2 0) (sym c.as_slice-segments.ensures) ∙ c.broken_segment.ensures.first t 2 in
    fault_of_segment t c.machine_rule.result (c.machine_rule.ensures t) c.in_default.is c.broken_segment.result found c.in-Some-broken_segment.index c.in-Some-broken_segment.is

pub table_rule-requires : goal.table_rule-requires
table_rule-requires c = areas c.args.parts.now.machine (λ t. sym c.in_default.is ∙ c.machine_rule.ensures t)

pub returns-in-Some-2 : goal.returns-in-Some-2
returns-in-Some-2 c =
    let t = text c.args.parts.now in
    let found = ap (faults t Segment 2 0) (sym c.as_slice-segments.ensures) ∙ c.broken_segment.ensures.first t 2 in
    fault_of_table t c.machine_rule.result (c.machine_rule.ensures t) c.in_default.is c.broken_segment.result found c.in_default-broken_segment.is (2 + length c.as_slice-segments.result.now) (ap (λ ss. 2 + length ss) c.as_slice-segments.ensures) c.in_ok-rule.field-0 (c.in_ok-rule.ensures t refl (sym c.as_slice-segments.ensures)) c.in-Some-2.rule c.in-Some-2.is

pub returns : goal.returns
returns c =
    let t = text c.args.parts.now in
    let found = ap (faults t Segment 2 0) (sym c.as_slice-segments.ensures) ∙ c.broken_segment.ensures.first t 2 in
    let n = 2 + length c.as_slice-segments.result.now + 1 in
    IfOk-weaker c.broken_code.result (λ (b : Option Broken). told b ≡ first_broken t n (code_items t)) (λ (b : Option Broken). told b ≡ static_fault t)
    (λ b h. fault_of_code t c.machine_rule.result (c.machine_rule.ensures t) c.in_default.is c.broken_segment.result found c.in_default-broken_segment.is (2 + length c.as_slice-segments.result.now) (ap (λ ss. 2 + length ss) c.as_slice-segments.ensures) c.in_ok-rule.field-0 (c.in_ok-rule.ensures t refl (sym c.as_slice-segments.ensures)) c.in_default-2.is n refl b h) c.broken_code.ensures
