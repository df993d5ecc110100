use Rattle.std.proofs.Common.{◌+◌, length, refl, ap}
use Rattle.c_rules.specs.Texts.{text}
use Rattle.c_rules.proofs.CodeLaws.{lists_none}
use Rattle.c_rules.proofs.RuleLaws.{first_call, first_function, first_prototype, none_of_code}
use Rattle.c_rules.proofs.rules.broken_code.Goals as goal

pub returns-in-Some : goal.returns-in-Some
returns-in-Some c =
    let none = lists_none c.new-calls.result c.new-calls.ensures.empty in
    first_prototype (text c.args.parts.now) c.args.first c.in_ok-broken.field-0 (c.in_ok-broken.ensures.found none) c.in-Some.broken c.in-Some.is

pub returns-in-Some-2 : goal.returns-in-Some-2
returns-in-Some-2 c =
    let t = text c.args.parts.now in
    let none = lists_none c.new-calls.result c.new-calls.ensures.empty in
    let listed = c.in_ok-broken.ensures.listed none c.in_default.is in
    let m = c.args.first + c.len.result in
    let place = ap (λ n. c.args.first + n) c.len.ensures in
    first_function t c.args.first c.in_ok-broken.field-0 (c.in_ok-broken.ensures.found none) c.in_default.is m place c.in_ok-broken-2.field-0 (c.in_ok-broken-2.ensures listed) c.in-Some-2.broken c.in-Some-2.is

pub returns-in-Some-main_rule : goal.returns-in-Some-main_rule
returns-in-Some-main_rule c =
    let t = text c.args.parts.now in
    let none = lists_none c.new-calls.result c.new-calls.ensures.empty in
    let listed = c.in_ok-broken.ensures.listed none c.in_default.is in
    let m = c.args.first + c.len.result in
    let place = ap (λ n. c.args.first + n) c.len.ensures in
    first_call t c.args.first c.in_ok-broken.field-0 (c.in_ok-broken.ensures.found none) c.in_default.is m place c.in_ok-broken-2.field-0 (c.in_ok-broken-2.ensures listed) c.in_default-2.is (m + c.len-in-Some-main_rule.result) (ap (λ n. m + n) c.len-in-Some-main_rule.ensures) c.main_rule.result (c.main_rule.ensures t t.first listed c.len-2.ensures) c.in-Some-main_rule.rule c.in-Some-main_rule.is

pub returns : goal.returns
returns c =
    let t = text c.args.parts.now in
    let none = lists_none c.new-calls.result c.new-calls.ensures.empty in
    let listed = c.in_ok-broken.ensures.listed none c.in_default.is in
    let m = c.args.first + c.len.result in
    let place = ap (λ n. c.args.first + n) c.len.ensures in
    none_of_code t c.args.first c.in_ok-broken.field-0 (c.in_ok-broken.ensures.found none) c.in_default.is m place c.in_ok-broken-2.field-0 (c.in_ok-broken-2.ensures listed) c.in_default-2.is (m + length t.functions) refl c.main_rule.result (c.main_rule.ensures t t.first listed c.len-2.ensures) c.in_default-main_rule.is
