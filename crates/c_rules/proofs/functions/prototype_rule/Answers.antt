use Rattle.std.proofs.Common.{length, nat_eq, true, false, sym, ap, ◌∙◌}
use Rattle.c_rules.proofs.Apart.{gathered}
use Rattle.c_rules.proofs.CodeLaws.{lists_more, looked, none_there, prototype_again, prototype_kept, prototype_unlike, updated}
use Rattle.c_rules.proofs.functions.prototype_rule.Goals as goal

pub returns-then-is_some-clause-rule : goal.returns-then-is_some-clause-rule
returns-then-is_some-clause-rule c = λ t l f.
    let p = c.args.prototype.now in
    let once = gathered nat_eq c.params.result.now p.params c.in_ok-_params.field-0 c.in-Some._params c.params.ensures c.in_ok-_params.ensures c.in-Some.is in
    prototype_again t c.args.place p c.args.calls.now l once.0 (looked c.args.calls.now c.entry.result p.entry c.in_ok-insert.field-0 c.is_some.result true c.entry.ensures c.in_ok-insert.ensures.old c.is_some.ensures c.if-is_some.true)

pub returns-then-not-is_defined-clause-rule : goal.returns-then-not-is_defined-clause-rule
returns-then-not-is_defined-clause-rule c = λ t l f.
    let p = c.args.prototype.now in
    let once = gathered nat_eq c.params.result.now p.params c.in_ok-_params.field-0 c.in-Some._params c.params.ensures c.in_ok-_params.ensures c.in-Some.is in
    let none = none_there c.args.calls.now p.entry (looked c.args.calls.now c.entry.result p.entry c.in_ok-insert.field-0 c.is_some.result false c.entry.ensures c.in_ok-insert.ensures.old c.is_some.ensures c.if-is_some.false) in
    prototype_unlike t c.args.place p c.args.calls.now l once.0 none c.args.functions.now f (sym c.is_defined.ensures ∙ c.if-not-is_defined.true)

pub returns-clause-rule : goal.returns-clause-rule
returns-clause-rule c = λ t l f.
    let p = c.args.prototype.now in
    let once = gathered nat_eq c.params.result.now p.params c.in_ok-_params.field-0 c.in-Some._params c.params.ensures c.in_ok-_params.ensures c.in-Some.is in
    let none = none_there c.args.calls.now p.entry (looked c.args.calls.now c.entry.result p.entry c.in_ok-insert.field-0 c.is_some.result false c.entry.ensures c.in_ok-insert.ensures.old c.is_some.ensures c.if-is_some.false) in
    prototype_kept t c.args.place p c.args.calls.now l once.0 none c.args.functions.now f (sym c.is_defined.ensures ∙ c.if-not-is_defined.false)

pub returns-clause-listed : goal.returns-clause-listed
returns-clause-listed c = λ kept before l.
    let p = c.args.prototype.now in
    let none = none_there c.args.calls.now p.entry (looked c.args.calls.now c.entry.result p.entry c.in_ok-insert.field-0 c.is_some.result false c.entry.ensures c.in_ok-insert.ensures.old c.is_some.ensures c.if-is_some.false) in
    lists_more c.args.calls.now c.insert.new.self before p l none
    (updated c.args.calls.now c.insert.new.self c.entry.result p.entry (length c.params-2.result.now) (length p.params) c.entry.ensures (ap length c.params-2.ensures) c.in_ok-insert.ensures.updates.0)
