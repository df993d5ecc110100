use Rattle.std.proofs.Common.{ap, ◌∙◌}
use Rattle.std.specs.Prelude.{nat_le, sum_by}
use Rattle.c_lang.specs.StaticRules.{most_image}
use Rattle.c_rules.proofs.PlaceLaws.{all_end, all_ranges, lie_placed, spans_of, too_large}
use Rattle.c_rules.proofs.arrays.is_placed.Goals as goal

pub returns-then-not-is_small : goal.returns-then-not-is_small
returns-then-not-is_small c =
    let machine = c.args.machine.now in
    let table = c.args.table.now in
    let are = spans_of c.numbers.result.now table.numbers c.in_ok-spans.field-0 c.in-Some.spans (λ v. v.items) c.numbers.ensures c.in_ok-spans.ensures c.in-Some.is in
    too_large machine table c.in-Some.spans.items c.is_small.result are (c.is_small.ensures ∙ ap (λ ss. nat_le (sum_by (λ s. s.len) ss) most_image) c.deref.ensures.value) c.if-not-is_small.true

pub lie_apart-requires : goal.lie_apart-requires
lie_apart-requires c =
    let machine = c.args.machine.now in
    let table = c.args.table.now in
    let are = spans_of c.numbers.result.now table.numbers c.in_ok-spans.field-0 c.in-Some.spans (λ v. v.items) c.numbers.ensures c.in_ok-spans.ensures c.in-Some.is in
    all_end machine c.requires c.in-Some.spans.items c.push.new.self.items c.push-2.new.self.items c.heap_span.result c.stack_span.result c.in_ok-push.ensures.items c.in_ok-push-2.ensures.items c.heap_span.ensures c.stack_span.ensures are.1

pub returns : goal.returns
returns c =
    let machine = c.args.machine.now in
    let table = c.args.table.now in
    let are = spans_of c.numbers.result.now table.numbers c.in_ok-spans.field-0 c.in-Some.spans (λ v. v.items) c.numbers.ensures c.in_ok-spans.ensures c.in-Some.is in
    let ranges = all_ranges machine c.requires c.in-Some.spans.items c.push.new.self.items c.push-2.new.self.items c.heap_span.result c.stack_span.result c.in_ok-push.ensures.items c.in_ok-push-2.ensures.items c.heap_span.ensures c.stack_span.ensures in
    lie_placed machine table c.in-Some.spans.items c.is_small.result are (c.is_small.ensures ∙ ap (λ ss. nat_le (sum_by (λ s. s.len) ss) most_image) c.deref.ensures.value) c.push-2.new.self.items c.lie_apart.result c.if-not-is_small.false ranges c.lie_apart.ensures
