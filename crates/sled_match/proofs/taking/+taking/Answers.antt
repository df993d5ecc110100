use Rattle.std.proofs.Common.{ℕ, ◌-◌, Option, sym, ap, ◌∙◌, arith, subst, All}
use Rattle.rtl_core.specs.Matching.{Taken, first_matching, constructor_taken, type_taken}
use Rattle.sled_match.specs.Ready.{IsItemReady, IsAlternativeReady}
use Rattle.sled_match.proofs.Steps.{type_taken-there, AreReady-alternative, few_joined}
use Rattle.sled_match.proofs.taking.+taking.Goals as goal

pub take_constructor-take_items-requires : goal.take_constructor-take_items-requires
take_constructor-take_items-requires t c =
    let ready : IsAlternativeReady c.args.enc.now c.alternative-item.result =
    AreReady-alternative c.args.enc.now c.args.constructor c.loop-alternative.alternative-index c.in_ok-coded.coded.now
    c.as_slice-alternative-items.result.now c.alternative-item.result c.requires.ready c.in_ok-coded.ensures.value
    c.as_slice-alternative-items.ensures c.loop-alternative-test.true c.alternative-item.is in
    let items : All (IsItemReady c.args.enc.now) c.as_slice.result.now = subst (All (IsItemReady c.args.enc.now)) (sym c.as_slice.ensures) ready.each in
    (omega (arith, c.decreases), (c.requires.ready, (items, c.requires.short)))

pub take_constructor-joined-leaves-requires : goal.take_constructor-joined-leaves-requires
take_constructor-joined-leaves-requires t c =
    let ready : IsAlternativeReady c.args.enc.now c.alternative-item.result =
    AreReady-alternative c.args.enc.now c.args.constructor c.loop-alternative.alternative-index c.in_ok-coded.coded.now
    c.as_slice-alternative-items.result.now c.alternative-item.result c.requires.ready c.in_ok-coded.ensures.value
    c.as_slice-alternative-items.ensures c.loop-alternative-test.true c.alternative-item.is in
    few_joined c.args.enc.now c.as_slice.result.now c.args.deep c.args.bytes.now c.in-Some.slots c.in-Some.len
    (subst (IsAlternativeReady c.args.enc.now) (sym c.as_slice.ensures) ready) c.in-Some.ensures.exact

pub take_type-returns-clause-exact : goal.take_type-returns-clause-exact
take_type-returns-clause-exact t c =
    let taken : ℕ → Option Taken = constructor_taken (type_taken (c.args.deep - 1) c.args.enc.now) c.args.enc.now c.args.bytes.now in
    c.take_first.ensures.exact
    ∙ ap (first_matching taken) c.as_slice.ensures
    ∙ sym (type_taken-there c.args.deep c.args.enc.now c.args.kind c.args.bytes.now c.in_ok-constructors.constructors.now (omega arith) (sym c.in_ok-constructors.ensures.value))
