use Rattle.std.proofs.Common.{sym, ◌∙◌}
use Rattle.ssl_core.specs.State.{shown}
use Rattle.ssl_core.proofs.LateLemmas.{AreRanged, late_few, late_counted, late_ranged, late_differs, late_single, late_small, late_none}
use Rattle.ssl_core.proofs.faults.late_fault.Goals as goal

pub returns-then-not-is_few : goal.returns-then-not-is_few
returns-then-not-is_few c =
    late_few c.args.enc.now (shown c.args.given.now) c.args.line c.args.body.now (sym (c.is_few.ensures c.args.enc.now) ∙ c.if-not-is_few.true)

pub returns-then-not-is_counted : goal.returns-then-not-is_counted
returns-then-not-is_counted c =
    late_counted c.args.enc.now (shown c.args.given.now) c.args.line c.args.body.now (sym (c.is_few.ensures c.args.enc.now) ∙ c.if-not-is_few.false)
    (sym c.is_counted.ensures ∙ c.if-not-is_counted.true)

pub returns-then-not-is_in_range : goal.returns-then-not-is_in_range
returns-then-not-is_in_range c =
    late_ranged c.args.enc.now (shown c.args.given.now) c.args.line c.args.body.now (sym (c.is_few.ensures c.args.enc.now) ∙ c.if-not-is_few.false)
    (sym c.is_counted.ensures ∙ c.if-not-is_counted.false) (sym (c.is_in_range.ensures c.args.enc.now c.requires.own) ∙ c.if-not-is_in_range.true)

pub returns-in-Some : goal.returns-in-Some
returns-in-Some c =
    let a : AreRanged c.args.enc.now (shown c.args.given.now) c.args.line c.args.body.now = record {
      few = sym (c.is_few.ensures c.args.enc.now) ∙ c.if-not-is_few.false;
      counted = sym c.is_counted.ensures ∙ c.if-not-is_counted.false;
      ranged = sym (c.is_in_range.ensures c.args.enc.now c.requires.own) ∙ c.if-not-is_in_range.false;
      places = sym (c.assigns_places.ensures c.args.enc.now c.requires.own) ∙ c.if-not-assigns_places.false;
    } in
    late_differs c.args.enc.now (shown c.args.given.now) c.args.line c.args.body.now a c.in-Some.m (sym c.differing.ensures ∙ c.in-Some.is)

pub returns-then-not-is_single : goal.returns-then-not-is_single
returns-then-not-is_single c =
    let a : AreRanged c.args.enc.now (shown c.args.given.now) c.args.line c.args.body.now = record {
      few = sym (c.is_few.ensures c.args.enc.now) ∙ c.if-not-is_few.false;
      counted = sym c.is_counted.ensures ∙ c.if-not-is_counted.false;
      ranged = sym (c.is_in_range.ensures c.args.enc.now c.requires.own) ∙ c.if-not-is_in_range.false;
      places = sym (c.assigns_places.ensures c.args.enc.now c.requires.own) ∙ c.if-not-assigns_places.false;
    } in
    late_single c.args.enc.now (shown c.args.given.now) c.args.line c.args.body.now a (sym c.differing.ensures ∙ c.in_default.is)
    (sym (c.is_single.ensures c.args.enc.now) ∙ c.if-not-is_single.true)

pub returns-then-not-branch : goal.returns-then-not-branch
returns-then-not-branch c =
    let a : AreRanged c.args.enc.now (shown c.args.given.now) c.args.line c.args.body.now = record {
      few = sym (c.is_few.ensures c.args.enc.now) ∙ c.if-not-is_few.false;
      counted = sym c.is_counted.ensures ∙ c.if-not-is_counted.false;
      ranged = sym (c.is_in_range.ensures c.args.enc.now c.requires.own) ∙ c.if-not-is_in_range.false;
      places = sym (c.assigns_places.ensures c.args.enc.now c.requires.own) ∙ c.if-not-assigns_places.false;
    } in
    late_small c.args.enc.now (shown c.args.given.now) c.args.line c.args.body.now a (sym c.differing.ensures ∙ c.in_default.is)
    (sym (c.is_single.ensures c.args.enc.now) ∙ c.if-not-is_single.false) (sym (c.in_ok-is_small.ensures c.args.enc.now c.requires.own) ∙ c.if-not-branch.true)

pub returns : goal.returns
returns c =
    let a : AreRanged c.args.enc.now (shown c.args.given.now) c.args.line c.args.body.now = record {
      few = sym (c.is_few.ensures c.args.enc.now) ∙ c.if-not-is_few.false;
      counted = sym c.is_counted.ensures ∙ c.if-not-is_counted.false;
      ranged = sym (c.is_in_range.ensures c.args.enc.now c.requires.own) ∙ c.if-not-is_in_range.false;
      places = sym (c.assigns_places.ensures c.args.enc.now c.requires.own) ∙ c.if-not-assigns_places.false;
    } in
    late_none c.args.enc.now (shown c.args.given.now) c.args.line c.args.body.now a (sym c.differing.ensures ∙ c.in_default.is)
    (sym (c.is_single.ensures c.args.enc.now) ∙ c.if-not-is_single.false) (sym (c.in_ok-is_small.ensures c.args.enc.now c.requires.own) ∙ c.if-not-branch.false)
