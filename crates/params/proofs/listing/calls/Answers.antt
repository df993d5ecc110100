use Rattle.std.proofs.Common.{◌∙◌}
use Rattle.params.proofs.Turning.{same-rows}
use Rattle.params.proofs.listing.calls.Goals as goal

pub returns : goal.returns
returns c = record {
  callers_are = λ s. same-rows _ _ _ _ c.in_ok-rows.field-0.items (c.deref.ensures.value ∙ c.in_ok-entries.ensures) (c.deref-2.ensures.value ∙ c.in_ok-called.ensures) c.in_ok-rows.ensures.rows s;
  openers_are = c.in_ok-openers.ensures;
}
