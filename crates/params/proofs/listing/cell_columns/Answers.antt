use Rattle.std.proofs.Common.{◌≡◌, ◌∙◌, ap, length}
use Rattle.std.specs.List.{range_with_len}
use Rattle.std.proofs.lemmas.List.FromFn.{length-range_with_len}
use Rattle.params.proofs.Turning.{same-rows}
use Rattle.params.proofs.Choosing.{same-columns}
use Rattle.params.proofs.listing.cell_columns.Goals as goal

cells-are : (c : goal.After-drop-listed-2) → c.deref.result.now ≡ range_with_len 0 (length c.args.machine.now.widths)
cells-are c = c.deref.ensures.value ∙ c.in_ok-cells.ensures ∙ ap (range_with_len 0) c.len.ensures

users-count : (c : goal.After-drop-listed-2) → length c.in_ok-users.users.items ≡ length c.args.machine.now.widths
users-count c = c.in_ok-users.ensures.count ∙ ap length (cells-are c) ∙ length-range_with_len 0 (length c.args.machine.now.widths)

pub returns-clause-count : goal.returns-clause-count
returns-clause-count c = c.in_ok-found.ensures.count ∙ ap length c.deref-4.ensures.value ∙ users-count c

pub returns-clause-columns : goal.returns-clause-columns
returns-clause-columns c = record {
  users = c.in_ok-users.users.items;
  users_are = λ s. same-rows _ _ _ _ c.in_ok-users.users.items (cells-are c) (c.deref-2.ensures.value ∙ c.in_ok-listed.ensures) c.in_ok-users.ensures.rows s;
  count = users-count c;
  columns_are = same-columns _ _ _ _ _ _ c.in_ok-found.found.items c.deref-3.ensures.value c.as_slice.ensures c.deref-4.ensures.value c.in_ok-found.ensures;
}
