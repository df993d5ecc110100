use Rattle.std.proofs.Common.{◌≡◌, ◌<◌, ◌-◌, suc, Some, length, refl, subst, ℕ, arith}
use Rattle.std.specs.Prelude.{slice_get}
use Rattle.std.proofs.lemmas.Option.{slice_get_read}
use Rattle.c_places.specs.Rest.{IsItem}
use Rattle.c_places.proofs.Standing.{item_says, nothing_left, nothing_past}
use Rattle.c_places.proofs.items.item_at.Goals as goal

pub returns-then-place-eq0-clause-none : goal.returns-then-place-eq0-clause-none
returns-then-place-eq0-clause-none c = nothing_left c.args.items.now c.args.place (omega arith)

pub returns-then-place-items-clause-none : goal.returns-then-place-items-clause-none
returns-then-place-items-clause-none c = nothing_past c.args.items.now c.args.place (omega arith)

pub returns-clause-some : goal.returns-clause-some
returns-clause-some c = λ fs placed.
    let k : ℕ = c.args.place - 1 in
    let x = c.index-items-place.result in
    let lt : k < length c.args.items.now = omega arith in
    let at : slice_get c.args.items.now k ≡ Some x = slice_get_read c.args.items.now (length c.args.items.now) k x refl lt c.index-items-place.is in
    let same : suc k ≡ c.args.place = omega arith in
    subst (λ p. IsItem fs c.args.items.now p x) same (item_says fs c.args.items.now k x at placed)
