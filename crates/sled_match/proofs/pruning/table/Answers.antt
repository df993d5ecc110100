use Rattle.std.proofs.Common.{◌≡◌, ◌+◌, ◌<◌, length, length-append, ap, sym, ◌∙◌, subst, ◌∷◌, [], get_or, All, arith, slice_get}
use Rattle.sled_match.specs.Allows.{IsRow}
use Rattle.sled_match.proofs.AllowsLaws.{alternatives_plain, rows_more, rows_all}
use Rattle.sled_match.specs.Ready.{IsAlternativeReady}
use Rattle.sled_match.proofs.pruning.table.Goals as goal

pub row-requires : goal.row-requires
row-requires c =
    let e : c.coded-item.result ≡ get_or c.args.enc.now.constructors c.loop-coded.coded-index c.coded-item.result =
    c.coded-item.is ∙ ap (λ xs. get_or xs c.loop-coded.coded-index c.coded-item.result) c.as_slice-coded-items.ensures in
    let lt : c.loop-coded.coded-index < length c.args.enc.now.constructors = subst (λ xs. c.loop-coded.coded-index < length xs) c.as_slice-coded-items.ensures c.loop-coded-test.true in
    alternatives_plain c.args.enc.now c.coded-item.result
    (subst (λ k. All (IsAlternativeReady c.args.enc.now) k.alternatives) (sym e) (c.requires c.loop-coded.coded-index c.coded-item.result lt))

pub loop-coded-preserved : goal.loop-coded-preserved
loop-coded-preserved c = (
  ap length c.in_ok-push.ensures.ok ∙ length-append c.loop-coded.rows (c.in_ok-row.field-0 ∷ []) ∙ ap (λ n. n + 1) c.loop-coded.invariant.0,
  λ j h k p. subst (λ xs. IsRow c.args.enc.now.order k (get_or xs j [])) (sym c.in_ok-push.ensures.ok)
      (rows_more c.args.enc.now.order c.as_slice-coded-items.result.now c.loop-coded.rows c.loop-coded.coded-index c.coded-item.result c.in_ok-row.field-0
      c.loop-coded.invariant.0 c.coded-item.is c.in_ok-row.ensures c.loop-coded.invariant.1 j h k p),
)

pub returns : goal.returns
returns c =
    let e : c.as_slice-coded-items.result.now ≡ c.args.enc.now.constructors = c.as_slice-coded-items.ensures in
    let same : length c.as_slice-coded-items.result.now ≡ length c.args.enc.now.constructors = ap length e in
    rows_all c.args.enc.now c.loop-coded.rows (omega (arith, c.loop-coded.invariant.0, same, c.loop-coded-test.false, c.loop-coded.auto.coded-index-end))
    (λ j h k p. c.loop-coded.invariant.1 j (omega (arith, h, same, c.loop-coded-test.false)) k (ap (λ xs. slice_get xs j) e ∙ p))
