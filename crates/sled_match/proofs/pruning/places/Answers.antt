use Rattle.std.proofs.Common.{◌≡◌, ◌+◌, ap, sym, ◌∙◌, arith, ◌∷◌, [], ◌++◌, map}
use Rattle.std.proofs.lemmas.List.FromFn.{map-range_with_len_more}
use Rattle.std.specs.List.{range_with_len}
use Rattle.sled_match.specs.Allows.{keys_of}
use Rattle.sled_match.proofs.pruning.places.Goals as goal

pub loop-place-preserved : goal.loop-place-preserved
loop-place-preserved c =
    let e : 0 + c.loop-place.place ≡ c.loop-place.place = omega arith in
    c.in_ok-push.ensures.ok ∙ ap (λ xs. xs ++ c.in_ok-keys.field-0 ∷ []) c.loop-place.invariant
    ∙ ap (λ b. map (keys_of c.args.order c.args.coded.now) (range_with_len 0 c.loop-place.place) ++ b ∷ []) c.in_ok-keys.ensures
    ∙ sym (map-range_with_len_more (keys_of c.args.order c.args.coded.now) 0 c.loop-place.place c.loop-place.place e)

pub returns : goal.returns
returns c =
    let e : c.loop-place.place ≡ 4 = omega (arith, c.loop-place-test.false, c.loop-place.auto.place-end) in
    c.loop-place.invariant ∙ ap (λ n. map (keys_of c.args.order c.args.coded.now) (range_with_len 0 n)) e
