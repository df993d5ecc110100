use Rattle.std.proofs.Common.{◌≡◌, ◌+◌, ap, sym, ◌∙◌, arith, ◌∷◌, [], ◌++◌, map}
use Rattle.std.proofs.lemmas.List.FromFn.{map-range_with_len_more}
use Rattle.std.specs.List.{range_with_len}
use Rattle.sled_match.specs.Allows.{coded_allows as coded_allows_of}
use Rattle.sled_match.proofs.pruning.keys.Goals as goal

pub loop-key-preserved : goal.loop-key-preserved
loop-key-preserved c =
    let e : 0 + c.loop-key.key ≡ c.loop-key.key = omega arith in
    c.in_ok-push.ensures.ok ∙ ap (λ xs. xs ++ c.coded_allows.result ∷ []) c.loop-key.invariant
    ∙ ap (λ b. map (coded_allows_of c.args.order c.args.coded.now c.args.place) (range_with_len 0 c.loop-key.key) ++ b ∷ []) c.coded_allows.ensures
    ∙ sym (map-range_with_len_more (coded_allows_of c.args.order c.args.coded.now c.args.place) 0 c.loop-key.key c.loop-key.key e)

pub returns : goal.returns
returns c =
    let e : c.loop-key.key ≡ 257 = omega (arith, c.loop-key-test.false, c.loop-key.auto.key-end) in
    c.loop-key.invariant ∙ ap (λ n. map (coded_allows_of c.args.order c.args.coded.now c.args.place) (range_with_len 0 n)) e
