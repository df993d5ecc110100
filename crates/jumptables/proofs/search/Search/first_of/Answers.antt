use Rattle.std.proofs.Common.{◌≡◌, ◌-◌, subst, arith, below_more}
use Rattle.jumptables.specs.Search.{sought, IsGood}
use Rattle.jumptables.proofs.search.Search.first_of.Goals as goal

pub returns-in-Some-clause-first : goal.returns-in-Some-clause-first
returns-in-Some-clause-first c =
    let a = c.args in
    let g = sought a.self.now in
    let back = c.loop-back.back in
    let test = c.loop-back-test.true in
    let far = c.farthest-back-end.ensures.at in
    let most = c.farthest-back-end.ensures.most in
    record {
      near = record { within = omega arith; near = omega (arith, test, far, most) };
      good = c.in-Some.ensures.least.has;
      lower = c.in-Some.ensures.least.least;
      nearer = λ start k lt near good.
          let within = near.within in
          let same : start ≡ g.at - (g.at - start) = omega (arith, within) in
          c.loop-back.invariant.below (g.at - start) (omega (arith, lt, within, test, far)) k (subst (λ q. IsGood g a.kind a.count q k) same good);
    }

pub loop-back-preserved : goal.loop-back-preserved
loop-back-preserved c = record { below = below_more _ _ c.loop-back.invariant.below c.in_default.ensures.least; room = c.in_default.ensures.room }

pub returns-clause-first : goal.returns-clause-first
returns-clause-first c = λ start k near good.
    let a = c.args in
    let g = sought a.self.now in
    let within = near.within in
    let close = near.near in
    let end = c.loop-back-test.false in
    let far = c.farthest-back-end.ensures.all (g.at - start) (omega (arith, within)) (omega (arith, close)) in
    let same : start ≡ g.at - (g.at - start) = omega (arith, within) in
    c.loop-back.invariant.below (g.at - start) (omega (arith, far, end)) k (subst (λ q. IsGood g a.kind a.count q k) same good)
