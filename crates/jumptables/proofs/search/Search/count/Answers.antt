use Rattle.std.proofs.Common.{◌≡◌, suc, ◌+◌, ◌-◌, Some, option_map, sym, ◌∙◌, ap, arith}
use Rattle.points.specs.Tables.{most_before}
use Rattle.jumptables.specs.Links.{counted}
use Rattle.jumptables.proofs.Ways.{counted-here, counted-none, counted-next, counted-end, counts-on}
use Rattle.jumptables.proofs.search.Search.count.Goals as goal

pub returns-then-pc-self : goal.returns-then-pc-self
returns-then-pc-self c =
    let s = c.args.self.now in
    let k = c.loop-k.k in
    let same : k ≡ k + 0 = omega arith in
    ap Some same ∙ sym (ap (option_map (λ n. k + n)) (counted-here s.links s.at (most_before - k) c.loop-k.pc c.if-pc-self.true)) ∙ c.loop-k.invariant

pub returns-in_default : goal.returns-in_default
returns-in_default c =
    let s = c.args.self.now in
    let k = c.loop-k.k in
    sym (ap (option_map (λ n. k + n)) (counted-none s.links s.at (most_before - k) c.loop-k.pc c.if-pc-self.false c.in_default.ensures.none)) ∙ c.loop-k.invariant

pub loop-k-preserved : goal.loop-k-preserved
loop-k-preserved c =
    let s = c.args.self.now in
    let k = c.loop-k.k in
    let test = c.loop-k-test.true in
    let left = most_before - (k + 1) in
    let e : suc left ≡ most_before - k = omega (arith, test) in
    let step = counted-next s.links s.at left c.loop-k.pc (Some c.in-Some.link.now) c.if-pc-self.false c.in-Some.ensures.some in
    counts-on k (counted s.links s.at left c.in-Some.link.now.inst.next) ∙ ap (option_map (λ n. k + n)) (sym step ∙ ap (λ m. counted s.links s.at m c.loop-k.pc) e) ∙ c.loop-k.invariant

pub returns-else-pc-self-2 : goal.returns-else-pc-self-2
returns-else-pc-self-2 c =
    let s = c.args.self.now in
    let k = c.loop-k.k in
    let test = c.loop-k-test.false in
    let z : most_before - k ≡ 0 = omega (arith, test) in
    sym (ap (option_map (λ n. k + n)) (ap (λ m. counted s.links s.at m c.loop-k.pc) z ∙ counted-end s.links s.at c.loop-k.pc c.if-pc-self-2.false)) ∙ c.loop-k.invariant
