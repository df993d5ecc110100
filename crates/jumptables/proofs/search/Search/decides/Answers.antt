use Rattle.std.proofs.Common.{◌≡◌, suc, ◌+◌, ◌-◌, List, sym, ◌∙◌, ap, arith}
use Rattle.rtl_core.specs.declared.transfer.Transfer.{Transfer}
use Rattle.points.specs.Tables.{most_before}
use Rattle.jumptables.specs.Influence.{decides, spreads, way_decides}
use Rattle.jumptables.proofs.Ways.{decides-next}
use Rattle.jumptables.proofs.search.Search.decides.Goals as goal

pub loop-k-preserved : goal.loop-k-preserved
loop-k-preserved c =
    let s = c.args.self.now in
    let k = c.loop-k.k in
    let flags = c.loop-k.flags in
    let link = c.in-Some.link.now in
    let test = c.loop-k-test.true in
    let left = most_before - (k + 1) in
    let e : suc left ≡ most_before - k = omega (arith, test) in
    let spent = c.spread.ensures.spreads c.if-spread.false ∙ ap (λ (ts : List Transfer). spreads ts flags) c.as_slice.ensures in
    let free = sym (c.spread.ensures.decides ∙ ap (λ (ts : List Transfer). decides ts flags) c.as_slice.ensures) ∙ c.if-spread.false in
    record {
      left = ap (way_decides s.links s.at left link.inst.next) spent ∙ sym (decides-next s.links s.at left c.loop-k.pc link flags c.in-Some.ensures.some free) ∙ ap (λ m. way_decides s.links s.at m c.loop-k.pc flags) e ∙ c.loop-k.invariant.left;
      count = c.spread.ensures.count ∙ c.loop-k.invariant.count;
    }
