use Rattle.std.proofs.Common.{◌≡◌, suc, ◌+◌, ◌-◌, ◌||◌, Bool, true, false, List, get_or, sym, ◌∙◌, ap, arith}
use Rattle.points.specs.Tables.{most_before}
use Rattle.jumptables.specs.Links.{mention}
use Rattle.jumptables.proofs.Ways.{mention-none, mention-next}
use Rattle.jumptables.proofs.search.Search.mentions.Goals as goal

pub returns-in_default : goal.returns-in_default
returns-in_default c =
    let s = c.args.self.now in
    let cell = c.args.cell in
    let of_jump = sym (c.flag.ensures ∙ ap (λ (l : List Bool). get_or l cell false) c.as_slice.ensures) ∙ c.if-flag.false in
    let of_way = sym c.loop-k.invariant ∙ mention-none s.links s.at cell (most_before - c.loop-k.k) c.loop-k.pc c.in_default.ensures.none in
    sym (λ i. of_jump i || of_way i)

pub returns-then-flag-2 : goal.returns-then-flag-2
returns-then-flag-2 c =
    let s = c.args.self.now in
    let cell = c.args.cell in
    let k = c.loop-k.k in
    let test = c.loop-k-test.true in
    let left = most_before - (k + 1) in
    let e : suc left ≡ most_before - k = omega (arith, test) in
    let of_jump = sym (c.flag.ensures ∙ ap (λ (l : List Bool). get_or l cell false) c.as_slice.ensures) ∙ c.if-flag.false in
    let of_link = sym (c.flag-in-loop-k.ensures ∙ ap (λ (l : List Bool). get_or l cell false) c.as_slice-in-loop-k.ensures) ∙ c.if-flag-2.true in
    let of_way = sym c.loop-k.invariant ∙ sym (ap (λ m. mention s.links s.at cell m c.loop-k.pc) e) ∙ mention-next s.links s.at cell left c.loop-k.pc c.in-Some.link.now true c.in-Some.ensures.some of_link in
    sym (λ i. of_jump i || of_way i)

pub loop-k-preserved : goal.loop-k-preserved
loop-k-preserved c =
    let s = c.args.self.now in
    let cell = c.args.cell in
    let k = c.loop-k.k in
    let test = c.loop-k-test.true in
    let left = most_before - (k + 1) in
    let e : suc left ≡ most_before - k = omega (arith, test) in
    let of_link = sym (c.flag-in-loop-k.ensures ∙ ap (λ (l : List Bool). get_or l cell false) c.as_slice-in-loop-k.ensures) ∙ c.if-flag-2.false in
    sym (mention-next s.links s.at cell left c.loop-k.pc c.in-Some.link.now false c.in-Some.ensures.some of_link) ∙ ap (λ m. mention s.links s.at cell m c.loop-k.pc) e ∙ c.loop-k.invariant
