use Rattle.std.proofs.Common.{◌≡◌, ℕ, ◌<◌, length, sym, ◌∙◌, subst, arith}
use Rattle.elf32.specs.Spans.{IsPlace}
use Rattle.elf32.proofs.SpanLaws.{none_before, shares_is}
use Rattle.elf32.proofs.taken.Taken.shares_byte.Goals as goal

pub returns-then-place-len : goal.returns-then-place-len
returns-then-place-len c = λ before shows some.
    let spans = c.args.self.now.spans.items in
    let at_end : c.place-place.result ≡ length spans = omega (arith, c.args.self.now.spans.ok.0) in
    let P : ℕ → Type 0 = λ n. IsPlace c.args.h.now.address spans n in
    sym (none_before c.args.h.now spans (subst P at_end (c.place-place.ensures.place shows.ordered))) ∙ shows.same c.args.h.now

pub returns : goal.returns
returns c = λ before shows some.
    let spans = c.args.self.now.spans.items in
    let within : c.place-place.result < length spans = omega (arith, c.args.self.now.spans.ok.0, c.place-place.ensures.within) in
    rw (c.from.ensures, c.end.ensures)
    (shares_is c.args.h.now spans c.place-place.result c.index-next.result.now shows.ordered (c.place-place.ensures.place shows.ordered) within some c.index-next.ensures
    ∙ shows.same c.args.h.now)
