use Rattle.elf32.proofs.SpanLaws.{shows_more}
use Rattle.elf32.proofs.taken.Taken.add.Goals as goal

pub returns : goal.returns
returns c = λ before shows some none.
    shows_more c.args.self.now (record { spans = c.insert.new.self }) before c.args.h.now c.place-place.result shows (c.place-place.ensures.place shows.ordered) c.place-place.ensures.within some none c.in_ok-insert.ensures.items
