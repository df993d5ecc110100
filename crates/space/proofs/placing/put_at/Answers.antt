use Rattle.std.proofs.Common.{◌≡◌, ◌<◌, ap, ◌∙◌, arith}
use Rattle.std.specs.List.{insert}
use Rattle.space.specs.Faults.{passes_end}
use Rattle.space.specs.Ranges.{memory_of}
use Rattle.space.specs.Order.{ascends}
use Rattle.space.proofs.Inserts.{filled, left_out, gap_at, inserted}
use Rattle.space.proofs.Exact.{meets_none}
use Rattle.space.proofs.placing.put_at.Goals as goal

pub returns-then-range-eq0 : goal.returns-then-range-eq0
returns-then-range-eq0 c = left_out _ _ c.requires.ordered c.if-range-eq0.true

pub returns : goal.returns
returns c =
    let kept = c.args.kept.now.items in
    let r = c.args.range.now in
    let apart = meets_none (passes_end r) kept c.args.index r c.requires.free in
    let some : 0 < r.len = omega arith in
    let p = inserted kept r c.args.at (gap_at kept r c.args.at c.requires.ordered c.requires.passed some apart) c.requires.room some in
    let e : c.insert.new.self.items ≡ insert kept c.args.at (filled r) = c.in_ok-insert.ensures.items ∙ ap (insert kept c.args.at) c.in_ok-whole.ensures in
    record { ordered = ap (ascends 0) e ∙ p.ordered; same = ap memory_of e ∙ p.same }
