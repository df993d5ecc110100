use Rattle.std.proofs.Common.{sym, ap, arith}
use Rattle.rtl_core.specs.Contents.{is_writable}
use Rattle.paged_space.proofs.WholeSpace.{place_low, found_at, nowhere}
use Rattle.paged_space.specs.PageTable.{table}
use Rattle.paged_space.proofs.pages.writable_in.Goals as goal

pub bounds-writes-k : goal.bounds-writes-k
bounds-writes-k c =
    let w = place_low (table c.args.extents.now c.args.frames.now c.args.writes.now) c.args.a c.in-Some.k c.requires (sym c.in-Some.ensures) in
    let f = c.requires.flags in
    omega (arith, w, f)

pub returns-in-Some : goal.returns-in-Some
returns-in-Some c = λ s.
    let w = place_low (table c.args.extents.now c.args.frames.now c.args.writes.now) c.args.a c.in-Some.k c.requires (sym c.in-Some.ensures) in
    sym (ap is_writable (found_at (table c.args.extents.now c.args.frames.now c.args.writes.now) s c.args.a c.in-Some.k (sym c.in-Some.ensures) w))

pub returns-in-None : goal.returns-in-None
returns-in-None c = λ s. sym (ap is_writable (nowhere (table c.args.extents.now c.args.frames.now c.args.writes.now) s c.args.a (sym c.in-None.ensures)))
