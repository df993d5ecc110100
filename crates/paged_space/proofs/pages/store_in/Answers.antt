use Rattle.std.proofs.Common.{ℕ, length, sym, ap, ◌∙◌, arith, subst, refl, List, length-set}
use Rattle.std.specs.Prelude.{slice_index, count_by, ◌==◌, ◌≤◌}
use Rattle.rtl_core.specs.Contents.{is_writable}
use Rattle.paged_space.proofs.WholeSpace.{place_low, found_at, nowhere, standing_held, idle_facts, wrote, IsPut}
use Rattle.paged_space.specs.PageTable.{table}
use Rattle.paged_space.proofs.pages.store_in.Goals as goal

pub bounds-writes-k : goal.bounds-writes-k
bounds-writes-k c =
    let w = place_low (table c.args.extents.now c.args.frames.now c.args.writes.now) c.args.a c.in-Some.k c.requires.sound (sym c.in-Some.ensures) in
    let f = c.requires.sound.flags in
    omega (arith, w, f)

pub returns-then-not-writes-k : goal.returns-then-not-writes-k
returns-then-not-writes-k c =
    let w = place_low (table c.args.extents.now c.args.frames.now c.args.writes.now) c.args.a c.in-Some.k c.requires.sound (sym c.in-Some.ensures) in
    let n = ap is_writable (found_at (table c.args.extents.now c.args.frames.now c.args.writes.now) c.args.pool.now c.args.a c.in-Some.k (sym c.in-Some.ensures) w) ∙ c.if-not-writes-k.true in
    let i = idle_facts (table c.args.extents.now c.args.frames.now c.args.writes.now) c.args.a c.args.v c.args.pool.now c.requires.stand c.requires.ready n in
    record { long = refl; once = c.requires.sound.once; written = sym n; contents = i.contents; stand = i.stands; ready = i.ready; follows = i.follows }

pub write_page-requires-clause-held : goal.write_page-requires-clause-held
write_page-requires-clause-held c =
    standing_held c.args.frames.now c.in-Some.k c.args.pool.now c.requires.stand (place_low (table c.args.extents.now c.args.frames.now c.args.writes.now) c.args.a c.in-Some.k c.requires.sound (sym c.in-Some.ensures))

pub returns-else-not-writes-k : goal.returns-else-not-writes-k
returns-else-not-writes-k c =
    let e = c.write_page.ensures.frames in
    let q = wrote (table c.args.extents.now c.args.frames.now c.args.writes.now) c.in-Some.k (slice_index c.write_page.new.frames c.in-Some.k) c.args.a c.args.v c.args.pool.now c.write_page.new.pool c.write_page.result c.requires.sound c.requires.stand c.requires.ready (sym c.in-Some.ensures) c.if-not-writes-k.false c.write_page.ensures.written c.write_page.ensures.refused in
    let i = subst (λ (fs : List ℕ). IsPut (table c.args.extents.now c.args.frames.now c.args.writes.now) (table c.args.extents.now fs c.args.writes.now) c.args.pool.now c.write_page.new.pool c.args.a c.args.v) (sym e) q.1 in
    record { long = ap length e ∙ length-set c.args.frames.now c.in-Some.k _; once = subst (λ (fs : List ℕ). (n : ℕ) → count_by (λ f. f == n) fs ≤ 1) (sym e) q.2; written = q.0; contents = i.contents; stand = i.stands; ready = i.ready; follows = i.follows }

pub returns-in-None : goal.returns-in-None
returns-in-None c =
    let n = ap is_writable (nowhere (table c.args.extents.now c.args.frames.now c.args.writes.now) c.args.pool.now c.args.a (sym c.in-None.ensures)) in
    let i = idle_facts (table c.args.extents.now c.args.frames.now c.args.writes.now) c.args.a c.args.v c.args.pool.now c.requires.stand c.requires.ready n in
    record { long = refl; once = c.requires.sound.once; written = sym n; contents = i.contents; stand = i.stands; ready = i.ready; follows = i.follows }
