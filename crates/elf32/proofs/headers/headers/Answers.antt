use Rattle.std.proofs.Common.{◌≡◌, ◌+◌, ◌*◌, ap, ◌∙◌, arith}
use Rattle.std.specs.Prelude.{length}
use Rattle.std.proofs.lemmas.List.FromFn.{length-map-range_with_len}
use Rattle.elf32.specs.Headers.{header_from, header_of}
use Rattle.elf32.proofs.Rows.{row_more}
use Rattle.elf32.proofs.headers.headers.Goals as goal

pub loop-i-preserved : goal.loop-i-preserved
loop-i-preserved c =
    row_more (header_of c.args.order c.args.file.now) c.loop-i.i _ _ c.header_from.result c.loop-i.invariant c.in_ok-push.ensures.items
    (c.header_from.ensures ∙ ap (λ n. header_from c.args.order c.args.file.now c.loop-i.i (n + 32 * c.loop-i.i)) c.word-start.ensures)

pub returns-clause-few : goal.returns-clause-few
returns-clause-few c =
    let rows : length c.loop-i.found.items ≡ c.loop-i.i = ap length c.loop-i.invariant ∙ length-map-range_with_len (header_of c.args.order c.args.file.now) 0 c.loop-i.i in
    omega arith
