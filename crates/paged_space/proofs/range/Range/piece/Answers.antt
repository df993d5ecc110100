use Rattle.std.proofs.Common.{rules, ◌≡◌, length, drop, take, ap, sym, ◌∙◌, arith, ◌+◌, ◌*◌, ◌%◌}
use Rattle.page_pool.specs.Frames.{placed}
use Rattle.std.specs.Prelude.{min, ◌-◌}
use Rattle.paged_space.proofs.FreshPages.{piece_placed}
use Rattle.paged_space.proofs.range.Range.piece.Goals as goal

pub returns-clause-bytes : goal.returns-clause-bytes
returns-clause-bytes c = λ k l.
    let d = c.as_slice-bytes.ensures in
    let n : c.min.result ≡ min c.skipped-from.result (length c.args.self.now.bytes) = search rules in
    let er : c.split_at.result.1.now ≡ drop (min c.skipped-from.result (length c.args.self.now.bytes)) c.args.self.now.bytes = c.split_at.ensures.back ∙ ap (λ xs. drop c.min.result xs) d ∙ ap (λ m. drop m c.args.self.now.bytes) n in
    let ep : c.split_at-2.result.0.now ≡ take (min (4096 - c.start-at.result) (length c.split_at.result.1.now)) c.split_at.result.1.now = c.split_at-2.ensures.front ∙ ap (λ m. take m c.split_at.result.1.now) c.min-2.ensures in
    let es = c.start-at.ensures in
    let ek = c.skipped-from.ensures in
    let f : c.skipped-from.result + c.args.self.now.base % 4096 ≡ 4096 * c.args.j + c.start-at.result = omega (arith, es, ek) in
    ap (λ a. placed a c.split_at-2.result.0.now k) (sym es) ∙ piece_placed c.args.self.now c.args.j c.start-at.result c.skipped-from.result k _ _ es f er ep l
