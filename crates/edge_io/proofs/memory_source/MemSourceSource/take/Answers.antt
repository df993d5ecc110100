use Rattle.std.proofs.Common.{◌≡◌, ◌∙◌, ap, sym, rules, Some, take, drop, length, ◌+◌, ◌-◌, ◌≤◌}
use Rattle.edge_io.proofs.Pieces.{copied_from}
use Rattle.edge_io.specs.SourceState.{SourceState}
use Rattle.edge_io.proofs.memory_source.MemSourceSource.take.Goals as goal

pub returns-clause-bytes : goal.returns-clause-bytes
returns-clause-bytes c =
    let at = c.self.inside.at in
    let n = c.min-count.result in
    let bytes = c.self.inside.bytes.items in
    let fits : at + n ≤ length bytes = search rules in
    let copied : c.copy_from_slice.new.self ≡ take (at + n - at) (drop at bytes) = c.copy_from_slice.ensures.after ∙ ap (λ xs. take (at + n - at) (drop at xs)) c.deref.ensures.value in
    ap Some (sym (ap (λ (s : SourceState). s.left) c.self.view_is) ∙ copied_from bytes _ (drop n c.args.buf.now) at n fits copied)
