use Rattle.std.proofs.Common.{◌≡◌, ◌∙◌, ◌<◌, ◌++◌, ◌∷◌, [], ℕ, Bool, ap, sym, subst, length, get_or, refl}
use Rattle.std.specs.Prelude.{filter, nat_eq, if◌then◌else◌}
use Rattle.std.specs.List.{list_any, range_with_len}
use Rattle.std.proofs.lemmas.Option.{slice_get_read}
use Rattle.params.specs.Parts.{is_opener, proc_opens, proc_opens_if_any}
use Rattle.params.proofs.CellLists.{chosen-on}
use Rattle.params.proofs.parts.openers_by.Goals as goal

pub loop-place-preserved : goal.loop-place-preserved
loop-place-preserved c =
    let g = c.args.graph.now in
    let e : ℕ → Bool = λ a. list_any (nat_eq a) c.args.empty.now.keys in
    let n = c.loop-place.place in
    let p = is_opener c.args.machine.now e g in
    let same = c.as_slice-proc-items.ensures in
    let there = slice_get_read g.procs (length g.procs) n c.proc-item.result refl (subst (λ l. n < length l) same c.loop-place-test.true) (subst (λ l. c.proc-item.result ≡ get_or l n c.proc-item.result) same c.proc-item.is) in
    let opens : c.opens-opens.result ≡ p n = c.opens-opens.ensures ∙ ap (λ l. proc_opens c.args.machine.now e l c.proc-item.result) c.as_slice.ensures ∙ ap (proc_opens_if_any c.args.machine.now e g.nodes) (sym there) in
    c.in_ok-push_if.ensures ∙ ap (λ l. l ++ (if c.opens-opens.result then n ∷ [] else [])) c.loop-place.invariant ∙ ap (λ b. filter p (range_with_len 0 n) ++ (if b then n ∷ [] else [])) opens ∙ chosen-on p n
