use Rattle.std.proofs.Common.{◌≡◌, ◌<◌, sym, ap, subst, arith, length, get_or}
use Rattle.std.proofs.lemmas.List.{length-map}
use Rattle.std.specs.List.{zip}
use Rattle.points.specs.declared.graph.Proc.{Proc}
use Rattle.points.specs.declared.graph.Summary.{Summary}
use Rattle.edge_io.specs.Output.{TookPart}
use Rattle.c_text.specs.Output.{Took}
use Rattle.c_text.proofs.Written.{any_err}
use Rattle.listing.specs.Lists.{proc_text}
use Rattle.listing.proofs.Loops.{took_next, part_next, took_end}
use Rattle.listing.proofs.OneTable.{zipped, length-zip}
use Rattle.listing.proofs.list.list_all.Goals as goal

pub returns-in_err-put_proc-clause-part : goal.returns-in_err-put_proc-clause-part
returns-in_err-put_proc-clause-part g c =
    let gr = c.args.graph.now in
    let ss = c.args.sums.now in
    let i = c.loop-place.place in
    let p = c.index-procs-place.result in
    let s = c.index-sums-place.result in
    let even : length ss ≡ length gr.procs = omega (arith, ap length c.requires.summaries, length-map ss (λ (x : Summary). x.entry), length-map gr.procs (λ (x : Proc). x.entry)) in
    let lt : i < length gr.procs = omega (arith, c.loop-place-test.true, ap length c.as_slice-procs.ensures) in
    let pair = zipped gr.procs ss i p s lt even (subst (λ xs. p ≡ get_or xs i p) c.as_slice-procs.ensures c.index-procs-place.is) c.index-sums-place.is in
    any_err _ (part_next (λ ps. proc_text gr ps.0 ps.1) (zip gr.procs ss) i (p, s) (omega (arith, lt, length-zip gr.procs ss even)) c.loop-place.invariant
    (subst (TookPart (g.K.Sink.output c.loop-place.out) (g.K.Sink.output c.put_proc.new.out)) (sym (ap (λ ps. proc_text gr ps.0 ps.1) pair)) c.in_err-put_proc.ensures.part))

pub loop-place-preserved : goal.loop-place-preserved
loop-place-preserved g c =
    let gr = c.args.graph.now in
    let ss = c.args.sums.now in
    let i = c.loop-place.place in
    let p = c.index-procs-place.result in
    let s = c.index-sums-place.result in
    let even : length ss ≡ length gr.procs = omega (arith, ap length c.requires.summaries, length-map ss (λ (x : Summary). x.entry), length-map gr.procs (λ (x : Proc). x.entry)) in
    let lt : i < length gr.procs = omega (arith, c.loop-place-test.true, ap length c.as_slice-procs.ensures) in
    let pair = zipped gr.procs ss i p s lt even (subst (λ xs. p ≡ get_or xs i p) c.as_slice-procs.ensures c.index-procs-place.is) c.index-sums-place.is in
    took_next (λ ps. proc_text gr ps.0 ps.1) (zip gr.procs ss) i (p, s) (omega (arith, lt, length-zip gr.procs ss even)) c.loop-place.invariant
    (subst (Took (g.K.Sink.output c.loop-place.out) (g.K.Sink.output c.put_proc.new.out)) (sym (ap (λ ps. proc_text gr ps.0 ps.1) pair)) c.in_ok-put_proc.ensures.took)

pub returns-clause-took : goal.returns-clause-took
returns-clause-took g c =
    let gr = c.args.graph.now in
    let ss = c.args.sums.now in
    let even : length ss ≡ length gr.procs = omega (arith, ap length c.requires.summaries, length-map ss (λ (x : Summary). x.entry), length-map gr.procs (λ (x : Proc). x.entry)) in
    took_end (λ ps. proc_text gr ps.0 ps.1) (zip gr.procs ss) c.loop-place.place (omega (arith, c.loop-place-test.false, ap length c.as_slice-procs.ensures, length-zip gr.procs ss even)) c.loop-place.invariant
