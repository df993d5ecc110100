use Rattle.std.proofs.Common.{◌∙◌, ◌≤◌, ap, length, subst}
use Rattle.std.specs.Prelude.{map}
use Rattle.std.proofs.lemmas.List.{take_all}
use Rattle.params.specs.Listed.{whole_summary}
use Rattle.params.proofs.Choosing.{whole-are}
use Rattle.params.proofs.listing.whole_summaries.Goals as goal

pub returns : goal.returns
returns c =
    let m = c.args.machine.now in
    let ps = c.args.graph.now.procs in
    whole-are m c.args.graph.now c.loop-proc.summaries (c.loop-proc.invariant ∙ ap (map (whole_summary (length m.widths) m.zero)) (take_all c.loop-proc.proc-index ps (subst (λ l. length l ≤ c.loop-proc.proc-index) c.as_slice-proc-items.ensures c.loop-proc-test.false)))
