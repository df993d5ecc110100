use Rattle.std.proofs.Common.{◌∙◌, ap}
use Rattle.params.specs.Accepted.{setting_of}
use Rattle.params.specs.Listed.{summaries_at}
use Rattle.params.proofs.Exact.{summaries-are}
use Rattle.params.proofs.listing.summaries.Goals as goal

pub returns : goal.returns
returns c = λ encodings frozen table roots accepted.
    let zero = c.args.machine.now.zero in
    let ps = c.args.graph.now.procs in
    let reads = c.in_ok-reads.reads.items in
    let is = c.in_ok-found.ensures ∙ ap (λ l. summaries_at l c.deref-2.result.now zero 0 ps) c.deref.ensures.value ∙ ap (λ l. summaries_at reads l zero 0 ps) c.deref-2.ensures.value in
    summaries-are (setting_of c.args.machine.now c.args.conv.now encodings frozen) table roots c.args.graph.now accepted _ _ reads c.in_ok-writes.writes.items c.in_ok-calls.ensures c.in_ok-reads.ensures.columns c.in_ok-writes.ensures.columns c.in_ok-found.found is
