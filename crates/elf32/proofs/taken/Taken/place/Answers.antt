use Rattle.std.proofs.Common.{leb, rules}
use Rattle.std.proofs.lemmas.List.Sorted.{IsPartitionPoint-from_clause, IsPartitionedBy-leb}
use Rattle.elf32.specs.Spans.{span_end}
use Rattle.elf32.proofs.SpanLaws.{ends_rise, place_from_point}
use Rattle.elf32.proofs.taken.Taken.place.Goals as goal

-- the search is by ends, which rise
pub returns-clause-place : goal.returns-clause-place
returns-clause-place c = λ ordered.
    let spans = c.args.self.now.spans.items in
    let same = c.deref.ensures.value in
    let clause = rw same at c.partition_point.ensures.partitioned in
    place_from_point c.args.a spans _
    (IsPartitionPoint-from_clause (λ s. leb (span_end s) c.args.a) spans _ clause (IsPartitionedBy-leb span_end spans c.args.a (ends_rise spans ordered)) (λ a r f' k. search rules))
