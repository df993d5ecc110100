use Rattle.c_read.proofs.SegmentLaws.{Made}
use Rattle.c_read.proofs.program.segments_of.Given as goal

abbrev pub invariant-loop-index : goal.invariant-loop-index
invariant-loop-index l = Made l.arrays l.table l.index l.segments
