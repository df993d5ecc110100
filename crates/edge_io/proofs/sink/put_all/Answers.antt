use Rattle.std.proofs.Common.{ap, arith, rules, length}
use Rattle.edge_io.proofs.Pieces.{put_on}
use Rattle.edge_io.proofs.sink.put_all.Goals as goal

pub loop-done-preserved : goal.loop-done-preserved
loop-done-preserved g c = record {
  within = search rules;
  bytes = put_on _ _ _ _ _ c.loop-done.done c.in-Ok.count c.loop-done.invariant.bytes c.split_at.ensures.back c.in-Ok.ensures.bytes;
  later = search rules;
  untouched = λ none. absurd (let n = ap length none in omega (arith, n));
}
