use Rattle.std.proofs.Common.{◌≡◌, ◌≤◌, take, map}
use Rattle.edge_io.specs.Told.{followed}
use Rattle.uqbt_top.specs.Message.{joined}
use Rattle.uqbt_top.proofs.message.put_pieces.Given as goal

abbrev pub invariant-loop-piece : goal.invariant-loop-piece
invariant-loop-piece g l = record {
  taken : (g.M.Sink.output l.messages).taken ≡ followed (g.M.Sink.output l.fn.messages).taken (joined (map (λ p. p.now) (take l.piece-index l.pieces)));
  later : (g.M.Sink.output l.fn.messages).faults ≤ (g.M.Sink.output l.messages).faults;
}
