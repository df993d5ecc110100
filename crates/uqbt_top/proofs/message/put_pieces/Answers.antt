use Rattle.std.proofs.Common.{◌∙◌, ◌≡◌, ◌++◌, ℕ, List, [], ap, sym, suc, take, drop, get_or, arith}
use Rattle.std.specs.Borrow.{Bor}
use Rattle.edge_io.specs.Told.{followed}
use Rattle.edge_io.specs.Output.{TookPart}
use Rattle.uqbt_top.proofs.Pieces.{lent, lent_round, lent_more, followed_on, front_behind, front_of_part, on_err, on_ok}
use Rattle.uqbt_top.proofs.message.put_pieces.Goals as goal

-- what a loop reads past the end
abbrev no_piece : Bor (List ℕ)
no_piece = record { ref_ptr = (0, 0); now = [] }

pub returns-then-is_err : goal.returns-then-is_err
returns-then-is_err g c =
    let i = c.loop-piece.piece-index in
    let ps = c.args.pieces.now in
    let old = g.M.Sink.output c.args.messages.now in
    let mid = g.M.Sink.output c.loop-piece.messages in
    let new = g.M.Sink.output c.put_all.new.out in
    let piece = (get_or ps i no_piece).now in
    let part = on_err c.put_all.result (TookPart mid new piece) c.if-is_err.ensures.value c.put_all.ensures.part in
    let front = front_of_part mid new piece (lent (drop (suc i) ps)) part c.put_all.ensures.front.later in
    rw (lent_round ps i no_piece c.loop-piece-test.true) (front_behind old mid new (lent (take i ps)) (piece ++ lent (drop (suc i) ps)) c.loop-piece.invariant.taken c.loop-piece.invariant.later front)

pub loop-piece-preserved : goal.loop-piece-preserved
loop-piece-preserved g c =
    let i = c.loop-piece.piece-index in
    let ps = c.args.pieces.now in
    let old = g.M.Sink.output c.args.messages.now in
    let mid = g.M.Sink.output c.loop-piece.messages in
    let new = g.M.Sink.output c.put_all.new.out in
    let piece = (get_or ps i no_piece).now in
    let whole = on_ok c.put_all.result (new.taken ≡ followed mid.taken piece) c.if-is_err.ensures.value c.put_all.ensures.whole in
    record {
      taken = whole ∙ ap (λ told. followed told piece) c.loop-piece.invariant.taken ∙ followed_on old.taken (lent (take i ps)) piece
          ∙ ap (λ bs. followed old.taken bs) (sym (lent_more ps i no_piece c.loop-piece-test.true));
      later = omega (arith, c.loop-piece.invariant.later, c.put_all.ensures.front.later);
    }
