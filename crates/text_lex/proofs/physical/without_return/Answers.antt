use Rattle.std.proofs.Common.{sym, ◌∙◌, arith, inl, inr}
use Rattle.text_lex.proofs.LineEnds.{return_cut, return_kept}
use Rattle.text_lex.proofs.physical.without_return.Goals as goal
use Rattle.text_lex.proofs.physical.without_return.Goals.{else-len-gt0-via-then-len-gt0+else-line-len-eq13, else-len-gt0-via-else-len-gt0}

pub returns-then-line-len-eq13 : goal.returns-then-line-len-eq13
returns-then-line-len-eq13 c = c.split_at.ensures.front ∙ sym (return_cut c.args.line.now (omega arith) (omega arith))

pub returns : goal.returns
returns c = sym (return_kept c.args.line.now (elim c.else-len-gt0.branch [ else-len-gt0-via-then-len-gt0+else-line-len-eq13 w ↦ inr w.if-line-len-eq13.false | else-len-gt0-via-else-len-gt0 w ↦ inl (omega arith) ]))
