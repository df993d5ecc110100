use Rattle.std.proofs.Common.{◌∷◌, drop, sym, ap, ◌∙◌, arith, drop-drop}
use Rattle.text_lex.specs.Lines.{physical_lines}
use Rattle.text_lex.specs.Splits.{without_return}
use Rattle.text_lex.proofs.LineEnds.{whole, ends_there}
use Rattle.text_lex.proofs.physical.split_line.Goals as goal

pub returns-then-len-text-clause-lines : goal.returns-then-len-text-clause-lines
returns-then-len-text-clause-lines c = whole c.args.text.now c.len_before-len.result c.len_before-len.ensures.value (omega arith)

pub returns-clause-lines : goal.returns-clause-lines
returns-clause-lines c =
    let line = c.without_return.ensures ∙ ap without_return c.split_at.ensures.front in
    let behind = c.split_at-2.ensures.back ∙ ap (drop 1) c.split_at.ensures.back ∙ drop-drop 1 c.len_before-len.result c.args.text.now in
    ends_there c.args.text.now c.len_before-len.result c.len_before-len.ensures.value (omega arith) ∙ (λ i. sym line i ∷ physical_lines (sym behind i))
