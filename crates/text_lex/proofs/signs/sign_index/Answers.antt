use Rattle.std.proofs.Common.{sym, ap, ◌∙◌, arith}
use Rattle.std.specs.Str.{bytes_eq}
use Rattle.text_lex.proofs.SignSearch.{found, later, never}
use Rattle.text_lex.proofs.signs.sign_index.Goals as goal

pub returns-then-eq : goal.returns-then-eq
returns-then-eq c = found c.args.word.now c.loop-index.index c.loop-index.invariant (omega arith) (ap (λ s. bytes_eq s c.args.word.now) (sym c.sign_bytes.ensures) ∙ sym c.eq.ensures ∙ c.if-eq.true)

pub loop-index-preserved : goal.loop-index-preserved
loop-index-preserved c = later c.args.word.now c.loop-index.index c.loop-index.invariant (omega arith) (ap (λ s. bytes_eq s c.args.word.now) (sym c.sign_bytes.ensures) ∙ sym c.eq.ensures ∙ c.if-eq.false)

pub returns : goal.returns
returns c = never c.args.word.now c.loop-index.index c.loop-index.invariant (omega arith)
