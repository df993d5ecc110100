use Rattle.std.proofs.Common.{arith}
use Rattle.listing.specs.Words.{word_behind}
use Rattle.listing.proofs.Loops.{took_next, part_next, took_end}
use Rattle.c_text.proofs.Written.{took_nothing, any_err}
use Rattle.listing.proofs.words.put_words.Goals as goal

pub loop-word-init : goal.loop-word-init
loop-word-init g c = took_nothing

pub returns-in_err-put_word_behind-clause-part : goal.returns-in_err-put_word_behind-clause-part
returns-in_err-put_word_behind-clause-part g c = any_err _ (part_next word_behind c.args.words.now c.loop-word.word-index _ (omega arith) c.loop-word.invariant c.in_err-put_word_behind.ensures.part)

pub loop-word-preserved : goal.loop-word-preserved
loop-word-preserved g c = took_next word_behind c.args.words.now c.loop-word.word-index _ (omega arith) c.loop-word.invariant c.in_ok-put_word_behind.ensures.took

pub returns-clause-took : goal.returns-clause-took
returns-clause-took g c = took_end word_behind c.args.words.now c.loop-word.word-index c.loop-word-test.false c.loop-word.invariant
