use Rattle.std.proofs.Common.{take}
use Rattle.std.specs.List.{flat_map}
use Rattle.listing.specs.Words.{word_behind}
use Rattle.c_text.specs.Output.{Took}
use Rattle.listing.proofs.words.put_words.Given as goal

abbrev pub invariant-loop-word : goal.invariant-loop-word
invariant-loop-word g l = Took (g.K.Sink.output l.initial.out) (g.K.Sink.output l.out) (flat_map word_behind (take l.word-index l.words))
