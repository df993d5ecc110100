use Rattle.std.proofs.Common.{◌≡◌, ◌++◌, take}
use Rattle.std.specs.List.{flat_map}
use Rattle.sample_gen.specs.Bytes.{bytes_of}
use Rattle.sample_gen.proofs.bytes.put_words.Given as goal

abbrev pub invariant-loop-word : goal.invariant-loop-word
invariant-loop-word l = l.out.items ≡ l.initial.out.items ++ flat_map (bytes_of l.kind 4) (take l.word-index l.numbers)
