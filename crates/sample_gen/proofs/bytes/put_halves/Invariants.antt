use Rattle.std.proofs.Common.{◌≡◌, ◌++◌, take}
use Rattle.std.specs.List.{flat_map}
use Rattle.sample_gen.specs.Bytes.{bytes_of}
use Rattle.sample_gen.proofs.bytes.put_halves.Given as goal

abbrev pub invariant-loop-half : goal.invariant-loop-half
invariant-loop-half l = l.out.items ≡ l.initial.out.items ++ flat_map (bytes_of l.kind 2) (take l.half-index l.numbers)
