use Rattle.std.proofs.Common.{◌≡◌, map, take}
use Rattle.elf32.specs.Reading.{segment_of}
use Rattle.elf32.proofs.reading.segments_of.Given as goal

abbrev pub invariant-loop-h : goal.invariant-loop-h
invariant-loop-h l = l.segments ≡ map (segment_of l.file) (take l.h-index l.loads)
