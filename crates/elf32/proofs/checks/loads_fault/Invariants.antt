use Rattle.std.proofs.Common.{◌≡◌, [], take, drop}
use Rattle.elf32.specs.Faults.{loads_fault}
use Rattle.elf32.specs.Spans.{Shows}
use Rattle.elf32.proofs.checks.loads_fault.Given as goal

abbrev pub invariant-loop-h : goal.invariant-loop-h
invariant-loop-h l = record {
  same : loads_fault l.len (take l.h-index l.loads) (drop l.h-index l.loads) ≡ loads_fault l.len [] l.loads;
  shows : Shows l.taken (take l.h-index l.loads);
}
