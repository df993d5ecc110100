use Rattle.ssl_core.proofs.TextSteps.{IsBehind}
use Rattle.ssl_core.proofs.normal.machine_or_fault.Given as goal

abbrev pub invariant-loop-line : goal.invariant-loop-line
invariant-loop-line l = IsBehind l.enc l.lines l.line-index l.given
