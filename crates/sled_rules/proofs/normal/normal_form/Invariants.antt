use Rattle.sled_rules.proofs.TextSteps.{IsBehind}
use Rattle.sled_rules.proofs.normal.normal_form.Given as goal

abbrev pub invariant-loop-line : goal.invariant-loop-line
invariant-loop-line l = IsBehind l.lines l.line-index l.known
