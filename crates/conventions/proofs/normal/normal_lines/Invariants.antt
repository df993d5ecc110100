use Rattle.conventions.specs.Names.{instructions}
use Rattle.conventions.proofs.Steps.{IsReadTo}
use Rattle.conventions.proofs.normal.normal_lines.Given as goal

abbrev pub invariant-loop-line : goal.invariant-loop-line
invariant-loop-line l = IsReadTo (instructions l.enc) l.named l.lines l.line-index l.said
