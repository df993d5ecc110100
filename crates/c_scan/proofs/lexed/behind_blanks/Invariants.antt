use Rattle.std.proofs.Common.{length, ◌-◌, ◌≡◌, ◌≤◌, drop}
use Rattle.c_text.specs.Tokens.{tokens}
use Rattle.c_scan.proofs.lexed.behind_blanks.Given as goal

abbrev pub invariant-more : goal.invariant-more
invariant-more l = (l.from ≤ l.at) × ((l.at ≤ length l.text) × (tokens (drop l.at l.text) ≡ tokens (drop l.from l.text)))

abbrev pub decreases-more : goal.decreases-more
decreases-more l = length l.text - l.at
