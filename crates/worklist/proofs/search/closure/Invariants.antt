use Rattle.std.proofs.Common.{◌≡◌, ◌-◌, ◌≤◌, length}
use Rattle.worklist.proofs.Searched.{IsSearched}
use Rattle.worklist.proofs.search.closure.Given as goal

abbrev pub invariant-loop-at : goal.invariant-loop-at
invariant-loop-at g l = record {
  searched : IsSearched (g.S.Successors.next l.fn.steps) l.starts l.found.keys l.at;
  bound : l.at ≤ length l.found.keys;
  within : length l.found.keys ≤ l.limit;
  same : g.S.Successors.next l.steps ≡ g.S.Successors.next l.fn.steps;
  ready : g.S.Successors.ready l.steps;
  stays : (earlier : _) → g.S.Successors.stays earlier l.fn.steps → g.S.Successors.stays earlier l.steps;
}

abbrev pub decreases-loop-at : goal.decreases-loop-at
decreases-loop-at g l = l.limit - l.at
