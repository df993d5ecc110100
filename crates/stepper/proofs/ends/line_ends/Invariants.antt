use Rattle.std.proofs.Common.{◌≡◌, ◌-◌, true}
use Rattle.points.specs.Bundles.{setting_of}
use Rattle.stepper.specs.LineEnds.{along, ends_within}
use Rattle.stepper.proofs.ends.line_ends.Given as goal

-- the line from the place on ends within the turns left where the whole line ends
abbrev pub invariant-loop : goal.invariant-loop
invariant-loop l = along true l.place (ends_within (setting_of l.fn.on) (l.most - l.counter)) ≡ ends_within (setting_of l.fn.on) l.most l.entry
