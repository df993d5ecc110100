-- What a run is made on, and where control is in it.
use Rattle.std.specs.Prelude.{Option, Some, None, Ok, Err}
use Rattle.rtl_core.specs.declared.conv.Conv.{Conv}
use Rattle.rtl_core.specs.declared.machine.Machine.{Machine}
use Rattle.rtl_core.specs.declared.stop.Stop.{Stop}
use Rattle.points.specs.declared.graph.Graph.{Graph}
use Rattle.points.specs.Control.{Control, Move}
use Rattle.graph_control.specs.declared.charted.Charted.{Charted}
use Rattle.graph_control.specs.declared.position.Position.{Position}

-- a machine, its conventions, and the graph of a program
pub record Chart : Type 0 where
  pub machine : Machine
  pub conv : Conv
  pub graph : Graph

abbrev pub chart_of : Charted → Chart
chart_of on = record { machine = on.machine.now; conv = on.conv.now; graph = on.graph.now }

-- where control is
abbrev pub control_of : Position → Control
control_of p = record { point = p.point; target = p.target; calls = p.calls }

-- where a step of control led: on, or to a stop
abbrev pub led : Option Stop → Control → Move
led None c = Ok c
led (Some stop) c = Err stop
