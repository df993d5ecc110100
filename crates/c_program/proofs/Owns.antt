-- The same data for another procedure.
use Rattle.std.proofs.Common.{List}
use Rattle.std.specs.List.{All}
use Rattle.rtl_core.specs.declared.point.Slot.{Slot}
use Rattle.points.specs.declared.graph.Node.{Node}
use Rattle.points.specs.declared.graph.Summary.{Summary}
use Rattle.c_control.specs.Plans.{Plan}
use Rattle.c_program.specs.declared.sources.Sources.{Sources}
use Rattle.c_program.specs.Ready.{IsReady}
use Rattle.c_program.specs.Shown.{Shows, IsKnown, IsSummaryOf}
use denote.Ref.{Bor}

module _ (plan : Plan) (on : Sources) (own : Bor Summary) where
  abbrev pub here : Sources
  here = record on { own = own }

  pub shows-here : Shows plan on → IsSummaryOf plan own.now → Shows plan here
  shows-here h is = record {
    sound = h.sound;
    machine = h.machine;
    conv = h.conv;
    tables_rise = h.tables_rise;
    tables = h.tables;
    pads_rise = h.pads_rise;
    pads = h.pads;
    sums_rise = h.sums_rise;
    sums = h.sums;
    some = h.some;
    own = is;
    tree = h.tree;
  }

  known-here : (slot : Slot) → IsKnown plan on slot → IsKnown plan here slot
  known-here slot h = record { table = h.table; callee = h.callee; pads = λ back is. record { pad = (h.pads back is).pad } }

  pub ready-here : (n : Node) → IsReady plan on n → IsReady plan here n
  ready-here n h = record {
    here = h.here;
    known = λ inst kind is. record {
      step = λ goes.
          let step = (h.known inst kind is).step goes in
          record { slot = known-here _ step.slot; pending = λ fresh can. known-here _ (step.pending fresh can) };
    };
  }

  pub all-ready : (nodes : List Node) → All (IsReady plan on) nodes → All (IsReady plan here) nodes
  all-ready nodes h k d within = ready-here _ (h k d within)
