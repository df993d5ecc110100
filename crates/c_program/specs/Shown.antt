-- What the data stand for that blocks are made from.
use Rattle.std.specs.Prelude.{◌≡◌, ℕ, ◌^◌, ◌<◌, ◌≤◌, List, map, length, Option, Some, None}
use Rattle.std.specs.List.{All, Contains}
use Rattle.std.specs.List.Sorted.{IsNonDecreasingBy}
use Rattle.rtl_core.specs.declared.point.Slot.{Slot}
use Rattle.rtl_core.specs.SoundConv.{AreSoundTogether}
use Rattle.rtl_core.specs.declared.point.Slot.TheVariants.{Dyn, CallTo, CallDyn}
use Rattle.points.specs.declared.graph.Pad.{Pad}
use Rattle.points.specs.declared.graph.Summary.{Summary}
use Rattle.points.specs.Kinds.{second}
use Rattle.c_control.specs.Plans.{Plan, pad_by}
use Rattle.c_program.specs.declared.sources.Sources.{Sources}
use Rattle.c_program.specs.Trees.{tree_of}

-- the entries of procedures with summaries
abbrev pub entries_of : List Summary → List ℕ
entries_of sums = map (λ s. s.entry) sums

-- a summary has the cells that its procedure gets, and those that it hands back
pub record IsSummaryOf (plan : Plan) (s : Summary) : Type 0 where
  pub refs : plan.refs s.entry ≡ s.refs
  pub mods : plan.mods s.entry ≡ s.mods

-- a pad leads from its return address to the second return point, near by
pub record IsPadOf (plan : Plan) (p : Pad) : Type 0 where
  pub second : second plan.flow.setting p.at ≡ Some p.second
  pub near : pad_by p.at (Some p.second) < 2 ^ 31

-- the data are those of a plan, and each list ascends
pub record Shows (plan : Plan) (on : Sources) : Type 0 where
  pub sound : AreSoundTogether plan.flow.setting.encodings plan.flow.setting.machine plan.flow.setting.conv
  pub machine : plan.flow.setting.machine ≡ on.machine.now
  pub conv : plan.flow.setting.conv ≡ on.conv.now
  pub tables_rise : IsNonDecreasingBy (λ t. t.at) on.tables.now
  pub tables : All (λ t. plan.flow.table t.at ≡ t.targets) on.tables.now
  pub pads_rise : IsNonDecreasingBy (λ p. p.at) on.pads.now
  pub pads : All (IsPadOf plan) on.pads.now
  pub sums_rise : IsNonDecreasingBy (λ s. s.entry) on.sums.now
  pub sums : All (IsSummaryOf plan) on.sums.now
  pub some : 1 ≤ length on.sums.now
  pub own : IsSummaryOf plan on.own.now
  pub tree : plan.tree ≡ tree_of (entries_of on.sums.now)

-- the return address of a call
abbrev pub back_of : Slot → Option ℕ
back_of (CallTo t back) = Some back
back_of (CallDyn back) = Some back
back_of slot = None

-- the pad at a return address is among the data, where one stands there
pub record HasPads (plan : Plan) (on : Sources) (back : ℕ) : Type 0 where
  pub pad : (s : ℕ) → second plan.flow.setting back ≡ Some s → Contains (map (λ p. p.at) on.pads.now) back

-- the data know what an arrival asks for: the table of a computed jump, the procedure that is called, and the pad at a
-- return address
pub record IsKnown (plan : Plan) (on : Sources) (slot : Slot) : Type 0 where
  pub table : (a : ℕ) → slot ≡ Dyn a → Contains (map (λ t. t.at) on.tables.now) a
  pub callee : (t back : ℕ) → slot ≡ CallTo t back → Contains (entries_of on.sums.now) t
  pub pads : (back : ℕ) → back_of slot ≡ Some back → HasPads plan on back
