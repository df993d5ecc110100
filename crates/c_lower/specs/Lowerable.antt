-- What can be lowered: the numbers of the cells and of the temporaries fit the C text.
use Rattle.std.specs.Prelude.{ℕ, ◌+◌, ◌≤◌, length}
use Rattle.rtl_core.specs.declared.expr.Expr.{Expr}
use Rattle.rtl_core.specs.declared.machine.Machine.{Machine}
use Rattle.rtl_core.specs.declared.machine.WinShape.{WinShape}
use Rattle.rtl_core.specs.declared.transfer.Act.{Act}
use Rattle.rtl_core.specs.declared.transfer.Transfer.{Transfer}
use Rattle.rtl_core.specs.SoundTerms.{AreWidths, IsSoundTerm, IsSoundAct, IsSoundTransfer}
use Rattle.rtl_core.specs.Terms.{term_of}
use Rattle.c_lower.specs.Accounts.{act_need, guard_need}
use Rattle.c_lower.specs.Code.{need}
use Rattle.c_lower.specs.Theorem.{IsLowerable}

-- the most temporaries of an instruction
abbrev pub most_temporaries : ℕ
most_temporaries = 500

-- a sound expression that takes temporaries from k on
pub record CanLower (m : Machine) (e : Expr) (k : ℕ) : Type 0 where
  pub widths : AreWidths m.widths
  pub sound : IsSoundTerm m.widths (term_of e)
  pub room : k + need (term_of e) ≤ most_temporaries

-- a lowerable machine whose cells have numbers of one byte
pub record HasByteCells (m : Machine) : Type 0 where
  pub machine : IsLowerable m
  pub cells : length m.widths ≤ 256

-- a window of at most 8 cells of each kind, whose cells have numbers of one byte
pub record IsByteShape (w : WinShape) : Type 0 where
  pub few : w.count ≤ 8
  pub outs : w.out_first + w.count ≤ 256
  pub locals : w.local_first + w.count ≤ 256
  pub ins : w.in_first + w.count ≤ 256

-- a sound act
pub record CanLowerAct (m : Machine) (act : Act) : Type 0 where
  pub machine : HasByteCells m
  pub sound : IsSoundAct m act
  pub room : act_need act ≤ most_temporaries

-- a sound transfer
pub record CanLowerTransfer (m : Machine) (t : Transfer) : Type 0 where
  pub machine : HasByteCells m
  pub sound : IsSoundTransfer m t
  pub guard_room : guard_need t.guard ≤ most_temporaries
  pub act_room : act_need t.act ≤ most_temporaries
