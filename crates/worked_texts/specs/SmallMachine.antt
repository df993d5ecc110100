-- A small machine, and an instruction on it.
use Rattle.std.specs.Prelude.{List, [], ◌∷◌, Some, None, true}
use Rattle.rtl_core.specs.declared.expr.Bin.TheVariants.{Or}
use Rattle.rtl_core.specs.declared.expr.Expr.{Expr}
use Rattle.rtl_core.specs.declared.expr.Expr.TheVariants as E
use Rattle.rtl_core.specs.declared.expr.Order.TheVariants.{Big}
use Rattle.rtl_core.specs.declared.machine.Machine.{Machine}
use Rattle.rtl_core.specs.declared.transfer.Act.TheVariants.{SetCell}
use Rattle.rtl_core.specs.declared.transfer.Transfer.{Transfer}

-- three cells of 32 bits, the first of them always 0
abbrev pub small_machine : Machine
small_machine = record {
  order = Big;
  align = true;
  delay = None;
  widths = 32 ∷ 32 ∷ 32 ∷ [];
  zero = Some 0;
  windows = None;
  files = [];
  forms = [];
  types = [];
  most_nodes = 4;
}

-- the cell 1 or the constant -1 of 13 bits, its sign extended
abbrev pub or_expression : Expr
or_expression = E.Bin Or (E.Cell 1) (E.Sext 32 (E.Const 13 8191))

-- the same into the cell 2
abbrev pub or_transfers : List Transfer
or_transfers = record { guard = None; act = SetCell 2 or_expression } ∷ []
