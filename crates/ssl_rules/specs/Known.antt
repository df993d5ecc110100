-- Names that are given, of the kind that their places ask. A surplus operand, which is listed behind the last that the constructor
-- has, is a name of no kind, and is known in each place but that of a function.
use Rattle.std.specs.Prelude.{◌&&◌, ◌||◌, ℕ, Bool, true, is_some, List, Option, Some, None}
use Rattle.std.specs.List.{list_all}
use Rattle.ssl_syntax.specs.declared.line.SslExpr.{SslExpr, fold-SslExpr}
use Rattle.ssl_syntax.specs.declared.line.SslExpr.TheOpen.{SslExpr-F}
use Rattle.ssl_syntax.specs.declared.line.SslPlace.{SslPlace}
use Rattle.ssl_syntax.specs.declared.line.SslPlace.TheVariants as place
use Rattle.ssl_syntax.specs.declared.line.SslAct.{SslAct}
use Rattle.ssl_syntax.specs.declared.line.SslAct.TheVariants as act
use Rattle.ssl_syntax.specs.declared.line.SslTransfer.{SslTransfer}
use Rattle.ssl_syntax.specs.declared.line.ViewPart.{ViewPart}
use Rattle.ssl_syntax.specs.declared.line.ViewPart.TheVariants as part
use Rattle.ssl_rules.specs.declared.tables.Tables.{Tables}
use Rattle.ssl_rules.specs.Lookup.{is_among}
use Rattle.ssl_rules.specs.Names.{Scope, file_named, function_named, is_cell, field_named, lone_named}

module _ (surplus : List (List ℕ)) (s : Scope) where
  -- what stands alone: an operand, a parameter or a cell
  abbrev pub is_known_lone : List ℕ → Bool
  is_known_lone name = is_among name surplus || is_some (lone_named s name)

  -- what has an index: a file or a view
  abbrev pub is_known_file : List ℕ → Bool
  is_known_file name = is_among name surplus || is_some (file_named s.tables name)

  -- what is an index: a field operand
  abbrev pub is_known_field : List ℕ → Bool
  is_known_field name = is_among name surplus || is_some (field_named s name)

  -- the names of a node are known, and those of its parts
  abbrev pub node_known : SslExpr-F Bool → Bool
  node_known (SslExpr-F.Number value width) = true
  node_known (SslExpr-F.Named name) = is_known_lone name
  node_known (SslExpr-F.At name index) = is_known_file name
  node_known (SslExpr-F.AtOp name op) = is_known_file name && is_known_field op
  node_known (SslExpr-F.Load bits a) = a
  node_known (SslExpr-F.Not a) = a
  node_known (SslExpr-F.Neg a) = a
  node_known (SslExpr-F.Bin op a b) = a && b
  node_known (SslExpr-F.Bits a lo hi) = a
  node_known (SslExpr-F.Zext width a) = a
  node_known (SslExpr-F.Sext width a) = a
  node_known (SslExpr-F.If c a b) = c && (a && b)
  node_known (SslExpr-F.Call name args) = is_some (function_named s.tables name) && list_all (λ a. a) args
  node_known SslExpr-F.Pc = true
  node_known SslExpr-F.Next = true

  -- every name of an expression is known
  abbrev pub is_known_expr : SslExpr → Bool
  is_known_expr = fold-SslExpr Bool node_known

  abbrev pub is_known_place : SslPlace → Bool
  is_known_place (place.Named name) = is_known_lone name
  is_known_place (place.At name index) = is_known_file name
  is_known_place (place.AtOp name op) = is_known_file name && is_known_field op
  is_known_place (place.Bits cell lo hi) = is_among cell.name surplus || is_cell s.tables cell
  is_known_place (place.Load bits address) = is_known_expr address

  -- an act; window moves ask for a `windows` line
  abbrev pub is_known_act : Bool → SslAct → Bool
  is_known_act windows (act.Assign width to value) = is_known_place to && is_known_expr value
  is_known_act windows (act.Jump target) = is_known_expr target
  is_known_act windows act.Annul = true
  is_known_act windows (act.Trap number) = is_known_expr number
  is_known_act windows act.Service = true
  is_known_act windows act.WinSave = windows
  is_known_act windows act.WinRestore = windows

  abbrev pub is_known_guard : Option SslExpr → Bool
  is_known_guard None = true
  is_known_guard (Some guard) = is_known_expr guard

  abbrev pub is_known_transfer : Bool → SslTransfer → Bool
  is_known_transfer windows t = is_known_guard t.guard && is_known_act windows t.act

-- the cell of a view's part
abbrev pub is_known_part : Tables → ViewPart → Bool
is_known_part t (part.Whole cell) = is_cell t cell
is_known_part t (part.Bits cell lo hi) = is_cell t cell
