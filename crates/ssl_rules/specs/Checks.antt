-- The checks of one line, where earlier lines gave this much: each a test of the line, or the widths that differ.
use Rattle.std.specs.Prelude.{ℕ, ◌+◌, ◌==◌, nat_lt, nat_le, ◌&&◌, Bool, true, false, not, if◌then◌else◌, List, [], ◌∷◌, length, map, take, drop, is_some, is_none, Option, Some, None}
use Rattle.std.specs.Option.{option_or}
use Rattle.std.specs.List.{list_all}
use Rattle.ssl_syntax.specs.declared.line.SslExpr.{SslExpr}
use Rattle.ssl_syntax.specs.declared.line.SslBody.{SslBody}
use Rattle.ssl_syntax.specs.declared.line.SslBody.TheVariants as body
use Rattle.ssl_syntax.specs.Words.{is_free}
use Rattle.rtl_core.specs.declared.encodings.OperandKind.{OperandKind}
use Rattle.rtl_core.specs.declared.encodings.OperandKind.TheVariants as kind
use Rattle.rtl_core.specs.declared.encodings.Encodings.{Encodings}
use Rattle.ssl_rules.specs.declared.widths.Mismatch.{Mismatch}
use Rattle.ssl_rules.specs.Lookup.{named, is_among}
use Rattle.ssl_rules.specs.Names.{Scope, is_cell, cell_number}
use Rattle.ssl_rules.specs.Known.{is_known_expr, is_known_part, is_known_transfer}
use Rattle.ssl_rules.specs.Counted.{is_counted_expr, is_counted_transfer}
use Rattle.ssl_rules.specs.Widths.{is_width, is_delay, asked, measured, is_transfer_in_range, transfer_differs, first_differing}
use Rattle.ssl_rules.specs.Windows.{is_zero, are_windows, windows_differ}
use Rattle.ssl_rules.specs.Views.{are_parts_in_range, parts_differ}
use Rattle.ssl_rules.specs.Formulas.{expanded, nodes}
use Rattle.ssl_rules.specs.Places.{act_assigns_place}
use Rattle.ssl_rules.specs.Acts.{are_single}
use Rattle.ssl_rules.specs.Templates.{transfers_nodes}
use Rattle.ssl_rules.specs.Given.{Given, constructor_named, named_constructor, kinds_of, constructors_of, type_of, has_template, type_width, template_scope, function_scope, shape_of}

module _ (enc : Encodings) (g : Given) where
  -- the scope of a template's line, by the constructor's name
  abbrev pub scope_of : List ℕ → List (List ℕ) → Scope
  scope_of name ops = template_scope g enc (named_constructor enc name) ops

  abbrev pub kinds_named : List ℕ → List OperandKind
  kinds_named name = kinds_of enc (named_constructor enc name)

  -- the operands that are listed behind the last that the constructor has
  abbrev pub surplus_of : List ℕ → List (List ℕ) → List (List ℕ)
  surplus_of name ops = drop (length (kinds_named name)) ops

  -- ---- names: each is given, of the kind that its place asks

  -- every constructor of an operand's type has a template
  abbrev pub is_known_kind : OperandKind → Bool
  is_known_kind (kind.Field w) = true
  is_known_kind (kind.Typed t) = list_all (has_template g) (constructors_of enc t)

  -- a constructor of an operand, or of an instruction
  abbrev pub is_constructor : Bool → List ℕ → Bool
  is_constructor instruction name = tested (constructor_named enc name)
    where
      tested : Option ℕ → Bool
      tested None = false
      tested (Some c) = if instruction then type_of enc c == 0 else not (type_of enc c == 0)

  -- the constructor, and the operands that are listed
  abbrev pub is_known_head : Bool → List ℕ → List (List ℕ) → Bool
  is_known_head instruction name ops = is_constructor instruction name && list_all is_known_kind (take (length ops) (kinds_named name))

  abbrev pub is_known : SslBody → Bool
  is_known (body.View name count width parts) = list_all (is_known_part g.tables) parts
  is_known (body.Zero cell) = is_cell g.tables cell
  is_known (body.Windows o l i count) = is_cell g.tables o && (is_cell g.tables l && is_cell g.tables i)
  is_known (body.Function name ps e) = is_known_expr [] (function_scope g ps) e
  is_known (body.Operand name ops e) = is_known_head false name ops && is_known_expr (surplus_of name ops) (scope_of name ops) e
  is_known (body.Instruction name ops ts) = is_known_head true name ops && list_all (is_known_transfer (surplus_of name ops) (scope_of name ops) (is_some g.windows)) ts
  is_known _ = true

  -- ---- what may stand once

  -- a name that no earlier line gives and that is not reserved
  abbrev pub is_new : List ℕ → Bool
  is_new name = is_none (named g.tables.names name) && is_free name

  -- new names, each other than those before it
  abbrev pub are_new : List (List ℕ) → List (List ℕ) → Bool
  are_new before [] = true
  are_new before (name ∷ names) = (is_new name && not (is_among name before)) && are_new (name ∷ before) names

  -- the first template of its constructor
  abbrev pub is_first : List ℕ → List (List ℕ) → Bool
  is_first name ops = not (has_template g (named_constructor enc name)) && are_new [] ops

  abbrev pub is_once : SslBody → Bool
  is_once (body.Align answer) = is_none g.align
  is_once (body.Delay bytes) = is_none g.delay
  is_once (body.Cell name w) = is_new name
  is_once (body.Cells name n w) = is_new name
  is_once (body.View name n w parts) = is_new name
  is_once (body.Zero cell) = is_none g.zeroed
  is_once (body.Windows o l i n) = is_none g.windows
  is_once (body.Function name ps e) = are_new [] (name ∷ map (λ p. p.name) ps)
  is_once (body.Operand name ops e) = is_first name ops
  is_once (body.Instruction name ops ts) = is_first name ops

  -- ---- limits

  -- at most 120 cells with n more
  abbrev pub has_room : ℕ → Bool
  has_room n = nat_le (length g.tables.widths + n) 120

  -- at most 4,096 files, views and functions with one more
  abbrev pub has_place : Bool
  has_place = nat_lt (length g.tables.files + length g.tables.functions) 4096

  abbrev pub is_few : SslBody → Bool
  is_few (body.Cell name w) = has_room 1
  is_few (body.Cells name n w) = has_room n && has_place
  is_few (body.View name n w parts) = has_place
  is_few (body.Function name ps e) = has_place
  is_few _ = true

  -- ---- numbers of operands, arguments and parts

  abbrev pub is_counted : SslBody → Bool
  is_counted (body.View name n w parts) = length parts == n
  is_counted (body.Function name ps e) = is_counted_expr (function_scope g ps) e
  is_counted (body.Operand name ops e) = (length ops == length (kinds_named name)) && is_counted_expr (scope_of name ops) e
  is_counted (body.Instruction name ops ts) = (length ops == length (kinds_named name)) && list_all (is_counted_transfer (scope_of name ops)) ts
  is_counted _ = true

  -- ---- ranges

  abbrev pub is_in_range : SslBody → Bool
  is_in_range (body.Align answer) = true
  is_in_range (body.Delay bytes) = is_delay bytes
  is_in_range (body.Cell name w) = is_width w
  is_in_range (body.Cells name n w) = is_width w
  is_in_range (body.View name n w parts) = is_width w && are_parts_in_range g.tables parts
  is_in_range (body.Zero cell) = is_zero (cell_number g.tables cell) g.windows
  is_in_range (body.Windows o l i n) =
      (is_some (cell_number g.tables o) && (is_some (cell_number g.tables l) && is_some (cell_number g.tables i)))
      && are_windows g.tables g.zeroed (shape_of g.tables o l i n)
  is_in_range (body.Function name ps e) = list_all (λ p. is_width p.width) ps && is_some (measured (function_scope g ps) e).width
  is_in_range (body.Operand name ops e) = is_some (measured (scope_of name ops) e).width
  is_in_range (body.Instruction name ops ts) = list_all (is_transfer_in_range (scope_of name ops)) ts

  -- ---- what is assigned

  abbrev pub assigns_places : SslBody → Bool
  assigns_places (body.Instruction name ops ts) = list_all (λ t. act_assigns_place (scope_of name ops) t.act) ts
  assigns_places _ = true

  -- ---- widths that must agree

  -- behind all in it, a template has the width of the first template of its type
  abbrev pub template_differs : List ℕ → List (List ℕ) → SslExpr → Option Mismatch
  template_differs name ops e = option_or (measured (scope_of name ops) e).differs (against (type_width g enc (type_of enc (named_constructor enc name))))
    where
      against : Option ℕ → Option Mismatch
      against None = None
      against (Some w) = asked w (measured (scope_of name ops) e).width

  abbrev pub differing : SslBody → Option Mismatch
  differing (body.View name n w parts) = parts_differ g.tables w parts
  differing (body.Windows o l i n) = windows_differ g.tables (shape_of g.tables o l i n)
  differing (body.Function name ps e) = (measured (function_scope g ps) e).differs
  differing (body.Operand name ops e) = template_differs name ops e
  differing (body.Instruction name ops ts) = first_differing (transfer_differs (scope_of name ops)) ts
  differing _ = None

  -- ---- one jump, one annul, one service, which is last, and one window move

  abbrev pub is_single : SslBody → Bool
  is_single (body.Instruction name ops ts) = are_single ts
  is_single _ = true

  -- ---- nodes

  -- at most 256 nodes after expansion; a parameter is one
  abbrev pub is_small : SslBody → Bool
  is_small (body.Function name ps e) = nat_le (nodes (expanded (function_scope g ps) e)) 256
  is_small (body.Operand name ops e) = nat_le (nodes (expanded (scope_of name ops) e)) 256
  is_small (body.Instruction name ops ts) = nat_le (transfers_nodes (scope_of name ops) ts) 256
  is_small _ = true
