-- What lines give, one after another.
use Rattle.std.specs.Prelude.{ℕ, zero, suc, ◌+◌, ◌-◌, ◌==◌, Bool, false, max, List, [], ◌∷◌, ◌++◌, map, fold, is_some, position, find, slice_get, unwrap_or, Option, Some, None, option_map, nat_eq}
use Rattle.std.specs.List.{list_all, list_any}
use Rattle.std.specs.Cmp.Lexicographic.{pointwise}
use Rattle.ssl_syntax.specs.declared.line.CellName.{CellName}
use Rattle.ssl_syntax.specs.declared.line.ViewPart.{ViewPart}
use Rattle.ssl_syntax.specs.declared.line.ViewPart.TheVariants as part
use Rattle.ssl_syntax.specs.declared.line.Param.{Param as ParamLine}
use Rattle.ssl_syntax.specs.declared.line.SslBody.{SslBody}
use Rattle.ssl_syntax.specs.declared.line.SslBody.TheVariants as body
use Rattle.ssl_syntax.specs.declared.line.SslLine.{SslLine}
use Rattle.ssl_syntax.specs.declared.line.SslExpr.{SslExpr}
use Rattle.ssl_syntax.specs.declared.line.SslTransfer.{SslTransfer}
use Rattle.rtl_core.specs.declared.encodings.OperandKind.{OperandKind}
use Rattle.rtl_core.specs.declared.encodings.OperandKind.TheVariants as kind
use Rattle.rtl_core.specs.declared.encodings.Encodings.{Encodings}
use Rattle.rtl_core.specs.declared.machine.CellPart.{CellPart}
use Rattle.rtl_core.specs.declared.machine.WinShape.{WinShape}
use Rattle.rtl_core.specs.declared.template.Template.{Template}
use Rattle.rtl_core.specs.SoundTemplates.{is_place}
use Rattle.ssl_rules.specs.declared.tables.Own.{Own}
use Rattle.ssl_rules.specs.declared.tables.Own.TheVariants.{Field, Typed, Param}
use Rattle.ssl_rules.specs.declared.tables.Stands.{Stands}
use Rattle.ssl_rules.specs.declared.tables.Function.{Function}
use Rattle.ssl_rules.specs.declared.tables.Tables.{Tables}
use Rattle.ssl_rules.specs.Names.{Scope, cell_number}
use Rattle.ssl_rules.specs.TableGrowth.{no_tables, with_cell, with_cells, with_view, with_function}
use Rattle.ssl_rules.specs.Widths.{cell_width, measured}
use Rattle.ssl_rules.specs.Formulas.{expanded, nodes}
use Rattle.ssl_rules.specs.Templates.{formula_template, assigned_nodes, transfers_template, transfers_nodes}

-- a constructor's template: its width where it is an operand's, and its nodes, read and assigned
pub record Made : Type 0 where
  pub constructor : ℕ
  pub width : ℕ
  pub template : Template
  pub read : ℕ
  pub assigned : ℕ

-- what lines give
pub record Given : Type 0 where
  pub align : Option Bool
  pub delay : Option (Option ℕ)
  pub zeroed : Option ℕ
  pub windows : Option WinShape
  pub tables : Tables
  pub templates : List Made

-- before the first line
abbrev pub nothing_given : Given
nothing_given = record { align = None; delay = None; zeroed = None; windows = None; tables = no_tables; templates = [] }

-- ---- constructors and their types

-- the constructor of this name
abbrev pub constructor_named : Encodings → List ℕ → Option ℕ
constructor_named enc name = position (λ k. pointwise nat_eq name k.name) enc.constructors

-- the operands of a constructor
abbrev pub kinds_of : Encodings → ℕ → List OperandKind
kinds_of enc c = unwrap_or (option_map (λ k. k.kinds) (slice_get enc.constructors c)) []

-- the constructors of a type, and whether one is of it
abbrev pub constructors_of : Encodings → ℕ → List ℕ
constructors_of enc t = unwrap_or (slice_get enc.types t) []

abbrev pub is_of : Encodings → ℕ → ℕ → Bool
is_of enc t c = list_any (λ d. d == c) (constructors_of enc t)

-- the type of a constructor; that of instructions is 0
abbrev pub type_of : Encodings → ℕ → ℕ
type_of enc c = unwrap_or (position (λ cs. list_any (λ d. d == c) cs) enc.types) 0

-- ---- what the constructors of a type stand for

abbrev pub template_for : Given → ℕ → Option Made
template_for g c = find (λ m. m.constructor == c) g.templates

abbrev pub has_template : Given → ℕ → Bool
has_template g c = is_some (template_for g c)

-- the width of the first template of a type in the text
abbrev pub type_width : Given → Encodings → ℕ → Option ℕ
type_width g enc t = option_map (λ m. m.width) (find (λ m. is_of enc t m.constructor) g.templates)

-- the greatest of what each constructor has
abbrev pub most_of : (Made → ℕ) → Given → List ℕ → ℕ
most_of count g [] = 0
most_of count g (c ∷ cs) = max (unwrap_or (option_map count (template_for g c)) 0) (most_of count g cs)

abbrev pub is_place_type : Given → List ℕ → Bool
is_place_type g cs = list_all (λ c. unwrap_or (option_map (λ m. is_place m.template) (template_for g c)) false) cs

abbrev pub stands_for : Given → Encodings → ℕ → Stands
stands_for g enc t = record {
  width = unwrap_or (type_width g enc t) 0;
  place = is_place_type g (constructors_of enc t);
  read = most_of (λ m. m.read) g (constructors_of enc t);
  assigned = most_of (λ m. m.assigned) g (constructors_of enc t);
}

-- ---- the names of a line

-- the operand of this kind at place k; an instruction has no value, and no name
abbrev pub own_operand : Given → Encodings → ℕ → List ℕ → OperandKind → List (List ℕ × Own)
own_operand g enc k name (kind.Field w) = (name, Field k w) ∷ []
own_operand g enc k name (kind.Typed zero) = []
own_operand g enc k name (kind.Typed (suc t)) = (name, Typed k (stands_for g enc (suc t))) ∷ []

-- operands by position from k on; one without a kind stands for nothing
abbrev pub own_operands : Given → Encodings → ℕ → List (List ℕ) → List OperandKind → List (List ℕ × Own)
own_operands g enc k (name ∷ names) (kind ∷ kinds) = own_operand g enc k name kind ++ own_operands g enc (k + 1) names kinds
own_operands g enc k _ _ = []

abbrev pub template_scope : Given → Encodings → ℕ → List (List ℕ) → Scope
template_scope g enc c ops = record { tables = g.tables; own = own_operands g enc 0 ops (kinds_of enc c) }

abbrev pub own_params : ℕ → List ParamLine → List (List ℕ × Own)
own_params k [] = []
own_params k (p ∷ ps) = (p.name, Param k p.width) ∷ own_params (k + 1) ps

abbrev pub function_scope : Given → List ParamLine → Scope
function_scope g ps = record { tables = g.tables; own = own_params 0 ps }

-- ---- what one line gives

-- a part of a view
abbrev pub part_of : Tables → ViewPart → CellPart
part_of t (part.Whole cell) = let c = unwrap_or (cell_number t cell) 0 in record { cell = c; lo = 0; hi = cell_width t c - 1 }
part_of t (part.Bits cell lo hi) = record { cell = unwrap_or (cell_number t cell) 0; lo = lo; hi = hi }

abbrev pub function_of : Given → List ParamLine → SslExpr → Function
function_of g ps e = record {
  params = map (λ p. p.width) ps;
  width = unwrap_or (measured (function_scope g ps) e).width 0;
  body = expanded (function_scope g ps) e;
}

abbrev pub shape_of : Tables → CellName → CellName → CellName → ℕ → WinShape
shape_of t out_first local_first in_first n = record {
  out_first = unwrap_or (cell_number t out_first) 0;
  local_first = unwrap_or (cell_number t local_first) 0;
  in_first = unwrap_or (cell_number t in_first) 0;
  count = n;
}

-- the template of a typed constructor, and that of an instruction
abbrev pub operand_made : Scope → ℕ → SslExpr → Made
operand_made s c e = record {
  constructor = c;
  width = unwrap_or (measured s e).width 0;
  template = formula_template (expanded s e);
  read = nodes (expanded s e);
  assigned = assigned_nodes (expanded s e);
}

abbrev pub instruction_made : Scope → ℕ → List SslTransfer → Made
instruction_made s c ts = record { constructor = c; width = 0; template = transfers_template s ts; read = transfers_nodes s ts; assigned = 0 }

-- the constructor that a template's line names
abbrev pub named_constructor : Encodings → List ℕ → ℕ
named_constructor enc name = unwrap_or (constructor_named enc name) 0

-- what is given behind a line
abbrev pub with_body : Encodings → Given → SslBody → Given
with_body enc g (body.Align yes_) = record g { align = Some yes_ }
with_body enc g (body.Delay bytes) = record g { delay = Some bytes }
with_body enc g (body.Cell name w) = record g { tables = with_cell g.tables name w }
with_body enc g (body.Cells name n w) = record g { tables = with_cells g.tables name n w }
with_body enc g (body.View name n w parts) = record g { tables = with_view g.tables name (map (part_of g.tables) parts) }
with_body enc g (body.Zero cell) = record g { zeroed = cell_number g.tables cell }
with_body enc g (body.Windows o l i n) = record g { windows = Some (shape_of g.tables o l i n) }
with_body enc g (body.Function name ps e) = record g { tables = with_function g.tables name (function_of g ps e) }
with_body enc g (body.Operand name ops e) =
    let c = named_constructor enc name in record g { templates = g.templates ++ operand_made (template_scope g enc c ops) c e ∷ [] }
with_body enc g (body.Instruction name ops ts) =
    let c = named_constructor enc name in record g { templates = g.templates ++ instruction_made (template_scope g enc c ops) c ts ∷ [] }

-- what several lines give
abbrev pub given_by : Encodings → List SslLine → Given
given_by enc lines = fold (λ g line. with_body enc g line.body) nothing_given lines
