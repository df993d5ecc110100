-- Expressions with names looked up and calls expanded: a function stands for its body with arguments put in.
use Rattle.std.specs.Prelude.{ℕ, ◌+◌, ◌/◌, ◌==◌, ◌&&◌, Bool, if◌then◌else◌, List, slice_get, unwrap_or, Option, Some, None, option_map, option_and_then}
use Rattle.ssl_syntax.specs.declared.line.SslExpr.{SslExpr, fold-SslExpr}
use Rattle.ssl_syntax.specs.declared.line.SslExpr.TheOpen.{SslExpr-F}
use Rattle.rtl_core.specs.declared.expr.Un.TheVariants.{Not, Neg}
use Rattle.rtl_core.specs.declared.machine.CellPart.{CellPart}
use Rattle.rtl_core.specs.declared.template.TExpr.{TExpr}
use Rattle.rtl_core.specs.declared.template.TExpr.TheVariants as T
use Rattle.rtl_core.specs.declared.template.TPlace.{TPlace}
use Rattle.rtl_core.specs.declared.template.TPlace.TheVariants as P
use Rattle.ssl_rules.specs.declared.formula.Leaf.{Leaf}
use Rattle.ssl_rules.specs.declared.formula.Leaf.TheVariants as leaf
use Rattle.ssl_rules.specs.declared.formula.Formula.{Formula, fold-Formula}
use Rattle.ssl_rules.specs.declared.formula.Formula.TheVariants as F
use Rattle.ssl_rules.specs.declared.formula.Formula.TheOpen.{Formula-F}
use Rattle.ssl_rules.specs.declared.tables.Own.TheVariants.{Field, Typed, Param}
use Rattle.ssl_rules.specs.declared.tables.Lone.{Lone}
use Rattle.ssl_rules.specs.declared.tables.Lone.TheVariants as lone
use Rattle.ssl_rules.specs.declared.tables.Function.{Function}
use Rattle.ssl_rules.specs.declared.tables.Tables.{Tables}
use Rattle.ssl_rules.specs.Operators.{operator}
use Rattle.ssl_rules.specs.Widths.{cell_width}
use Rattle.ssl_rules.specs.Names.{Scope, file_named, part_named, function_named, field_named, lone_named}

-- what stands where nothing is known; no line without a fault has it
abbrev pub nothing : Formula
nothing = F.Leaf (leaf.Const 1 0)

-- ---- names

abbrev pub lone_formula : Lone → Formula
lone_formula (lone.Cell c) = F.Leaf (leaf.Cell c)
lone_formula (lone.Own (Field k w)) = F.Leaf (leaf.Field k)
lone_formula (lone.Own (Typed k stands)) = F.Leaf (leaf.Typed k stands)
lone_formula (lone.Own (Param k w)) = F.Param k

-- a part that is its whole cell is that cell
abbrev pub is_whole : Tables → CellPart → Bool
is_whole t p = (p.lo == 0) && (p.hi + 1 == cell_width t p.cell)

abbrev pub part_formula : Tables → CellPart → Formula
part_formula t p = if is_whole t p then F.Leaf (leaf.Cell p.cell) else F.Leaf (leaf.Part p)

-- the part of a file that a field operand chooses
abbrev pub chosen_part : Scope → List ℕ → List ℕ → Option (ℕ × ℕ)
chosen_part s name op = option_and_then (λ f. option_map (λ field. (f, field.0)) (field_named s op)) (file_named s.tables name)

-- ---- calls

abbrev node_put : List Formula → Formula-F Formula → Formula
node_put args (Formula-F.Param k) = unwrap_or (slice_get args k) nothing
node_put args (Formula-F.Leaf l) = F.Leaf l
node_put args (Formula-F.Load n a) = F.Load n a
node_put args (Formula-F.Un op a) = F.Un op a
node_put args (Formula-F.Bin op a b) = F.Bin op a b
node_put args (Formula-F.Slice a lo hi) = F.Slice a lo hi
node_put args (Formula-F.Zext w a) = F.Zext w a
node_put args (Formula-F.Sext w a) = F.Sext w a
node_put args (Formula-F.If c a b) = F.If c a b

-- a body with arguments in place of the parameters
unfoldable pub put_in : List Formula → Formula → Formula
put_in args = fold-Formula Formula (node_put args)

abbrev pub call_formula : Option Function → List Formula → Formula
call_formula None args = nothing
call_formula (Some f) args = put_in args f.body

-- ---- expressions

abbrev pub node_expanded : Scope → SslExpr-F Formula → Formula
node_expanded s (SslExpr-F.Number value width) = F.Leaf (leaf.Const width value)
node_expanded s (SslExpr-F.Named name) = unwrap_or (option_map lone_formula (lone_named s name)) nothing
node_expanded s (SslExpr-F.At name index) = unwrap_or (option_map (part_formula s.tables) (part_named s.tables name index)) nothing
node_expanded s (SslExpr-F.AtOp name op) = unwrap_or (option_map (λ p. F.Leaf (leaf.FileAt p.0 p.1)) (chosen_part s name op)) nothing
node_expanded s (SslExpr-F.Load bits a) = F.Load (bits / 8) a
node_expanded s (SslExpr-F.Not a) = F.Un Not a
node_expanded s (SslExpr-F.Neg a) = F.Un Neg a
node_expanded s (SslExpr-F.Bin op a b) = F.Bin (operator op) a b
node_expanded s (SslExpr-F.Bits a lo hi) = F.Slice a lo hi
node_expanded s (SslExpr-F.Zext width a) = F.Zext width a
node_expanded s (SslExpr-F.Sext width a) = F.Sext width a
node_expanded s (SslExpr-F.If c a b) = F.If c a b
node_expanded s (SslExpr-F.Call name args) = call_formula (function_named s.tables name) args
node_expanded s SslExpr-F.Pc = F.Leaf leaf.Pc
node_expanded s SslExpr-F.Next = F.Leaf leaf.Next

-- an expression, expanded
unfoldable pub expanded : Scope → SslExpr → Formula
expanded s = fold-SslExpr Formula (node_expanded s)

-- ---- nodes: each counts one; bits of a cell count two, a typed operand as the choice that has the most

abbrev pub leaf_nodes : Leaf → ℕ
leaf_nodes (leaf.Part p) = 2
leaf_nodes (leaf.Typed k stands) = stands.read
leaf_nodes _ = 1

abbrev node_nodes : Formula-F ℕ → ℕ
node_nodes (Formula-F.Param k) = 1
node_nodes (Formula-F.Leaf l) = leaf_nodes l
node_nodes (Formula-F.Load n a) = 1 + a
node_nodes (Formula-F.Un op a) = 1 + a
node_nodes (Formula-F.Bin op a b) = 1 + a + b
node_nodes (Formula-F.Slice a lo hi) = 1 + a
node_nodes (Formula-F.Zext w a) = 1 + a
node_nodes (Formula-F.Sext w a) = 1 + a
node_nodes (Formula-F.If c a b) = 1 + c + a + b

-- the nodes of an expanded expression, a parameter being one
unfoldable pub nodes : Formula → ℕ
nodes = fold-Formula ℕ node_nodes

-- ---- values and places of templates

abbrev pub leaf_value : Leaf → TExpr
leaf_value (leaf.Const w n) = T.Const w n
leaf_value (leaf.Cell c) = T.Cell c
leaf_value (leaf.Part p) = T.Slice (T.Cell p.cell) p.lo p.hi
leaf_value (leaf.Field k) = T.Operand k
leaf_value (leaf.Typed k stands) = T.Operand k
leaf_value (leaf.FileAt f k) = T.FileAt f k
leaf_value leaf.Pc = T.Pc
leaf_value leaf.Next = T.Next

abbrev node_value : Formula-F TExpr → TExpr
node_value (Formula-F.Param k) = T.Const 1 0
node_value (Formula-F.Leaf l) = leaf_value l
node_value (Formula-F.Load n a) = T.Load n a
node_value (Formula-F.Un op a) = T.Un op a
node_value (Formula-F.Bin op a b) = T.Bin op a b
node_value (Formula-F.Slice a lo hi) = T.Slice a lo hi
node_value (Formula-F.Zext w a) = T.Zext w a
node_value (Formula-F.Sext w a) = T.Sext w a
node_value (Formula-F.If c a b) = T.If c a b

-- an expanded expression as an expression of a template; in a template no parameter is left
unfoldable pub value : Formula → TExpr
value = fold-Formula TExpr node_value

-- a cell, bits of a cell by a name, a part of a file, and an operand whose constructors all are places
abbrev pub leaf_place : Leaf → Option TPlace
leaf_place (leaf.Cell c) = Some (P.Cell c)
leaf_place (leaf.Part p) = Some (P.Slice p.cell p.lo p.hi)
leaf_place (leaf.Typed k stands) = if stands.place then Some (P.Operand k) else None
leaf_place (leaf.FileAt f k) = Some (P.FileAt f k)
leaf_place _ = None
