-- The nodes of templates, operands expanded: each expression counts one, and each transfer one; of a typed operand
-- the choice that has the most counts. What is assigned counts only the address of a store.
use Rattle.std.specs.Prelude.{◌≡◌, ℕ, ◌+◌, ◌≤◌, max, List, [], ◌∷◌, sum_by, slice_get, Option, Some, None}
use Rattle.rtl_core.specs.declared.encodings.OperandKind.{OperandKind}
use Rattle.rtl_core.specs.declared.encodings.OperandKind.TheVariants.{Typed}
use Rattle.rtl_core.specs.declared.template.TExpr.{TExpr}
use Rattle.rtl_core.specs.declared.template.TPlace.{TPlace}
use Rattle.rtl_core.specs.declared.template.TAct.{TAct}
use Rattle.rtl_core.specs.declared.template.Template.{Template}
use Rattle.rtl_core.specs.declared.machine.Machine.{Machine}
use Rattle.rtl_core.specs.declared.machine.Form.{Form}
use Rattle.rtl_core.specs.TemplateTerms.{TTerm, Const, Cell, Load, Unary, Binary, Slice, Zext, Sext, Choice, Operand, FileAt, Pc, Next, tterm_of}

-- the most nodes of each type, as a value and as what is assigned
pub record Counts : Type 0 where
  pub read : ℕ → ℕ
  pub assigned : ℕ → ℕ

-- the nodes of an operand, where `most` is that of each type
abbrev pub operand_nodes : (ℕ → ℕ) → ℕ → Option OperandKind → ℕ
operand_nodes most field (Some (Typed t)) = most t
operand_nodes most field _ = field

module _ (counts : Counts) (kinds : List OperandKind) where
  abbrev pub nodes : TTerm → ℕ
  nodes (Const w n) = 1
  nodes (Cell c) = 1
  nodes (Load b a) = 1 + nodes a
  nodes (Unary op a) = 1 + nodes a
  nodes (Binary op a b) = 1 + nodes a + nodes b
  nodes (Slice a lo hi) = 1 + nodes a
  nodes (Zext w a) = 1 + nodes a
  nodes (Sext w a) = 1 + nodes a
  nodes (Choice c a b) = 1 + nodes c + nodes a + nodes b
  nodes (Operand k) = operand_nodes counts.read 1 (slice_get kinds k)
  nodes (FileAt f k) = 1
  nodes Pc = 1
  nodes Next = 1

  abbrev pub expr_nodes : TExpr → ℕ
  expr_nodes e = nodes (tterm_of e)

  -- a place as a value
  abbrev pub read_nodes : TPlace → ℕ
  read_nodes (TPlace.Cell c) = 1
  read_nodes (TPlace.Slice c lo hi) = 2
  read_nodes (TPlace.Memory n a) = 1 + expr_nodes a
  read_nodes (TPlace.Operand k) = operand_nodes counts.read 1 (slice_get kinds k)
  read_nodes (TPlace.FileAt f k) = 1

  -- a place as what is assigned
  abbrev pub assigned_nodes : TPlace → ℕ
  assigned_nodes (TPlace.Memory n a) = expr_nodes a
  assigned_nodes (TPlace.Operand k) = operand_nodes counts.assigned 0 (slice_get kinds k)
  assigned_nodes _ = 0

  abbrev pub act_nodes : TAct → ℕ
  act_nodes (TAct.Assign p e) = assigned_nodes p + expr_nodes e
  act_nodes (TAct.Jump e) = expr_nodes e
  act_nodes (TAct.Trap e) = expr_nodes e
  act_nodes _ = 0

  abbrev pub guard_nodes : Option TExpr → ℕ
  guard_nodes None = 0
  guard_nodes (Some guard) = expr_nodes guard

  -- the nodes of a template
  abbrev pub template_nodes : Template → ℕ
  template_nodes (Template.Value e) = expr_nodes e
  template_nodes (Template.Place p) = read_nodes p
  template_nodes (Template.Acts ts) = sum_by (λ t. 1 + guard_nodes t.guard + act_nodes t.act) ts

  -- the nodes of a template that is assigned
  abbrev pub target_nodes : Template → ℕ
  target_nodes (Template.Place p) = assigned_nodes p
  target_nodes _ = 0

-- the nodes of a constructor's form, and the same where it is assigned
abbrev pub form_nodes : Counts → Option Form → ℕ
form_nodes counts None = 0
form_nodes counts (Some form) = template_nodes counts form.kinds form.template

abbrev pub form_target : Counts → Option Form → ℕ
form_target counts None = 0
form_target counts (Some form) = target_nodes counts form.kinds form.template

-- the greatest of what is counted
abbrev pub greatest : (ℕ → ℕ) → List ℕ → ℕ
greatest count [] = 0
greatest count (c ∷ cs) = max (count c) (greatest count cs)

-- no template has more nodes
abbrev pub most_template : ℕ
most_template = 256

-- a machine's nodes are counted: `counts` are the most of each type, no template is over the limit, and
-- `most_nodes` is the most of an instruction
pub record IsCounted (m : Machine) : Type 0 where
  pub counts : Counts
  pub read : (t : ℕ) (cs : List ℕ) → slice_get m.types t ≡ Some cs → counts.read t ≡ greatest (λ c. form_nodes counts (slice_get m.forms c)) cs
  pub assigned : (t : ℕ) (cs : List ℕ) → slice_get m.types t ≡ Some cs → counts.assigned t ≡ greatest (λ c. form_target counts (slice_get m.forms c)) cs
  pub few : (c : ℕ) → form_nodes counts (slice_get m.forms c) ≤ most_template
  pub most : m.most_nodes ≡ counts.read 0
