-- An instruction with its operands, its address and the address behind it put in.
use Rattle.std.specs.Prelude.{ℕ, zero, suc, ◌+◌, ◌^◌, ◌==◌, ◌&&◌, nat_lt, Bool, false, if◌then◌else◌, List, [], ◌∷◌, length, map, slice_get, slice_index, unwrap_or, Option, Some, None, option_map, option_and_then}
use Rattle.std.specs.List.{list_any}
use Rattle.rtl_core.specs.declared.encodings.OperandKind.{OperandKind}
use Rattle.rtl_core.specs.declared.encodings.OperandKind.TheVariants.{Field, Typed}
use Rattle.rtl_core.specs.declared.expr.Expr.{Expr}
use Rattle.rtl_core.specs.declared.expr.Expr.TheVariants as Expr
use Rattle.rtl_core.specs.declared.template.TExpr.{TExpr, fold-TExpr}
use Rattle.rtl_core.specs.declared.template.TExpr.TheOpen.{TExpr-F}
use Rattle.rtl_core.specs.declared.template.TPlace.{TPlace}
use Rattle.rtl_core.specs.declared.template.TAct.{TAct}
use Rattle.rtl_core.specs.declared.template.TTransfer.{TTransfer}
use Rattle.rtl_core.specs.declared.template.Template.{Template}
use Rattle.rtl_core.specs.declared.transfer.Act.{Act}
use Rattle.rtl_core.specs.declared.transfer.Transfer.{Transfer}
use Rattle.rtl_core.specs.declared.machine.Machine.{Machine}
use Rattle.rtl_core.specs.declared.machine.CellPart.{CellPart}
use Rattle.rtl_core.specs.declared.inst.Inst.{Inst}
use Rattle.rtl_core.specs.declared.inst.GroundInst.{GroundInst}

-- a place that can be assigned, with all numbers put in
pub data Place : Type 0 where
  Whole : (cell : ℕ) → Place
  Bits : (cell lo hi : ℕ) → Place
  Bytes : (n : ℕ) → (address : Expr) → Place

-- what an operand stands for: a field's number, a value, or a place
pub data Argument : Type 0 where
  Number : (width n : ℕ) → Argument
  Value : Expr → Argument
  At : Place → Argument

-- what a place holds
abbrev pub place_value : Place → Expr
place_value (Whole c) = Expr.Cell c
place_value (Bits c lo hi) = Expr.Slice (Expr.Cell c) lo hi
place_value (Bytes n a) = Expr.Load n a

-- an operand as a value; a field's number is a constant of its width
abbrev pub argument_value : Argument → Expr
argument_value (Number w n) = Expr.Const w n
argument_value (Value e) = e
argument_value (At p) = place_value p

-- an operand as a place; only places are assigned in a sound machine
abbrev pub argument_place : Argument → Place
argument_place (At p) = p
argument_place _ = Whole 0

-- an operand as an index of a file; only fields are indices in a sound machine
abbrev pub argument_index : Argument → ℕ
argument_index (Number w n) = n
argument_index _ = 0

-- where an instruction stands: its operands, its address, and the address behind it
pub record Site : Type 0 where
  pub arguments : List Argument
  pub pc : ℕ
  pub next : ℕ

-- the operand at a place of the operand list
abbrev pub argument_at : Site → ℕ → Argument
argument_at site k = unwrap_or (slice_get site.arguments k) (Number 1 0)

-- a part that is its whole cell is that cell
abbrev pub part_place : Machine → CellPart → Place
part_place m p = if (p.lo == 0) && (p.hi + 1 == slice_index m.widths p.cell) then Whole p.cell else Bits p.cell p.lo p.hi

-- the part of file f at the index that operand k gives
abbrev pub file_place : Machine → Site → ℕ → ℕ → Place
file_place m site f k =
    part_place m (unwrap_or (option_and_then (λ parts. slice_get parts (argument_index (argument_at site k))) (slice_get m.files f)) (record { cell = 0; lo = 0; hi = 0 }))

abbrev node_ground : Machine → Site → TExpr-F Expr → Expr
node_ground m site (TExpr-F.Const w n) = Expr.Const w n
node_ground m site (TExpr-F.Cell c) = Expr.Cell c
node_ground m site (TExpr-F.Load n a) = Expr.Load n a
node_ground m site (TExpr-F.Un op a) = Expr.Un op a
node_ground m site (TExpr-F.Bin op a b) = Expr.Bin op a b
node_ground m site (TExpr-F.Slice a lo hi) = Expr.Slice a lo hi
node_ground m site (TExpr-F.Zext w a) = Expr.Zext w a
node_ground m site (TExpr-F.Sext w a) = Expr.Sext w a
node_ground m site (TExpr-F.If c a b) = Expr.If c a b
node_ground m site (TExpr-F.Operand k) = argument_value (argument_at site k)
node_ground m site (TExpr-F.FileAt f k) = place_value (file_place m site f k)
node_ground m site TExpr-F.Pc = Expr.Const 32 site.pc
node_ground m site TExpr-F.Next = Expr.Const 32 site.next

-- an expression of a template, put in
unfoldable pub ground_expr : Machine → Site → TExpr → Expr
ground_expr m site = fold-TExpr Expr (node_ground m site)

-- a place of a template, put in
abbrev pub ground_place : Machine → Site → TPlace → Place
ground_place m site (TPlace.Cell c) = Whole c
ground_place m site (TPlace.Slice c lo hi) = Bits c lo hi
ground_place m site (TPlace.Memory n a) = Bytes n (ground_expr m site a)
ground_place m site (TPlace.Operand k) = argument_place (argument_at site k)
ground_place m site (TPlace.FileAt f k) = file_place m site f k

-- a value assigned to a place
abbrev pub assigning : Place → Expr → Act
assigning (Whole c) e = Act.SetCell c e
assigning (Bits c lo hi) e = Act.SetSlice c lo hi e
assigning (Bytes n a) e = Act.Store n a e

-- an act of a template, put in
abbrev pub ground_act : Machine → Site → TAct → Act
ground_act m site (TAct.Assign p e) = assigning (ground_place m site p) (ground_expr m site e)
ground_act m site (TAct.Jump e) = Act.Jump (ground_expr m site e)
ground_act m site TAct.Annul = Act.Annul
ground_act m site (TAct.Trap e) = Act.Trap (ground_expr m site e)
ground_act m site TAct.Service = Act.Service
ground_act m site TAct.WinSave = Act.WinSave
ground_act m site TAct.WinRestore = Act.WinRestore

-- a transfer of a template, put in
abbrev pub ground_transfer : Machine → Site → TTransfer → Transfer
ground_transfer m site t = record { guard = option_map (ground_expr m site) t.guard; act = ground_act m site t.act }

-- what a template stands for as an operand; transfers are none
abbrev pub template_argument : Machine → Site → Template → Option Argument
template_argument m site (Template.Value e) = Some (Value (ground_expr m site e))
template_argument m site (Template.Place p) = Some (At (ground_place m site p))
template_argument m site (Template.Acts ts) = None

-- the transfers of a template; a value or a place has none
abbrev pub template_transfers : Machine → Site → Template → Option (List Transfer)
template_transfers m site (Template.Acts ts) = Some (map (ground_transfer m site) ts)
template_transfers m site _ = None

-- what the numbers at the front of a flat operand list spell, and the numbers behind
abbrev pub Reader : Type 0
Reader = ℕ → List ℕ → Option (Argument × List ℕ)

-- whether a constructor is one of a type
abbrev pub is_of_type : Machine → ℕ → ℕ → Bool
is_of_type m kind c = is_among (slice_get m.types kind)
  where
    is_among : Option (List ℕ) → Bool
    is_among None = false
    is_among (Some cs) = list_any (λ d. d == c) cs

-- one operand: a number of the field's width, or a constructor of the type and its own operands
abbrev pub operand_read : Reader → Machine → OperandKind → List ℕ → Option (Argument × List ℕ)
operand_read chosen m kind [] = None
operand_read chosen m (Field w) (n ∷ leaves) = if nat_lt n (2 ^ w) then Some (Number w n, leaves) else None
operand_read chosen m (Typed kind) (c ∷ leaves) = if is_of_type m kind c then chosen c leaves else None

-- the operands of these kinds, in order
abbrev pub operands_read : Reader → Machine → List OperandKind → List ℕ → Option (List Argument × List ℕ)
operands_read chosen m [] leaves = Some ([], leaves)
operands_read chosen m (kind ∷ kinds) leaves =
    option_and_then (λ r. option_map (λ s. (r.0 ∷ s.0, s.1)) (operands_read chosen m kinds r.1)) (operand_read chosen m kind leaves)

-- a constructor as an operand, with operands nested less than `deep`; each takes a number, so that
-- the length of the list is deep enough
unfoldable pub chosen_read : ℕ → Machine → ℕ → ℕ → Reader
chosen_read zero m pc next c leaves = None
chosen_read (suc deep) m pc next c leaves =
    option_and_then (λ form. option_and_then (λ r. option_map (λ a. (a, r.1)) (template_argument m (record { arguments = r.0; pc = pc; next = next }) form.template))
    (operands_read (chosen_read deep m pc next) m form.kinds leaves)) (slice_get m.forms c)

-- nothing is left behind the operands
abbrev pub all_read : Option (List Argument × List ℕ) → Option (List Argument)
all_read (Some (arguments, [])) = Some arguments
all_read _ = None

-- the operands of an instruction; none where its numbers spell no operand tree of the machine
abbrev pub operands_of : Machine → ℕ → ℕ → List OperandKind → List ℕ → Option (List Argument)
operands_of m pc next kinds leaves = all_read (operands_read (chosen_read (length leaves) m pc next) m kinds leaves)

-- the instruction at pc with all put in; none where its numbers spell no operand tree
unfoldable pub grounded : Machine → Inst → ℕ → ℕ → Option GroundInst
grounded m inst pc next =
    option_and_then (λ form. option_and_then (λ arguments. option_map (λ ts. record { constructor = inst.constructor; next = next; transfers = ts })
    (template_transfers m (record { arguments = arguments; pc = pc; next = next }) form.template))
    (operands_of m pc next form.kinds inst.leaves)) (slice_get m.forms inst.constructor)
