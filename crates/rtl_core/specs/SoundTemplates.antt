-- When a template is sound: what it names is there, widths agree, and each kind of act comes once at most.
use Rattle.std.specs.Prelude.{◌≡◌, ℕ, zero, suc, ◌+◌, ◌-◌, ◌*◌, ◌^◌, ◌<◌, ◌≤◌, Bool, true, false, List, [], ◌∷◌, length, map, count_by, slice_get, slice_index, is_some, Option, Some, None, All, IsTrue}
use Rattle.rtl_core.specs.declared.encodings.OperandKind.{OperandKind}
use Rattle.rtl_core.specs.declared.encodings.OperandKind.TheVariants.{Field, Typed}
use Rattle.rtl_core.specs.declared.template.TExpr.{TExpr}
use Rattle.rtl_core.specs.declared.template.TPlace.{TPlace}
use Rattle.rtl_core.specs.declared.template.TAct.{TAct}
use Rattle.rtl_core.specs.declared.template.TTransfer.{TTransfer}
use Rattle.rtl_core.specs.declared.template.Template.{Template}
use Rattle.rtl_core.specs.declared.machine.Machine.{Machine}
use Rattle.rtl_core.specs.declared.machine.CellPart.{CellPart}
use Rattle.rtl_core.specs.declared.machine.Form.{Form}
use Rattle.rtl_core.specs.Access.{is_size}
use Rattle.rtl_core.specs.Arithmetic.{result_width}
use Rattle.rtl_core.specs.SoundTerms.{IsWidth}
use Rattle.rtl_core.specs.TemplateTerms.{TTerm, Const, Cell, Load, Unary, Binary, Slice, Zext, Sext, Choice, Operand, FileAt, Pc, Next, tterm_of}

-- ---- files

abbrev pub part_width : CellPart → ℕ
part_width p = p.hi + 1 - p.lo

-- the width of a file: that of its first part
abbrev pub file_width : Option (List CellPart) → ℕ
file_width (Some (p ∷ ps)) = part_width p
file_width _ = 0

-- a part lies in its cell
abbrev pub IsPart : List ℕ → CellPart → Type 0
IsPart widths p = (p.cell < length widths) × (p.lo ≤ p.hi) × (p.hi < slice_index widths p.cell)

-- the parts of a file lie in their cells and have one width
abbrev pub IsFile : List ℕ → List CellPart → Type 0
IsFile widths parts = All (λ p. IsPart widths p × (part_width p ≡ file_width (Some parts))) parts

-- ---- operands, where `stands` is the width of what a type's constructors stand for

abbrev pub kind_width : (ℕ → ℕ) → Option OperandKind → ℕ
kind_width stands (Some (Field w)) = w
kind_width stands (Some (Typed t)) = stands t
kind_width stands None = 0

-- an operand that has a value: a field, or a constructor of a type other than that of instructions
abbrev pub HasValue : Option OperandKind → Type 0
HasValue (Some (Field w)) = Unit {0}
HasValue (Some (Typed zero)) = ⊥
HasValue (Some (Typed (suc t))) = Unit {0}
HasValue None = ⊥

-- whether a template is a place
abbrev pub is_place : Template → Bool
is_place (Template.Place p) = true
is_place _ = false

-- every constructor of a type stands for a place
abbrev pub IsPlaceType : Machine → ℕ → Type 0
IsPlaceType m t = (cs : List ℕ) → slice_get m.types t ≡ Some cs → All (λ c. (form : Form) → slice_get m.forms c ≡ Some form → is_place form.template ≡ true) cs

-- an operand that can be assigned
abbrev pub HasPlace : Machine → Option OperandKind → Type 0
HasPlace m (Some (Typed (suc t))) = IsPlaceType m (suc t)
HasPlace m _ = ⊥

-- a field whose greatest value is an index of the file
abbrev pub IsIndex : Option (List CellPart) → Option OperandKind → Type 0
IsIndex (Some parts) (Some (Field w)) = 2 ^ w ≤ length parts
IsIndex _ _ = ⊥

-- ---- expressions and places of a template with these operands

module _ (m : Machine) (stands : ℕ → ℕ) (kinds : List OperandKind) where
  -- the width of a term's value
  abbrev pub twidth : TTerm → ℕ
  twidth (Const w n) = w
  twidth (Cell c) = slice_index m.widths c
  twidth (Load b a) = 8 * b
  twidth (Unary op a) = twidth a
  twidth (Binary op a b) = result_width op (twidth a)
  twidth (Slice a lo hi) = hi + 1 - lo
  twidth (Zext w a) = w
  twidth (Sext w a) = w
  twidth (Choice c a b) = twidth a
  twidth (Operand k) = kind_width stands (slice_get kinds k)
  twidth (FileAt f k) = file_width (slice_get m.files f)
  twidth Pc = 32
  twidth Next = 32

  -- numbers fit, what is named is there, widths agree where they have to
  abbrev pub IsSoundTTerm : TTerm → Type 0
  IsSoundTTerm (Const w n) = IsWidth w × (n < 2 ^ w)
  IsSoundTTerm (Cell c) = c < length m.widths
  IsSoundTTerm (Load b a) = IsSoundTTerm a × (twidth a ≡ 32) × (is_size b ≡ true)
  IsSoundTTerm (Unary op a) = IsSoundTTerm a
  IsSoundTTerm (Binary op a b) = IsSoundTTerm a × IsSoundTTerm b × (twidth b ≡ twidth a)
  IsSoundTTerm (Slice a lo hi) = IsSoundTTerm a × (lo ≤ hi) × (hi < twidth a)
  IsSoundTTerm (Zext w a) = IsSoundTTerm a × (twidth a ≤ w) × (w ≤ 64)
  IsSoundTTerm (Sext w a) = IsSoundTTerm a × (twidth a ≤ w) × (w ≤ 64)
  IsSoundTTerm (Choice c a b) = IsSoundTTerm c × IsSoundTTerm a × IsSoundTTerm b × (twidth c ≡ 1) × (twidth b ≡ twidth a)
  IsSoundTTerm (Operand k) = HasValue (slice_get kinds k)
  IsSoundTTerm (FileAt f k) = IsIndex (slice_get m.files f) (slice_get kinds k)
  IsSoundTTerm Pc = Unit {0}
  IsSoundTTerm Next = Unit {0}

  -- an expression that is sound and has this width
  pub record IsOfWidth (e : TExpr) (w : ℕ) : Type 0 where
    pub sound : IsSoundTTerm (tterm_of e)
    pub width : twidth (tterm_of e) ≡ w

  -- the width of a place
  abbrev pub place_width : TPlace → ℕ
  place_width (TPlace.Cell c) = slice_index m.widths c
  place_width (TPlace.Slice c lo hi) = hi + 1 - lo
  place_width (TPlace.Memory n a) = 8 * n
  place_width (TPlace.Operand k) = kind_width stands (slice_get kinds k)
  place_width (TPlace.FileAt f k) = file_width (slice_get m.files f)

  -- a place that is there
  abbrev pub IsSoundPlace : TPlace → Type 0
  IsSoundPlace (TPlace.Cell c) = c < length m.widths
  IsSoundPlace (TPlace.Slice c lo hi) = IsPart m.widths (record { cell = c; lo = lo; hi = hi })
  IsSoundPlace (TPlace.Memory n a) = (is_size n ≡ true) × IsOfWidth a 32
  IsSoundPlace (TPlace.Operand k) = HasPlace m (slice_get kinds k)
  IsSoundPlace (TPlace.FileAt f k) = IsIndex (slice_get m.files f) (slice_get kinds k)

  -- an act whose parts have the widths that their places ask for; a window move where there are windows
  abbrev pub IsSoundTAct : TAct → Type 0
  IsSoundTAct (TAct.Assign p e) = IsSoundPlace p × IsOfWidth e (place_width p)
  IsSoundTAct (TAct.Jump e) = IsOfWidth e 32
  IsSoundTAct TAct.Annul = Unit {0}
  IsSoundTAct (TAct.Trap e) = IsOfWidth e 32
  IsSoundTAct TAct.Service = Unit {0}
  IsSoundTAct TAct.WinSave = IsTrue (is_some m.windows)
  IsSoundTAct TAct.WinRestore = IsTrue (is_some m.windows)

  -- a guard is 1 bit
  abbrev pub IsSoundTGuard : Option TExpr → Type 0
  IsSoundTGuard None = Unit {0}
  IsSoundTGuard (Some guard) = IsOfWidth guard 1

  pub record IsSoundTTransfer (t : TTransfer) : Type 0 where
    pub guard : IsSoundTGuard t.guard
    pub act : IsSoundTAct t.act

-- ---- the acts of an instruction

abbrev pub is_tjump : TAct → Bool
is_tjump (TAct.Jump e) = true
is_tjump _ = false

abbrev pub is_tannul : TAct → Bool
is_tannul TAct.Annul = true
is_tannul _ = false

abbrev pub is_tservice : TAct → Bool
is_tservice TAct.Service = true
is_tservice _ = false

abbrev pub moves_twindow : TAct → Bool
moves_twindow TAct.WinSave = true
moves_twindow TAct.WinRestore = true
moves_twindow _ = false

-- nothing stands behind a service
abbrev pub IsTServiceLast : List TAct → Type 0
IsTServiceLast [] = Unit {0}
IsTServiceLast (act ∷ []) = Unit {0}
IsTServiceLast (act ∷ next ∷ acts) = (is_tservice act ≡ false) × IsTServiceLast (next ∷ acts)

-- the transfers of an instruction: at most one jump, one annul, one service, which is last, and one window move
pub record AreSoundTTransfers (m : Machine) (stands : ℕ → ℕ) (kinds : List OperandKind) (ts : List TTransfer) : Type 0 where
  pub each : All (IsSoundTTransfer m stands kinds) ts
  pub one_jump : count_by is_tjump (map (λ t. t.act) ts) ≤ 1
  pub one_annul : count_by is_tannul (map (λ t. t.act) ts) ≤ 1
  pub one_service : count_by is_tservice (map (λ t. t.act) ts) ≤ 1
  pub one_move : count_by moves_twindow (map (λ t. t.act) ts) ≤ 1
  pub service_last : IsTServiceLast (map (λ t. t.act) ts)

-- ---- forms

-- the template of a constructor of type t: transfers for an instruction, else a value or a place of the type's width
abbrev pub IsSoundTemplate : Machine → (ℕ → ℕ) → ℕ → List OperandKind → Template → Type 0
IsSoundTemplate m stands zero kinds (Template.Acts ts) = AreSoundTTransfers m stands kinds ts
IsSoundTemplate m stands (suc t) kinds (Template.Value e) = IsOfWidth m stands kinds e (stands (suc t))
IsSoundTemplate m stands (suc t) kinds (Template.Place p) = IsSoundPlace m stands kinds p × (place_width m stands kinds p ≡ stands (suc t))
IsSoundTemplate m stands _ kinds _ = ⊥
