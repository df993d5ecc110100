-- The numbers that spell the operands of an instruction, whatever its address is.
use Rattle.std.specs.Prelude.{◌≡◌, ℕ, ◌^◌, ◌<◌, Bool, true, false, List, [], ◌∷◌, ◌++◌, slice_get, Some}
use Rattle.rtl_core.specs.declared.encodings.OperandKind.{OperandKind}
use Rattle.rtl_core.specs.declared.encodings.OperandKind.TheVariants.{Field, Typed}
use Rattle.rtl_core.specs.declared.inst.Inst.{Inst}
use Rattle.rtl_core.specs.declared.machine.Form.{Form}
use Rattle.rtl_core.specs.declared.machine.Machine.{Machine}
use Rattle.rtl_core.specs.declared.template.Template.{Template}
use Rattle.rtl_core.specs.declared.template.Template.TheVariants.{Acts}
use Rattle.rtl_core.specs.Grounding.{is_of_type}

-- whether a template is the transfers of an instruction
abbrev pub is_acts : Template → Bool
is_acts (Acts ts) = true
is_acts _ = false

-- the numbers spell operands of these kinds, one behind another: a number below 2^w for a field of w bits; for a type
-- one of its constructors, which stands for a value or a place, and behind it the operands of that constructor
abbrev pub Spell : Machine → List OperandKind → List ℕ → Type 0
Spell m [] [] = Unit {0}
Spell m (Field w ∷ kinds) (n ∷ leaves) = (n < 2 ^ w) × Spell m kinds leaves
Spell m (Typed t ∷ kinds) (c ∷ leaves) =
    (form : Form) × (is_of_type m t c ≡ true) × (slice_get m.forms c ≡ Some form) × (is_acts form.template ≡ false) × Spell m (form.kinds ++ kinds) leaves
Spell m _ _ = ⊥

-- an instruction of the machine: its constructor stands for transfers, and its numbers spell the operands
pub record IsOneOf (m : Machine) (inst : Inst) : Type 0 where
  pub form : Form
  pub at : slice_get m.forms inst.constructor ≡ Some form
  pub acts : is_acts form.template ≡ true
  pub operands : Spell m form.kinds inst.leaves
