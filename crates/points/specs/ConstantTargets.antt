-- Constant terms have one value, and constant targets are addresses.
use Rattle.std.specs.Prelude.{◌≡◌, ℕ, ◌^◌, ◌<◌, true, List, Some, Ok}
use Rattle.rtl_core.specs.declared.expr.Expr.{Expr}
use Rattle.rtl_core.specs.declared.machine.Machine.{Machine}
use Rattle.rtl_core.specs.Contents.{Contents}
use Rattle.rtl_core.specs.SoundTerms.{AreWidths, HasWidth}
use Rattle.rtl_core.specs.Terms.{Term, term_of}
use Rattle.rtl_core.specs.Value.{value_of}
use Rattle.points.specs.Kinds.{is_constant, constant_value, constant_target}

-- a constant term has its value over all cells and all memories
abbrev pub ConstantsHaveValues : Type 0
ConstantsHaveValues = (m : Machine) (cells : List ℕ) (mem : Contents) (t : Term) → is_constant t ≡ true → value_of m cells mem t ≡ Ok (constant_value m t)

-- so a constant target is that of each jump by its expression
abbrev pub TargetsAreValues : Type 0
TargetsAreValues = (m : Machine) (cells : List ℕ) (mem : Contents) (e : Expr) (t : ℕ) → constant_target m e ≡ Some t → value_of m cells mem (term_of e) ≡ Ok t

-- a constant target that has 32 bits is below 2^32
abbrev pub TargetsAreAddresses : Type 0
TargetsAreAddresses = (m : Machine) (e : Expr) (t : ℕ) → AreWidths m.widths → HasWidth m.widths e 32 → constant_target m e ≡ Some t → t < 2 ^ 32
