-- Which instructions have all put in: those of the machine, and among them each that is matched.
use Rattle.std.specs.Prelude.{◌≡◌, ℕ, IsTrue, List, Some, is_some}
use Rattle.rtl_core.specs.declared.encodings.Encodings.{Encodings}
use Rattle.rtl_core.specs.declared.inst.Inst.{Inst}
use Rattle.rtl_core.specs.declared.machine.Machine.{Machine}
use Rattle.rtl_core.specs.Grounding.{grounded}
use Rattle.rtl_core.specs.Matching.{Taken, instruction}
use Rattle.rtl_core.specs.SoundMachine.{AreSound}
use Rattle.points.specs.OperandTrees.{IsOneOf}

-- the instruction that a match takes
abbrev pub inst_of : Taken → Inst
inst_of t = record { constructor = t.constructor; leaves = t.leaves }

-- what has all put in is an instruction of the machine and nothing else, at any address and with any address behind it
abbrev pub GroundsExactly : Type 0
GroundsExactly =
    (m : Machine) (inst : Inst) (pc next : ℕ) → (IsOneOf m inst → IsTrue (is_some (grounded m inst pc next))) × (IsTrue (is_some (grounded m inst pc next)) → IsOneOf m inst)

-- on sound encodings and a sound machine, each match has all put in, at any address and with any address behind it
abbrev pub MatchesGround : Type 0
MatchesGround =
    (enc : Encodings) (m : Machine) (bytes : List ℕ) (t : Taken) (pc next : ℕ) → AreSound enc m → instruction enc bytes ≡ Some t → IsTrue (is_some (grounded m (inst_of t) pc next))
