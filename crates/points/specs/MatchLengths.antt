-- How many bytes an instruction has, and so where the one behind it begins.
use Rattle.std.specs.Prelude.{◌≡◌, ◌≢◌, ℕ, ◌^◌, ◌<◌, ◌≤◌, List, Some}
use Rattle.rtl_core.specs.declared.encodings.Encodings.{Encodings}
use Rattle.rtl_core.specs.declared.inst.GroundInst.{GroundInst}
use Rattle.rtl_core.specs.Matching.{Taken, instruction}
use Rattle.rtl_core.specs.SoundEncodings.{IsSoundEncodings}
use Rattle.points.specs.Kinds.{further, second}
use Rattle.points.specs.declared.block.Standing.TheVariants.{Stands}
use Rattle.points.specs.Machine.{Setting, standing}

-- an instruction has 1 to 32 bytes
pub record IsLength (bytes : ℕ) : Type 0 where
  pub some : 1 ≤ bytes
  pub few : bytes ≤ 32

-- the second address is behind an instruction at the first
pub record IsBehind (at next : ℕ) : Type 0 where
  pub bytes : ℕ
  pub length : IsLength bytes
  pub is : next ≡ further at bytes

-- so it is another address, of 32 bits
abbrev pub AreApart : ℕ → ℕ → Type 0
AreApart at next = (next ≢ at) × (next < 2 ^ 32)

-- on sound encodings a match takes 1 to 32 bytes
abbrev pub MatchesHaveLength : Type 0
MatchesHaveLength = (enc : Encodings) (bytes : List ℕ) (t : Taken) → IsSoundEncodings enc → instruction enc bytes ≡ Some t → IsLength t.len

-- the address behind an instruction
abbrev pub NextIsBehind : Type 0
NextIsBehind =
    (setting : Setting) (pc : ℕ) (inst : GroundInst) → IsSoundEncodings setting.encodings → standing setting pc ≡ Stands inst → IsBehind pc inst.next × AreApart pc inst.next

-- the second return point of a return address
abbrev pub SecondIsBehind : Type 0
SecondIsBehind = (setting : Setting) (r s : ℕ) → IsSoundEncodings setting.encodings → second setting r ≡ Some s → IsBehind r s × AreApart r s
