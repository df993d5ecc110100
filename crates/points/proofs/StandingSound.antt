-- What stands at an address has all put in, and is sound on a sound machine.
use Rattle.std.proofs.Common.{◌≡◌, ℕ, ◌+◌, ◌^◌, ◌%◌, ◌<◌, List, Option, Some, None, refl, subst}
use Rattle.std.proofs.Math.Nat.{mod-lt}
use Rattle.std.proofs.lemmas.Nat.{pow_pos}
use Rattle.rtl_core.specs.declared.inst.GroundInst.{GroundInst}
use Rattle.rtl_core.specs.declared.inst.Inst.{Inst}
use Rattle.rtl_core.specs.declared.machine.Machine.{Machine}
use Rattle.rtl_core.specs.Code.{code_from}
use Rattle.rtl_core.specs.Grounding.{grounded}
use Rattle.rtl_core.specs.Matching.{Taken, instruction}
use Rattle.rtl_core.specs.SoundMachine.{IsSoundMachine}
use Rattle.rtl_core.specs.SoundTerms.{AreSoundTransfers}
use Rattle.rtl_core.proofs.GroundsSound.{grounds_sound}
use Rattle.points.specs.declared.block.Standing.{Standing}
use Rattle.points.specs.declared.block.Standing.TheVariants.{Outside, Illegal, Stands}
use Rattle.points.specs.Machine.{Setting, standing, code_standing, match_standing, ground_standing, matched}

-- an instruction is one of the machine's with all put in, and the address behind it has 32 bits
pub record IsGrounded (m : Machine) (pc : ℕ) (inst : GroundInst) : Type 0 where
  pub matched : Inst
  pub next : ℕ
  pub fits : next < 2 ^ 32
  pub is : grounded m matched pc next ≡ Some inst

abbrev IsGroundedStanding : Machine → ℕ → Standing → Type 0
IsGroundedStanding m pc Outside = Unit {0}
IsGroundedStanding m pc Illegal = Unit {0}
IsGroundedStanding m pc (Stands inst) = IsGrounded m pc inst

ground-at : (m : Machine) (pc : ℕ) (t : Taken) (o : Option GroundInst) → matched m pc t ≡ o → IsGroundedStanding m pc (ground_standing o)
ground-at m pc t None e = tt
ground-at m pc t (Some g) e =
    record { matched = record { constructor = t.constructor; leaves = t.leaves }; next = (pc + t.len) % 2 ^ 32; fits = mod-lt (pc + t.len) (pow_pos 32); is = e }

match-at : (m : Machine) (pc : ℕ) (o : Option Taken) → IsGroundedStanding m pc (match_standing m pc o)
match-at m pc None = tt
match-at m pc (Some t) = ground-at m pc t (matched m pc t) refl

code-at : (setting : Setting) (pc : ℕ) (o : Option (List ℕ)) → IsGroundedStanding setting.machine pc (code_standing setting pc o)
code-at setting pc None = tt
code-at setting pc (Some bytes) = match-at setting.machine pc (instruction setting.encodings bytes)

pub standing-grounded : (setting : Setting) (pc : ℕ) (inst : GroundInst) → standing setting pc ≡ Stands inst → IsGrounded setting.machine pc inst
standing-grounded setting pc inst e = subst (IsGroundedStanding setting.machine pc) e (code-at setting pc (code_from setting.frozen pc))

pub standing-sound : (setting : Setting) (pc : ℕ) (inst : GroundInst) → IsSoundMachine setting.machine → pc < 2 ^ 32 → standing setting pc ≡ Stands inst → AreSoundTransfers setting.machine inst.transfers
standing-sound setting pc inst sound fits e =
    let g = standing-grounded setting pc inst e in
    grounds_sound setting.machine g.matched pc g.next inst sound fits g.fits g.is
