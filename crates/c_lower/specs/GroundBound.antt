-- The bounds of an instruction in the numbers of its machine.
use Rattle.std.specs.Prelude.{◌≡◌, ℕ, ◌+◌, ◌*◌, ◌^◌, ◌<◌, ◌≤◌, Bool, Some}
use Rattle.rtl_core.specs.declared.inst.Inst.{Inst}
use Rattle.rtl_core.specs.declared.inst.GroundInst.{GroundInst}
use Rattle.rtl_core.specs.declared.machine.Machine.{Machine}
use Rattle.rtl_core.specs.Grounding.{grounded}
use Rattle.rtl_core.specs.SoundMachine.{IsSoundMachine}
use Rattle.c_lower.specs.Accounts.{lowered_steps, lowered_need}
use Rattle.c_lower.specs.Naming.{NamesAll}
use Rattle.c_lower.specs.Theorem.{IsLowered}

-- eight steps for each node of the largest template and 64 more are enough, and so are 261 temporaries
pub record IsWithin (m : Machine) (g : GroundInst) : Type 0 where
  pub steps : lowered_steps m g.transfers ≤ 8 * m.most_nodes + 64
  pub temps : lowered_need g.transfers ≤ 261

-- so is every instruction of a sound machine
abbrev pub AllWithin : Type 0
AllWithin = (m : Machine) → IsSoundMachine m → (inst : Inst) (pc next : ℕ) (g : GroundInst)
    → grounded m inst pc next ≡ Some g → pc < 2 ^ 32 → next < 2 ^ 32 → IsWithin m g

-- every instruction of a sound machine is lowered, over all its cells and enough temporaries
abbrev pub AllInstructionsLowered : Type 0
AllInstructionsLowered = (m : Machine) → IsSoundMachine m → (inst : Inst) (pc next : ℕ) (g : GroundInst)
    → grounded m inst pc next ≡ Some g → pc < 2 ^ 32 → next < 2 ^ 32
    → (named : ℕ → Bool) → NamesAll m named → (temps : ℕ) → 261 ≤ temps → IsLowered m pc g.transfers named temps
