-- What a sound machine promises of its instructions.
use Rattle.std.specs.Prelude.{◌≡◌, ℕ, ◌^◌, ◌<◌, Some}
use Rattle.rtl_core.specs.declared.inst.Inst.{Inst}
use Rattle.rtl_core.specs.declared.inst.GroundInst.{GroundInst}
use Rattle.rtl_core.specs.declared.machine.Machine.{Machine}
use Rattle.rtl_core.specs.Grounding.{grounded}
use Rattle.rtl_core.specs.SoundMachine.{IsSoundMachine}
use Rattle.rtl_core.specs.SoundTerms.{AreSoundTransfers}

-- the transfers of an instruction are sound once all is put in
abbrev pub GroundsSound : Type 0
GroundsSound =
    (m : Machine) (inst : Inst) (pc next : ℕ) (g : GroundInst) → IsSoundMachine m → pc < 2 ^ 32 → next < 2 ^ 32 → grounded m inst pc next ≡ Some g
    → AreSoundTransfers m g.transfers
