-- What lowering asks of the instruction at an address.
use Rattle.std.proofs.Common.{◌≡◌, ℕ, ◌^◌, ◌<◌, ◌≤◌, ap}
use Rattle.rtl_core.specs.declared.inst.GroundInst.{GroundInst}
use Rattle.rtl_core.specs.SoundMachine.{IsSoundMachine}
use Rattle.rtl_core.specs.SoundTerms.{AreSoundTransfers}
use Rattle.points.specs.declared.block.Block.TheVariants as Block
use Rattle.points.specs.declared.block.JumpKind.{JumpKind}
use Rattle.points.specs.Kinds.{block_at, block_of}
use Rattle.points.specs.declared.block.Standing.{Standing}
use Rattle.points.specs.declared.block.Standing.TheVariants.{Outside, Illegal, Stands}
use Rattle.points.specs.Machine.{Setting, standing}
use Rattle.points.proofs.StandingSound.{standing-grounded, standing-sound}
use Rattle.c_lower.specs.Accounts.{lowered_need}
use Rattle.c_lower.proofs.GroundBound.{all_within}

of-standing : (setting : Setting) (s : Standing) (inst : GroundInst) (kind : JumpKind) → block_of setting s ≡ Block.Inst inst kind → s ≡ Stands inst
of-standing setting Outside inst kind e = cc
of-standing setting Illegal inst kind e = cc
of-standing setting (Stands i) inst kind e = let same : i ≡ inst = cc in ap Stands same

module _ (setting : Setting) (pc : ℕ) (inst : GroundInst) (kind : JumpKind) (sound : IsSoundMachine setting.machine) (fits : pc < 2 ^ 32) (here : block_at setting pc ≡ Block.Inst inst kind) where
  stands : standing setting pc ≡ Stands inst
  unfolding block_at
  stands = of-standing setting (standing setting pc) inst kind here

  pub few_temporaries : lowered_need inst.transfers ≤ 261
  few_temporaries = let g = standing-grounded setting pc inst stands in let within = all_within setting.machine sound g.matched pc g.next inst g.is fits g.fits in within.temps

  pub transfers_sound : AreSoundTransfers setting.machine inst.transfers
  transfers_sound = standing-sound setting pc inst sound fits stands
