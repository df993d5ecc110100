-- The setting that a bundle is, and when it is sound.
use Rattle.std.specs.Prelude.{ℕ, ◌+◌, ◌^◌, ◌≤◌, length}
use Rattle.std.specs.List.{All}
use Rattle.rtl_core.specs.declared.frozen.Frozen.{Frozen}
use Rattle.rtl_core.specs.SoundConv.{AreSoundTogether}
use Rattle.decode.specs.At.{AreShort}
use Rattle.decode.specs.declared.Bundle.{Bundle}
use Rattle.points.specs.Machine.{Setting}

-- the setting that a bundle is
abbrev pub setting_of : Bundle → Setting
setting_of on = record { encodings = on.matcher.now; machine = on.machine.now; conv = on.conv.now; frozen = on.frozen.now }

-- the descriptions are sound together, and the parts of the image are short
pub record IsSoundSetting (setting : Setting) : Type 0 where
  pub sound : AreSoundTogether setting.encodings setting.machine setting.conv
  pub short : AreShort setting.frozen

-- a bundle of a sound triple with an image of short parts
abbrev pub IsSoundBundle : Bundle → Type 0
IsSoundBundle on = IsSoundSetting (setting_of on)

-- the bytes that no store changes lie below 2^32
abbrev pub LieInMemory : Frozen → Type 0
LieInMemory frozen = All (λ p. p.base + length p.bytes ≤ 2 ^ 32) frozen.parts
