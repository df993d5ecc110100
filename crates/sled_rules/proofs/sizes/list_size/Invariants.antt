use Rattle.std.proofs.Common.{◌≡◌, min, take}
use Rattle.rtl_core.specs.SoundEncodings.{list_size}
use Rattle.sled_rules.specs.Sizes.{most_of}
use Rattle.sled_rules.proofs.sizes.list_size.Given as goal

abbrev pub invariant-loop-kind : goal.invariant-loop-kind
invariant-loop-kind l = l.size ≡ min (list_size (most_of l.facts) (take l.kind-index l.kinds)) 9
