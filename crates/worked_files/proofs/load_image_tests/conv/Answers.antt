use Rattle.std.proofs.Common.{◌≡◌, refl, inr, arith}
use Rattle.std.specs.Prelude.{Some, None}
use Rattle.std.proofs.lemmas.List.Elements.{All-nil, All-same}
use Rattle.rtl_core.specs.SoundConv.{IsWord}
use Rattle.worked_files.proofs.load_image_tests.conv.Goals as goal

pub returns : goal.returns
returns c = record {
  elf = omega arith;
  stack = record { base = refl; size = refl; some = omega arith; few = omega arith; end = omega arith };
  heap = record { base = refl; size = refl; some = omega arith; few = omega arith; end = omega arith };
  apart = inr (omega arith);
  room = omega arith;
  aligned = refl;
  first = omega arith;
  numbers = λ s e. absurd (let z : None ≡ Some s = e in cc);
  entries = All-same IsWord _ _ c.new-3.ensures (All-nil IsWord);
  wholes = All-same IsWord _ _ c.new-4.ensures (All-nil IsWord);
  args = λ offset e. absurd (let z : None ≡ Some offset = e in cc);
}
