use Rattle.std.proofs.Common.{◌≡◌, ℕ, ◌==◌, Bool, true, false, Option, None, Some, option_map, refl, sym}
use Rattle.std.specs.Prelude.{if◌then◌else◌}
use Rattle.std.proofs.Math.Path.{fun_ext}
use Rattle.rtl_core.specs.declared.frozen.Frozen.{Frozen}
use Rattle.rtl_core.specs.Code.{frozen_byte}
use Rattle.rtl_core.specs.Contents.{rewritten, put}
use Rattle.points.specs.PartialRuns.{frozen_contents, fixed}
use Rattle.jumptables.proofs.frozen_memory.FrozenMemoryMemory.store8.Goals as goal

fixed-stays : (o : Option ℕ) (v : ℕ) → rewritten (option_map fixed o) v ≡ option_map fixed o
fixed-stays None v = refl
fixed-stays (Some b) v = refl

either-stays : (o : Option ℕ) (v : ℕ) (b : Bool) → (if b then rewritten (option_map fixed o) v else option_map fixed o) ≡ option_map fixed o
either-stays o v true = fixed-stays o v
either-stays o v false = refl

all-stays : (f : Frozen) (a v : ℕ) → put (frozen_contents f) a v ≡ frozen_contents f
unfolding put
all-stays f a v = fun_ext (λ (at : ℕ). either-stays (frozen_byte f at) v (at == a))

pub returns-clause-contents : goal.returns-clause-contents
returns-clause-contents c = sym (all-stays c.args.self.now.frozen.now c.args._a c.args._v)
