use Rattle.std.proofs.Common.{◌≡◌, ℕ, ◌==◌, Bool, true, false, Option, None, refl, sym}
use Rattle.std.specs.Prelude.{if◌then◌else◌}
use Rattle.std.proofs.Math.Path.{fun_ext}
use Rattle.rtl_core.specs.Contents.{Contents, Held, rewritten, put}
use Rattle.points.proofs.constants.UnmappedMemory.store8.Goals as goal

abbrev none : Option Held
none = None

abbrev unmapped : Contents
unmapped = λ a. none

at-any : (v : ℕ) (b : Bool) → (if b then rewritten none v else none) ≡ none
at-any v true = refl
at-any v false = refl

unwritten : (a v : ℕ) → put unmapped a v ≡ unmapped
unfolding put
unwritten a v = fun_ext (λ (at : ℕ). at-any v (at == a))

pub returns-clause-contents : goal.returns-clause-contents
returns-clause-contents c = sym (unwritten c.args._a c.args._v)
