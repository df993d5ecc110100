use Rattle.std.proofs.Common.{sym}
use Rattle.std.specs.Prelude.{slice_get}
use Rattle.ssl_core.specs.State.{shown}
use Rattle.ssl_core.proofs.StoodLemmas.{noted_now}
use Rattle.ssl_core.proofs.noting.noted.Goals as goal

pub returns-in-Some : goal.returns-in-Some
returns-in-Some c = λ enc h.
    noted_now enc (shown c.args.given.now) c.args.kind (slice_get c.args.given.now.stands c.args.kind) (λ s e. h.stood c.args.kind s e) c.in-Some.stands.now (sym c.in-Some.ensures.value)
