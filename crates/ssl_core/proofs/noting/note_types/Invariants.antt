use Rattle.std.proofs.Common.{◌≡◌}
use Rattle.ssl_core.specs.State.{shown, Holds}
use Rattle.ssl_core.proofs.noting.note_types.Given as goal

abbrev pub invariant-loop-kind : goal.invariant-loop-kind
invariant-loop-kind l = record { same : shown l.given ≡ shown l.fn.given; holds : Holds l.enc l.given }
