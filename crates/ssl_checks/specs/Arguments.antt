-- One argument of a call.
use Rattle.std.specs.Prelude.{ℕ, List, [], ◌∷◌, Option, None}
use Rattle.ssl_rules.specs.declared.widths.Mismatch.{Mismatch}
use Rattle.ssl_rules.specs.declared.widths.Measure.{Measure}
use Rattle.ssl_rules.specs.Widths.{asked_of}

-- an argument against the first of these parameters' widths
abbrev pub argument_differs : List ℕ → Measure → Option Mismatch
argument_differs [] m = None
argument_differs (w ∷ ws) m = asked_of w m
