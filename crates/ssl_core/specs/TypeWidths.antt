-- Templates of one type.
use Rattle.std.specs.Prelude.{ℕ, Option, Some, None}
use Rattle.ssl_rules.specs.declared.widths.Mismatch.{Mismatch}
use Rattle.ssl_rules.specs.declared.widths.Measure.{Measure}
use Rattle.ssl_rules.specs.Widths.{asked}

-- a template's width against that of the first template of its type, where there is one
abbrev pub against : Option ℕ → Measure → Option Mismatch
against None m = None
against (Some w) m = asked w m.width
