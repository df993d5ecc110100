-- Objects in memory whose calls fail by their number.
use Rattle.std.specs.Prelude.{ℕ, ◌==◌, Bool, List}
use Rattle.std.specs.List.{list_any}
use Rattle.edge_io.specs.Counts.{counted}

-- the call after so many calls is one of those that fail; the first call has the number 1
abbrev pub fails_next : List ℕ → ℕ → Bool
fails_next fails calls = list_any (λ number. number == counted calls 1) fails
