-- The width of the first template of each type.
use Rattle.std.specs.Prelude.{ℕ, List, slice_get, slice_set, Option, Some, None}

abbrev pub width_put : List (Option ℕ) → ℕ → ℕ → Option (Option ℕ) → List (Option ℕ)
width_put ws t w (Some None) = slice_set ws t (Some w)
width_put ws t w _ = ws

-- a width for type t, unless it has one
abbrev pub with_width : List (Option ℕ) → ℕ → ℕ → List (Option ℕ)
with_width ws t w = width_put ws t w (slice_get ws t)
