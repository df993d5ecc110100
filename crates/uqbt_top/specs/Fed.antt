-- When the input is told as too long.
use Rattle.std.specs.Prelude.{◌≡◌, ◌+◌, ◌<◌}
use Rattle.edge_io.specs.Input.{Input}
use Rattle.uqbt_top.specs.WholeInput.{most_input}
use Rattle.uqbt_top.specs.declared.outcome.Outcome.{Outcome}
use Rattle.uqbt_top.specs.declared.outcome.Outcome.TheVariants.{InputTooLong}

-- where more was given than the input may have, that is the answer
abbrev pub TooLongIsExact : Input → Input → Outcome → Type 0
TooLongIsExact input input' outcome = input.given + most_input < input'.given → outcome ≡ InputTooLong
