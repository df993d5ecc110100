-- The numbers that instructions are made from: the upper bits of a linear congruential sequence.
use Rattle.std.specs.Prelude.{ℕ, zero, suc, ◌+◌, ◌*◌, ◌/◌, ◌%◌, ◌^◌}

-- the state that follows a state
unfoldable pub next_state : ℕ → ℕ
next_state x = (x * 6364136223846793005 + 1442695040888963407) % 2 ^ 64

-- the state after so many steps from a start
unfoldable pub state_after : ℕ → ℕ → ℕ
state_after start zero = start
state_after start (suc n) = next_state (state_after start n)

-- the number for a place, counted from 0: the upper 31 bits of the state after that place's step
unfoldable pub number_at : ℕ → ℕ → ℕ
number_at start place = state_after start (suc place) / 2 ^ 33
