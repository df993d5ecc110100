-- Counts of 64 bits, which stand still at their end.
use Rattle.std.specs.Prelude.{ℕ, ◌+◌, ◌-◌, ◌^◌, ◌≤◌, min, max, Result, Ok, Err, OnErr}

-- a count that went up by n, to 2^64 - 1 at most
abbrev pub counted : ℕ → ℕ → ℕ
counted count n = max count (min (count + n) (2 ^ 64 - 1))

-- the count rose, or it stands at its end
abbrev pub Rose : ℕ → ℕ → Type 0
Rose before now = counted before 1 ≤ now

-- a count of faults never falls, and a failure comes only where it rose
pub record HasCause {T E : Type 0} (before now : ℕ) (result : Result T E) : Type 0 where
  pub later : before ≤ now
  pub failed : OnErr result (Rose before now)

-- a count that goes up by one at each failure and at nothing else
abbrev pub faults_after : {T E : Type 0} → ℕ → Result T E → ℕ
faults_after count (Ok _) = count
faults_after count (Err _) = counted count 1
